-- What the laws of a field give: zero, one, opposites, differences and quotients.
use Rattle.std.proofs.Common.{◌≡◌, ◌≢◌, sym, ap, ◌∙◌, ap₂}
use Rattle.algebra.specs.Field.{Field}

module _ {K : Type 0} (F : Field K) where
  open F use {zer, one, ◌⊕◌, ◌⊗◌, neg, inv, add_assoc, add_comm, add_zero, add_neg, mul_assoc, mul_comm, mul_one, distrib, mul_inv}

  infixl 65 ◌⊕◌
  infixl 70 ◌⊗◌
  pub zero_add : (a : K) → zer ⊕ a ≡ a
  zero_add a = add_comm zer a ∙ add_zero a

  pub add_left_comm : (a b c : K) → a ⊕ (b ⊕ c) ≡ b ⊕ (a ⊕ c)
  add_left_comm a b c = sym (add_assoc a b c) ∙ ap (λ x. x ⊕ c) (add_comm a b) ∙ add_assoc b a c

  pub mul_left_comm : (a b c : K) → a ⊗ (b ⊗ c) ≡ b ⊗ (a ⊗ c)
  mul_left_comm a b c = sym (mul_assoc a b c) ∙ ap (λ x. x ⊗ c) (mul_comm a b) ∙ mul_assoc b a c

  pub add_swap : (a b c d : K) → (a ⊕ b) ⊕ (c ⊕ d) ≡ (a ⊕ c) ⊕ (b ⊕ d)
  add_swap a b c d = simp (add_assoc, add_left_comm)

  pub neg_add : (a : K) → neg a ⊕ a ≡ zer
  neg_add a = add_comm (neg a) a ∙ add_neg a

  -- a number and its opposite cancel inside a sum
  pub neg_add_left : (a b : K) → neg a ⊕ (a ⊕ b) ≡ b
  neg_add_left a b = sym (add_assoc (neg a) a b) ∙ ap (λ x. x ⊕ b) (neg_add a) ∙ zero_add b

  pub cancel : (a b c : K) → a ⊕ b ≡ a ⊕ c → b ≡ c
  cancel a b c e = sym (neg_add_left a b) ∙ ap (λ x. neg a ⊕ x) e ∙ neg_add_left a c

  pub mul_zero : (a : K) → a ⊗ zer ≡ zer
  mul_zero a = cancel (a ⊗ zer) (a ⊗ zer) zer (sym (distrib a zer zer) ∙ ap (λ x. a ⊗ x) (add_zero zer) ∙ sym (add_zero _))

  pub zero_mul : (a : K) → zer ⊗ a ≡ zer
  zero_mul a = mul_comm zer a ∙ mul_zero a

  pub one_mul : (a : K) → one ⊗ a ≡ a
  one_mul a = mul_comm one a ∙ mul_one a

  pub distrib_right : (a b c : K) → (a ⊕ b) ⊗ c ≡ a ⊗ c ⊕ b ⊗ c
  distrib_right a b c = mul_comm (a ⊕ b) c ∙ distrib c a b ∙ ap₂ (λ x y. x ⊕ y) (mul_comm c a) (mul_comm c b)

  pub mul_neg : (a b : K) → a ⊗ neg b ≡ neg (a ⊗ b)
  mul_neg a b = cancel (a ⊗ b) _ _ (sym (distrib a b (neg b)) ∙ ap (λ x. a ⊗ x) (add_neg b) ∙ mul_zero a ∙ sym (add_neg _))

  pub neg_mul : (a b : K) → neg a ⊗ b ≡ neg (a ⊗ b)
  neg_mul a b = mul_comm (neg a) b ∙ mul_neg b a ∙ ap neg (mul_comm b a)

  pub neg_neg : (a : K) → neg (neg a) ≡ a
  neg_neg a = cancel (neg a) _ _ (add_neg (neg a) ∙ sym (neg_add a))

  pub neg_zero : neg zer ≡ zer
  neg_zero = sym (zero_add (neg zer)) ∙ add_neg zer

  pub from_diff : (a b : K) → a ⊕ neg b ≡ zer → a ≡ b
  from_diff a b e = cancel (neg b) a b (add_comm (neg b) a ∙ e ∙ sym (neg_add b))

  pub inv_mul : (a : K) → a ≢ zer → inv a ⊗ a ≡ one
  inv_mul a h = mul_comm (inv a) a ∙ mul_inv a h

  -- the quotient
  pub quot : (a b : K) → b ≢ zer → (a ⊗ inv b) ⊗ b ≡ a
  quot a b h = mul_assoc a (inv b) b ∙ ap (λ x. a ⊗ x) (inv_mul b h) ∙ mul_one a

  -- differences are written a + (-1) b
  pub neg_is : (a : K) → neg a ≡ neg one ⊗ a
  neg_is a = sym (neg_mul one a ∙ ap neg (one_mul a))

  pub minus_self : (a : K) → a ⊕ neg one ⊗ a ≡ zer
  minus_self a = ap (λ x. a ⊕ x) (sym (neg_is a)) ∙ add_neg a

  pub minus_minus : (a : K) → neg one ⊗ (neg one ⊗ a) ≡ a
  minus_minus a = sym (neg_is (neg one ⊗ a)) ∙ ap neg (sym (neg_is a)) ∙ neg_neg a

  pub telescope : (a b c : K) → (a ⊕ neg one ⊗ b) ⊕ (b ⊕ neg one ⊗ c) ≡ a ⊕ neg one ⊗ c
  telescope a b c =
      ap (λ x. x ⊕ (b ⊕ neg one ⊗ c)) (add_comm a (neg one ⊗ b))
      ∙ add_swap (neg one ⊗ b) a b (neg one ⊗ c)
      ∙ ap (λ x. x ⊕ (a ⊕ neg one ⊗ c)) (add_comm _ _ ∙ minus_self b)
      ∙ zero_add _

  pub equal_of_minus : (a b : K) → a ⊕ neg one ⊗ b ≡ zer → a ≡ b
  equal_of_minus a b e = from_diff a b (ap (λ x. a ⊕ x) (neg_is b) ∙ e)

  pub add_neg_one : (a b : K) → a ⊕ (neg one ⊗ a ⊕ b) ≡ b
  add_neg_one a b = sym (add_assoc a (neg one ⊗ a) b) ∙ ap (λ x. x ⊕ b) (minus_self a) ∙ zero_add b
