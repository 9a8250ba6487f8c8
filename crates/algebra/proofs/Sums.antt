-- Finite sums: splitting, swapping, and picking one place out by a unit vector; and linear functionals.
use Rattle.std.proofs.Common.{◌≡◌, ℕ, zero, suc, ◌+◌, ◌-◌, ◌<◌, ◌≤◌, cond, ◌≢◌, sym, refl, ap, ◌∙◌, ap₂, add-zero as plus-zero, add-suc, arith}
use mathlib.Core.Path.{fun_ext}
use native.Mathlib.Decide.{ℕ_discrete}
use Rattle.std.proofs.lemmas.Bool.{eq-eqb, ne_eqb}
use Rattle.algebra.specs.Field.{Field}
use Rattle.algebra.specs.Vector.{sum, basis}
use Rattle.algebra.proofs.Laws as field

module _ {K : Type 0} (F : Field K) where
  open F use {zer, one, ◌⊕◌, ◌⊗◌, neg, add_assoc, add_comm, add_zero, mul_one, distrib}

  infixl 65 ◌⊕◌
  infixl 70 ◌⊗◌
  pub sum_ext : (n : ℕ) (f g : ℕ → K) → ((i : ℕ) → i < n → f i ≡ g i) → sum F n f ≡ sum F n g
  sum_ext zero f g h = refl
  sum_ext (suc n) f g h = ap₂ (λ x y. x ⊕ y) (sum_ext n f g (λ i l. h i (omega arith))) (h n (omega arith))

  pub sum_zero : (n : ℕ) (f : ℕ → K) → ((i : ℕ) → i < n → f i ≡ zer) → sum F n f ≡ zer
  sum_zero zero f h = refl
  sum_zero (suc n) f h = ap₂ (λ x y. x ⊕ y) (sum_zero n f (λ i l. h i (omega arith))) (h n (omega arith)) ∙ add_zero zer

  pub sum_add : (n : ℕ) (f g : ℕ → K) → sum F n (λ i. f i ⊕ g i) ≡ sum F n f ⊕ sum F n g
  sum_add zero f g = sym (add_zero zer)
  sum_add (suc n) f g = simp (sum_add n f g, add_assoc, field.add_left_comm F, add_comm)

  pub sum_scale : (n : ℕ) (a : K) (f : ℕ → K) → sum F n (λ i. a ⊗ f i) ≡ a ⊗ sum F n f
  sum_scale zero a f = sym (field.mul_zero F a)
  sum_scale (suc n) a f = ap (λ x. x ⊕ a ⊗ f n) (sum_scale n a f) ∙ sym (distrib a _ _)

  pub sum_neg : (n : ℕ) (c f : ℕ → K) → sum F n (λ i. neg (c i) ⊗ f i) ≡ neg one ⊗ sum F n (λ i. c i ⊗ f i)
  sum_neg n c f = sum_ext n _ _ (λ i p. field.neg_mul F _ _ ∙ field.neg_is F _) ∙ sum_scale n (neg one) _

  pub sum_scale_right : (n : ℕ) (a : K) (f : ℕ → K) → sum F n (λ i. f i ⊗ a) ≡ sum F n f ⊗ a
  sum_scale_right zero a f = sym (field.zero_mul F a)
  sum_scale_right (suc n) a f = ap (λ x. x ⊕ f n ⊗ a) (sum_scale_right n a f) ∙ sym (field.distrib_right F _ _ a)

  pub sum_swap : (n m : ℕ) (f : ℕ → ℕ → K) → sum F n (λ i. sum F m (λ j. f i j)) ≡ sum F m (λ j. sum F n (λ i. f i j))
  sum_swap zero m f = sym (sum_zero m _ (λ i l. refl))
  sum_swap (suc n) m f = ap (λ x. x ⊕ sum F m (λ j. f n j)) (sum_swap n m f) ∙ sym (sum_add m (λ j. sum F n (λ i. f i j)) (f n))

  pub sum_split : (n m : ℕ) (f : ℕ → K) → sum F (n + m) f ≡ sum F n f ⊕ sum F m (λ i. f (n + i))
  sum_split n zero f = rw plus-zero (sym (add_zero _))
  sum_split n (suc m) f = rw add-suc (ap (λ x. x ⊕ f (n + m)) (sum_split n m f) ∙ add_assoc _ _ _)

  pub sum_head : (n : ℕ) (f : ℕ → K) → sum F (suc n) f ≡ f 0 ⊕ sum F n (λ i. f (suc i))
  sum_head zero f = add_comm zer (f 0)
  sum_head (suc n) f = ap (λ x. x ⊕ f (suc n)) (sum_head n f) ∙ add_assoc _ _ _

  -- a sum whose terms from d on are zero
  pub sum_cut : (d n : ℕ) (f : ℕ → K) → d ≤ n → ((i : ℕ) → d ≤ i → i < n → f i ≡ zer) → sum F n f ≡ sum F d f
  sum_cut d n f l h =
      ap (λ k. sum F k f) {x = n} {y = d + (n - d)} (omega arith)
      ∙ sum_split d (n - d) f
      ∙ ap (λ z. sum F d f ⊕ z) (sum_zero (n - d) _ (λ i m. h (d + i) (omega arith) (omega arith)))
      ∙ add_zero _

  pub basis_same : (i : ℕ) → basis F i i ≡ one
  basis_same i = ap (λ b. cond b one zer) (eq-eqb i i refl)

  pub basis_other : (i j : ℕ) → i ≢ j → basis F i j ≡ zer
  basis_other i j h = ap (λ b. cond b one zer) (ne_eqb i j h)

  pub basis_sym : (i j : ℕ) → basis F i j ≡ basis F j i
  basis_sym i j = go (ℕ_discrete i j)
    where
      go : Dec (i ≡ j) → basis F i j ≡ basis F j i
      go (yes e) = rw e
      go (no d) = basis_other i j d ∙ sym (basis_other j i (omega arith))

  -- one term alone
  pub sum_single : (n p : ℕ) (f : ℕ → K) → p < n → ((i : ℕ) → i < n → i ≢ p → f i ≡ zer) → sum F n f ≡ f p
  sum_single zero p f l h = absurd (omega arith)
  sum_single (suc n) p f l h = go (ℕ_discrete n p) (λ m. sum_single n p f m (λ i k. h i (omega arith)))
    where
      go : Dec (n ≡ p) → (p < n → sum F n f ≡ f p) → sum F (suc n) f ≡ f p
      go (yes e) ih = ap₂ (λ x y. x ⊕ y) (sum_zero n f (λ i k. h i (omega arith) (omega arith))) (ap f e) ∙ field.zero_add F _
      go (no e) ih = ap₂ (λ x y. x ⊕ y) (ih (omega arith)) (h n (omega arith) e) ∙ add_zero _

  pub sum_basis : (n p : ℕ) (f : ℕ → K) → p < n → sum F n (λ i. f i ⊗ basis F p i) ≡ f p
  sum_basis n p f l =
      sum_single n p _ l (λ i k h. ap (λ x. f i ⊗ x) (basis_other p i (omega arith)) ∙ field.mul_zero F (f i))
      ∙ ap (λ x. f p ⊗ x) (basis_same p)
      ∙ mul_one (f p)

  pub sum_at : (n : ℕ) (f : ℕ → K) (i : ℕ) → i < n → sum F n (λ r. f r ⊗ basis F r i) ≡ f i
  sum_at n f i l = sum_ext n _ _ (λ r m. ap (λ x. f r ⊗ x) (basis_sym r i)) ∙ sum_basis n i f l

  pub sum_past : (n : ℕ) (f : ℕ → K) (i : ℕ) → n ≤ i → sum F n (λ r. f r ⊗ basis F r i) ≡ zer
  sum_past n f i h = sum_zero n _ (λ r p. ap (λ x. f r ⊗ x) (basis_other r i (omega arith)) ∙ field.mul_zero F (f r))

  -- a linear functional of functions on A
  pub record Functional {A : Type 0} (φ : (A → K) → K) : Type 0 where
    pub add : (f g : A → K) → φ (λ a. f a ⊕ g a) ≡ φ f ⊕ φ g
    pub scale : (c : K) (f : A → K) → φ (λ a. c ⊗ f a) ≡ c ⊗ φ f

  pub functional_zero : {A : Type 0} {φ : (A → K) → K} → Functional φ → φ (λ a. zer) ≡ zer
  functional_zero {φ = φ} L = ap φ (fun_ext (λ a. sym (field.zero_mul F zer))) ∙ L.scale zer (λ a. zer) ∙ field.zero_mul F _

  -- a functional of a sum is the sum of its values
  pub sum_through : {A : Type 0} (n : ℕ) {φ : (A → K) → K} → Functional φ → (h : ℕ → A → K) → sum F n (λ i. φ (h i)) ≡ φ (λ b. sum F n (λ i. h i b))
  sum_through zero L h = sym (functional_zero L)
  sum_through (suc n) {φ} L h = ap (λ x. x ⊕ φ (h n)) (sum_through n L h) ∙ sym (L.add (λ b. sum F n (λ i. h i b)) (h n))
