-- Polynomials through their values under functionals: what ev makes of sums, products and combinations, and that the
-- coefficients determine every value.
use Rattle.std.proofs.Common.{◌≡◌, ℕ, zero, suc, ◌<◌, Bool, true, false, cond, List, [], ◌∷◌, ◌++◌, sym, refl, ap, ◌∙◌, ap₂, arith}
use mathlib.Core.Path.{fun_ext}
use Rattle.algebra.specs.Field.{Field}
use Rattle.algebra.specs.Vector.{sum}
use Rattle.algebra.specs.Monomial.{Mono, times, equal}
use Rattle.algebra.specs.Monomial as spec
use Rattle.algebra.specs.Polynomial.{Poly, ev, indicator, coeff, term_mul, mul, combination}
use Rattle.algebra.proofs.Laws as field
use Rattle.algebra.proofs.Sums as sums
use Rattle.algebra.proofs.Sums.{Functional}
use Rattle.algebra.proofs.Monomials.{unit_left, equal_refl, equal_eq}

module _ {K : Type 0} (F : Field K) where
  open F use {zer, one, ◌⊕◌, ◌⊗◌, neg, add_assoc, add_comm, add_zero, mul_assoc, mul_one, distrib}

  infixl 65 ◌⊕◌
  infixl 70 ◌⊗◌
  module _ {A : Type 0} where
    pub ev_add : (p : List (K × A)) (f g : A → K) → ev F p (λ a. f a ⊕ g a) ≡ ev F p f ⊕ ev F p g
    ev_add [] f g = sym (add_zero zer)
    ev_add (t ∷ p) f g = ap (λ x. t.0 ⊗ (f t.1 ⊕ g t.1) ⊕ x) (ev_add p f g) ∙ simp (distrib, add_assoc, field.add_left_comm F)

    pub ev_scale : (p : List (K × A)) (c : K) (f : A → K) → ev F p (λ a. c ⊗ f a) ≡ c ⊗ ev F p f
    ev_scale [] c f = sym (field.mul_zero F c)
    ev_scale (t ∷ p) c f = ap₂ (λ x y. x ⊕ y) (field.mul_left_comm F t.0 c (f t.1)) (ev_scale p c f) ∙ sym (distrib _ _ _)

    pub ev_functional : (p : List (K × A)) → Functional F (ev F p)
    ev_functional p = record { add = ev_add p; scale = ev_scale p }

    pub ev_append : (p q : List (K × A)) (w : A → K) → ev F (p ++ q) w ≡ ev F p w ⊕ ev F q w
    ev_append [] q w = sym (field.zero_add F (ev F q w))
    ev_append (t ∷ p) q w = ap (λ x. t.0 ⊗ w t.1 ⊕ x) (ev_append p q w) ∙ sym (add_assoc _ _ _)

  pub ev_through : {A B : Type 0} (p : List (K × A)) {φ : (B → K) → K} → Functional F φ → (h : A → B → K) → ev F p (λ a. φ (h a)) ≡ φ (λ b. ev F p (λ a. h a b))
  ev_through [] L h = sym (sums.functional_zero F L)
  ev_through (t ∷ p) {φ} L h = ap₂ (λ x y. x ⊕ y) (sym (L.scale t.0 (h t.1))) (ev_through p L h) ∙ sym (L.add (λ b. t.0 ⊗ h t.1 b) (λ b. ev F p (λ a. h a b)))

  module _ (n : ℕ) where
    pub ev_term : (c : K) (m : Mono n) (p : Poly K n) (w : Mono n → K) → ev F (term_mul F n c m p) w ≡ c ⊗ ev F p (λ a. w (times n m a))
    ev_term c m [] w = sym (field.mul_zero F c)
    ev_term c m (t ∷ p) w = ap₂ (λ x y. x ⊕ y) (mul_assoc c t.0 (w (times n m t.1))) (ev_term c m p w) ∙ sym (distrib _ _ _)

    pub ev_mul : (p q : Poly K n) (w : Mono n → K) → ev F (mul F n p q) w ≡ ev F p (λ a. ev F q (λ b. w (times n a b)))
    ev_mul [] q w = refl
    ev_mul (t ∷ p) q w = ev_append (term_mul F n t.0 t.1 q) (mul F n p q) w ∙ ap₂ (λ x y. x ⊕ y) (ev_term t.0 t.1 q w) (ev_mul p q w)

    -- w put to zero at m
    abbrev off : Mono n → (Mono n → K) → Mono n → K
    off m w a = cond (equal n m a) zer (w a)

    abbrev offs : Poly K n → (Mono n → K) → Mono n → K
    offs [] w = w
    offs (t ∷ p) w = offs p (off t.1 w)

    split : (m : Mono n) (w : Mono n → K) (a : Mono n) → w a ≡ w m ⊗ indicator F n m a ⊕ off m w a
    split m w a = go (equal n m a) refl
      where
        go : (b : Bool) → equal n m a ≡ b → w a ≡ w m ⊗ cond b one zer ⊕ cond b zer (w a)
        go true e = ap w (sym (equal_eq n m a e)) ∙ simp (mul_one, add_zero)
        go false e = simp (field.mul_zero F, field.zero_add F)

    ev_split : (p : Poly K n) (m : Mono n) (w : Mono n → K) → ev F p w ≡ w m ⊗ coeff F n p m ⊕ ev F p (off m w)
    ev_split p m w = ap (ev F p) (fun_ext (split m w)) ∙ ev_add p (λ a. w m ⊗ indicator F n m a) (off m w) ∙ ap (λ x. x ⊕ ev F p (off m w)) (ev_scale p (w m) (indicator F n m))

    off_here : (m : Mono n) (w : Mono n → K) → off m w m ≡ zer
    off_here m w = ap (λ b. cond b zer (w m)) (equal_refl n m)

    off_keeps : (m : Mono n) (w : Mono n → K) (a : Mono n) → w a ≡ zer → off m w a ≡ zer
    off_keeps m w a e = go (equal n m a)
      where
        go : (b : Bool) → cond b zer (w a) ≡ zer
        go true = refl
        go false = e

    offs_keep : (q : Poly K n) (w : Mono n → K) (a : Mono n) → w a ≡ zer → offs q w a ≡ zer
    offs_keep [] w a e = e
    offs_keep (t ∷ q) w a e = offs_keep q (off t.1 w) a (off_keeps t.1 w a e)

    gone : (p q : Poly K n) (w : Mono n → K) → ev F p (offs q (offs p w)) ≡ zer
    gone [] q w = refl
    gone (t ∷ p) q w =
        let m = t.1 in
        ap₂ (λ x y. t.0 ⊗ x ⊕ y) (offs_keep q _ m (offs_keep p _ m (off_here m w))) (gone p q (off m w)) ∙ simp (field.mul_zero F, add_zero)

    module _ (p q : Poly K n) (agree : (m : Mono n) → coeff F n p m ≡ coeff F n q m) where
      steps : (r : Poly K n) (w : Mono n → K) → ev F p (offs r w) ≡ ev F q (offs r w) → ev F p w ≡ ev F q w
      steps [] w e = e
      steps (t ∷ r) w e =
          let m = t.1 in
          ev_split p m w ∙ ap₂ (λ x y. w m ⊗ x ⊕ y) (agree m) (steps r (off m w) e) ∙ sym (ev_split q m w)

      pub same-value : (w : Mono n → K) → ev F p w ≡ ev F q w
      same-value w = steps p w (steps q (offs p w) (gone p q w ∙ sym (gone q [] (offs p w))))

    pub ev_minus : (f g : Poly K n) (w : Mono n → K) → ev F (f ++ term_mul F n (neg one) (spec.one n) g) w ≡ ev F f w ⊕ neg one ⊗ ev F g w
    ev_minus f g w = ev_append f _ w ∙ ap (λ x. ev F f w ⊕ x) (ev_term (neg one) (spec.one n) g w) ∙ simp (unit_left n)

    pub ev_variable : (x : Mono n) (f : Poly K n) (w : Mono n → K) → ev F (term_mul F n one x f) w ≡ ev F f (λ b. w (times n x b))
    ev_variable x f w = ev_term one x f w ∙ field.one_mul F _

  -- combinations of a family of monomials
  module _ {M : Type 0} (s : ℕ → M) where
    pub ev_combination : (D : ℕ) (v : ℕ → K) (w : M → K) → ev F (combination D s v) w ≡ sum F D (λ i. v i ⊗ w (s i))
    ev_combination zero v w = refl
    ev_combination (suc D) v w = ap (λ x. v D ⊗ w (s D) ⊕ x) (ev_combination D v w) ∙ add_comm _ _

    pub combination_ext : (D : ℕ) (a b : ℕ → K) → ((i : ℕ) → i < D → a i ≡ b i) → combination D s a ≡ combination D s b
    combination_ext zero a b e = refl
    combination_ext (suc D) a b e = ap₂ (λ (x : K) (y : List (K × M)). (x, s D) ∷ y) (e D (omega arith)) (combination_ext D a b (λ i p. e i (omega arith)))

    -- the value of a combination is linear in its coefficients
    pub combination_functional : (D : ℕ) (w : M → K) → Functional F (λ v. ev F (combination D s v) w)
    combination_functional D w = record {
      add = λ f g. ev_combination D _ w ∙ ap (sum F D) (fun_ext (λ i. field.distrib_right F _ _ _)) ∙ sums.sum_add F D _ _ ∙ ap₂ (λ x y. x ⊕ y) (sym (ev_combination D f w)) (sym (ev_combination D g w));
      scale = λ c f. ev_combination D _ w ∙ ap (sum F D) (fun_ext (λ i. mul_assoc _ _ _)) ∙ sums.sum_scale F D c _ ∙ ap (λ x. c ⊗ x) (sym (ev_combination D f w));
    }

    pub combination_zero : (D : ℕ) (v : ℕ → K) → ((i : ℕ) → i < D → v i ≡ zer) → (w : M → K) → ev F (combination D s v) w ≡ zer
    combination_zero D v h w = ev_combination D v w ∙ sums.sum_zero F D _ (λ i p. ap (λ x. x ⊗ w (s i)) (h i p) ∙ field.zero_mul F _)

    -- the difference of two combinations
    pub combination_minus : (D : ℕ) (a b : ℕ → K) (w : M → K) → ev F (combination D s (λ i. a i ⊕ neg one ⊗ b i)) w ≡ ev F (combination D s a) w ⊕ neg one ⊗ ev F (combination D s b) w
    combination_minus D a b w = (combination_functional D w).add _ _ ∙ ap (λ x. ev F (combination D s a) w ⊕ x) ((combination_functional D w).scale (neg one) b)
