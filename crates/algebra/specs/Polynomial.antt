-- Polynomials as lists of terms, in any order, repeats and zeros allowed.
--   Poly K n              the polynomials of n variables with coefficients in K: lists of a coefficient and a monomial
--   ev F p w              the sum of c × w a over the terms (c, a) of p: what p is under a linear functional with the values w
--   indicator F n m a     one where a is m, and zero elsewhere
--   coeff F n p m         the coefficient of m in p
--   ◌≈◌ F n p q           p and q are the same polynomial: every coefficient agrees
--   term_mul F n c m p    the term c m times p
--   mul F n p q           the product; the sum is p ++ q
--   combination D s v     the polynomial of the terms v i × s i with i below D
-- Used by: ideals, evaluation, normal forms and shaped bases.
use Rattle.std.specs.Prelude.{◌≡◌, ℕ, zero, suc, cond, List, [], ◌∷◌, ◌++◌, map}
use Rattle.algebra.specs.Field.{Field}
use Rattle.algebra.specs.Monomial.{Mono, times, equal}

abbrev pub Poly : Type 0 → ℕ → Type 0
Poly K n = List (K × Mono n)

abbrev pub combination : {K M : Type 0} → ℕ → (ℕ → M) → (ℕ → K) → List (K × M)
combination zero s v = []
combination (suc D) s v = (v D, s D) ∷ combination D s v

module _ {K : Type 0} (F : Field K) where
  open F use {zer, one, ◌⊕◌, ◌⊗◌}

  infixl 65 ◌⊕◌
  infixl 70 ◌⊗◌
  abbrev pub ev : {A : Type 0} → List (K × A) → (A → K) → K
  ev [] w = zer
  ev (t ∷ p) w = t.0 ⊗ w t.1 ⊕ ev p w

  module _ (n : ℕ) where
    abbrev pub indicator : Mono n → Mono n → K
    indicator m a = cond (equal n m a) one zer

    abbrev pub coeff : Poly K n → Mono n → K
    coeff p m = ev p (indicator m)

    infix 50 ◌≈◌
    abbrev pub ◌≈◌ : Poly K n → Poly K n → Type 0
    ◌≈◌ p q = (m : Mono n) → coeff p m ≡ coeff q m

    abbrev pub term_mul : K → Mono n → Poly K n → Poly K n
    term_mul c m p = map (λ (t : K × Mono n). (c ⊗ t.0, times n m t.1)) p

    abbrev pub mul : Poly K n → Poly K n → Poly K n
    mul [] q = []
    mul (t ∷ p) q = term_mul t.0 t.1 q ++ mul p q
