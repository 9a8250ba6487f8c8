-- Ideals of polynomials.
--   multiplied F n q L               the sum of the polynomials of L, the i-th of them times q i
--   Member F n L f                   f belongs to the ideal of L: it is such a sum, for some multipliers
--   Congruent F n L f g              f and g differ by a member
--   SameIdeal F n L G               the same polynomials belong to the ideals of L and G
--   SomeCombination F n L D s       a combination of s 0 .. s (D - 1), not all coefficients zero, belongs to the ideal of L
-- Used by: normal forms, agreement and shaped bases.
use Rattle.std.specs.Prelude.{ℕ, zero, suc, ◌<◌, ◌≢◌, ◌↔◌, List, [], ◌∷◌, ◌++◌}
use Rattle.algebra.specs.Field.{Field}
use Rattle.algebra.specs.Monomial.{Mono, one}
use Rattle.algebra.specs.Polynomial.{Poly, ◌≈◌, term_mul, mul, combination}

module _ {K : Type 0} (F : Field K) (n : ℕ) where
  abbrev pub multiplied : (ℕ → Poly K n) → List (Poly K n) → Poly K n
  multiplied q [] = []
  multiplied q (l ∷ L) = mul F n (q zero) l ++ multiplied (λ i. q (suc i)) L

  abbrev pub Member : List (Poly K n) → Poly K n → Type 0
  Member L f = (q : ℕ → Poly K n) × (◌≈◌ F n f (multiplied q L))

  abbrev pub Congruent : List (Poly K n) → Poly K n → Poly K n → Type 0
  Congruent L f g = Member L (f ++ term_mul F n (F.neg F.one) (one n) g)

  abbrev pub SameIdeal : List (Poly K n) → List (Poly K n) → Type 0
  SameIdeal L G = (f : Poly K n) → Member L f ↔ Member G f

  abbrev pub SomeCombination : List (Poly K n) → ℕ → (ℕ → Mono n) → Type 0
  SomeCombination L D s = (v : ℕ → K) × ((i : ℕ) × (i < D) × (v i ≢ F.zer)) × Member L (combination D s v)
