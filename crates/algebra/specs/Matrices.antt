-- Multiplication matrices, and what their agreement tells of the ideal.
--   multiplication O n before L k j i    T_k: row j of the normal form of x_k times the staircase monomial at place i
--   matrices F n before L                those of polynomials over a field
--   Commuting F n D A                    A k A l = A l A k, for any two of the n matrices A of D rows and columns
--   value F n before L p                 the evaluation of p at the multiplication matrices, put to the unit vector of the monomial 1
--   combined F n before L v              the combination of the staircase by the vector v
--   Agree F n before L                   the multiplication matrices agree: any two of them commute
--   Congruences F n before L             T_k v is congruent to x_k times v, and every polynomial to the combination of its value
--   Agreement F n before L               the matrices agree exactly when no nonzero combination of the staircase belongs to the ideal; then membership is
--                                        value zero, and no other combination is congruent to a polynomial
--   CongruencesHold, AgreementHolds    of polynomials that passed, over every lawful field
-- Used by: shaped bases.
use Rattle.std.specs.Prelude.{◌≡◌, ℕ, ◌<◌, Bool, ◌⊎◌, ◌↔◌, List, slice_index_or}
use Rattle.field.specs.Meaning.{FieldMeaning, FieldLaws}
use Rattle.algebra.specs.Field.{Field}
use Rattle.algebra.specs.Vector.{sum, basis, apply}
use Rattle.algebra.specs.Elements.{Elem, field_of}
use Rattle.algebra.specs.Monomial.{Mono, times, var}
use Rattle.algebra.specs.Polynomial.{Poly, term_mul, combination}
use Rattle.algebra.specs.Ideal.{Member, Congruent, SomeCombination}
use Rattle.algebra.specs.Evaluation.{evaluate}
use Rattle.algebra.specs.Order.{Ordered}
use Rattle.algebra.specs.NormalForm.{Arithmetic, arith_of}
use Rattle.algebra.specs.Basis.{dim, stair, normal_form, Passed}

abbrev pub multiplication : {K : Type 0} → Arithmetic K → (n : ℕ) → (Mono n → Mono n → Bool) → List (Poly K n) → ℕ → ℕ → ℕ → K
multiplication O n before L k j i = slice_index_or (normal_form O n before L (times n (var n k) (stair n before L i))) j O.zer

module _ {K : Type 0} (F : Field K) (n : ℕ) where
  abbrev pub Commuting : ℕ → (ℕ → ℕ → ℕ → K) → Type 0
  Commuting D A = (k l : ℕ) → k < n → l < n → (i j : ℕ) → i < D → j < D → sum F D (λ r. F.◌⊗◌ (A k j r) (A l r i)) ≡ sum F D (λ r. F.◌⊗◌ (A l j r) (A k r i))

  module _ (before : Mono n → Mono n → Bool) (L : List (Poly K n)) where
    abbrev pub matrices : ℕ → ℕ → ℕ → K
    matrices = multiplication (arith_of F) n before L

    abbrev pub value : Poly K n → ℕ → K
    value p = evaluate F n (λ k. apply F (dim n before L) (matrices k)) (basis F 0) p

    abbrev pub combined : (ℕ → K) → Poly K n
    combined v = combination (dim n before L) (stair n before L) v

    abbrev pub Agree : Type 0
    Agree = Commuting (dim n before L) matrices

    pub record Congruences : Type 0 where
      pub times_variable : (k : ℕ) → k < n → (v : ℕ → K) → Congruent F n L (combined (apply F (dim n before L) (matrices k) v)) (term_mul F n F.one (var n k) (combined v))
      pub polynomial : (p : Poly K n) → Congruent F n L p (combined (value p))

    pub record Agreement : Type 0 where
      pub decided : Agree ⊎ SomeCombination F n L (dim n before L) (stair n before L)
      pub exactly : Agree ↔ (SomeCombination F n L (dim n before L) (stair n before L) → ⊥)
      pub members : Agree → (p : Poly K n) → Member F n L p ↔ ((j : ℕ) → j < dim n before L → value p j ≡ F.zer)
      pub only : Agree → (p : Poly K n) (v : ℕ → K) → Congruent F n L p (combined v) → (j : ℕ) → j < dim n before L → v j ≡ value p j

abbrev pub CongruencesHold : Type 0
CongruencesHold = (m : FieldMeaning) (laws : FieldLaws m) (n : ℕ) (before : Mono n → Mono n → Bool) → Ordered n before → (L : List (Poly (Elem m) n)) → Passed (field_of m laws) n before L → Congruences (field_of m laws) n before L

abbrev pub AgreementHolds : Type 0
AgreementHolds = (m : FieldMeaning) (laws : FieldLaws m) (n : ℕ) (before : Mono n → Mono n → Bool) → Ordered n before → (L : List (Poly (Elem m) n)) → Passed (field_of m laws) n before L → Agreement (field_of m laws) n before L
