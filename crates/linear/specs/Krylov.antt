-- Dependence of vectors, and the place where Krylov vectors first depend.
--   Dependent D v      coefficients, not all zero, that combine v 0 .. v D to zero
--   Dimension          any D + 1 vectors of D coordinates are dependent
--   MatricesLinear    a matrix at a vector is a linear map
--   KrylovDegree      the Krylov vectors of a linear map have a degree, at most D, and those before it are independent
-- Used by: whoever asks how many Krylov vectors are independent.
use Rattle.std.specs.Prelude.{◌≡◌, ℕ, suc, ◌<◌, ◌≤◌, ◌≢◌}
use Rattle.field.specs.Meaning.{FieldMeaning, FieldLaws}
use Rattle.algebra.specs.Field.{Field}
use Rattle.algebra.specs.Vector.{sum, Independent, LinearMap, apply, krylov, Degree}
use Rattle.algebra.specs.Elements.{Elem, field_of}

module _ {K : Type 0} (F : Field K) where
  abbrev pub Dependent : ℕ → (ℕ → ℕ → K) → Type 0
  Dependent D v = (c : ℕ → K) × ((p : ℕ) × (p < suc D) × (c p ≢ F.zer)) × ((i : ℕ) → i < D → sum F (suc D) (λ j. F.◌⊗◌ (c j) (v j i)) ≡ F.zer)

abbrev pub Dimension : Type 0
Dimension = (m : FieldMeaning) (laws : FieldLaws m) (D : ℕ) (v : ℕ → ℕ → Elem m) → Dependent (field_of m laws) D v

abbrev pub MatricesLinear : Type 0
MatricesLinear = (m : FieldMeaning) (laws : FieldLaws m) (D : ℕ) (A : ℕ → ℕ → Elem m) → LinearMap (field_of m laws) D (apply (field_of m laws) D A)

abbrev pub KrylovDegree : Type 0
KrylovDegree = (m : FieldMeaning) (laws : FieldLaws m) (D : ℕ) (T : (ℕ → Elem m) → ℕ → Elem m) → LinearMap (field_of m laws) D T → (e : ℕ → Elem m) → (d : ℕ) × (d ≤ D) × Degree (field_of m laws) D (krylov (field_of m laws) T e) d × Independent (field_of m laws) D d (krylov (field_of m laws) T e)
