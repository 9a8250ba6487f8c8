-- The staircase, the border and the normal forms of a list of polynomials.
--   leads n L                       the leading monomials of polynomials L
--   lead_at, rest_at n L p          the leading monomial and the rest of the polynomial at place p
--   stairs, edges n before L        their staircase and its border
--   dim n before L                  D, the number of its members
--   stair n before L i              its monomial at place i
--   table O n before L              the normal forms of the border monomials, taken in increasing order
--   normal_form O n before L t      the normal form of a staircase or border monomial t
--   Passed F n before L             the polynomials are monic with terms that fall, none is led by 1, none of the leading monomials divides another,
--                                   the staircase is finite, and it holds every later term: what the questions before the last one leave
--   form_at F n before L t j        the normal form of t at place j
--   NormalForms F n before L       the normal forms are unit vectors in the staircase and keep the two rules on the border
--   NormalFormsHold               those of polynomials that passed are such
-- Used by: the multiplication matrices, and the questions put to the polynomials of a job.
use Rattle.std.specs.Prelude.{◌≡◌, ℕ, ◌<◌, ◌≤◌, Bool, true, ◌≢◌, List, [], ◌∷◌, map, length, slice_index_or}
use Rattle.std.specs.List.{AllByRecursion}
use Rattle.field.specs.Meaning.{FieldMeaning, FieldLaws}
use Rattle.algebra.specs.Field.{Field}
use Rattle.algebra.specs.Vector.{basis, apply, Least}
use Rattle.algebra.specs.Elements.{Elem, field_of}
use Rattle.algebra.specs.Monomial.{Mono, one, times, var, exponent, divides, lower, Among}
use Rattle.algebra.specs.Polynomial.{Poly}
use Rattle.algebra.specs.Order.{Ordered}
use Rattle.algebra.specs.Staircase.{Bounded, staircase}
use Rattle.algebra.specs.Border.{border}
use Rattle.algebra.specs.NormalForm.{Arithmetic, arith_of, Table, coefficient, lead, rest, form, fill}

module _ {K : Type 0} (n : ℕ) (L : List (Poly K n)) where
  abbrev pub leads : List (Mono n)
  leads = map (lead n) L

  abbrev pub lead_at : ℕ → Mono n
  lead_at p = lead n (slice_index_or L p [])

  abbrev pub rest_at : ℕ → Poly K n
  rest_at p = rest n (slice_index_or L p [])

module _ {K : Type 0} (n : ℕ) (before : Mono n → Mono n → Bool) (L : List (Poly K n)) where
  abbrev pub stairs : List (Mono n)
  stairs = staircase n before (leads n L)

  abbrev pub edges : List (Mono n)
  edges = border n before stairs

  abbrev pub dim : ℕ
  dim = length stairs

  abbrev pub stair : ℕ → Mono n
  stair i = slice_index_or stairs i (one n)

module _ {K : Type 0} (O : Arithmetic K) (n : ℕ) (before : Mono n → Mono n → Bool) (L : List (Poly K n)) where
  abbrev pub table : Table K n
  table = fill O n (stairs n before L) (edges n before L) L (edges n before L) []

  abbrev pub normal_form : Mono n → List K
  normal_form t = form O n (stairs n before L) table t

module _ {K : Type 0} (F : Field K) (n : ℕ) (before : Mono n → Mono n → Bool) (L : List (Poly K n)) where
  pub record Passed : Type 0 where
    pub monic : (p : ℕ) → p < length L → slice_index_or L p [] ≡ (F.one, lead_at n L p) ∷ rest_at n L p
    pub falls : (p : ℕ) → p < length L → AllByRecursion (λ t. before t.1 (lead_at n L p) ≡ true) (rest_at n L p)
    pub not_one : (p : ℕ) → p < length L → lead_at n L p ≢ one n
    pub bounded : Bounded n (leads n L)
    pub apart : (p q : ℕ) → p < length L → q < length L → divides n (lead_at n L p) (lead_at n L q) ≡ true → p ≡ q
    pub inside : (p : ℕ) → p < length L → AllByRecursion (λ t. Among n t.1 (stairs n before L)) (rest_at n L p)

  abbrev pub form_at : Mono n → ℕ → K
  form_at t j = slice_index_or (normal_form (arith_of F) n before L t) j F.zer

  pub record NormalForms : Type 0 where
    pub inner : (i : ℕ) → i < dim n before L → (j : ℕ) → j < dim n before L → form_at (stair n before L i) j ≡ basis F i j
    pub leading : (p : ℕ) → p < length L → (j : ℕ) → j < dim n before L → form_at (lead_at n L p) j ≡ F.neg (coefficient (arith_of F) n (rest_at n L p) (stair n before L j))
    pub other : (t : Mono n) → Among n t (edges n before L) → ((p : ℕ) → p < length L → lead_at n L p ≢ t)
        → (k : ℕ) × Least (λ k. (k < n) × (1 ≤ exponent n t k) × Among n (lower n k t) (edges n before L)) k
        × ((j : ℕ) → j < dim n before L → form_at t j ≡ apply F (dim n before L) (λ j i. form_at (times n (var n k) (stair n before L i)) j) (form_at (lower n k t)) j)

abbrev pub NormalFormsHold : Type 0
NormalFormsHold = (m : FieldMeaning) (laws : FieldLaws m) (n : ℕ) (before : Mono n → Mono n → Bool) → Ordered n before → (L : List (Poly (Elem m) n)) → Passed (field_of m laws) n before L → NormalForms (field_of m laws) n before L
