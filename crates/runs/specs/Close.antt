-- Close: staircase and matrices of the polynomials entered.
--   lead m laws n ps p                the leading monomial of the polynomial at place p
--   HasPower m laws n ps k           some leading monomial is a power of x_k alone
--   Undivided m laws n ps p           no other polynomial's leading monomial divides that of the polynomial at place p
--   Inside m laws cmp n ps p          each later term of the polynomial at place p is in the staircase
--   stairs_asks m laws cmp n ps       the questions 13 to 17, put to the polynomials
--   basis_asks m laws cmp n ps        those and the last, 18: do the matrices agree
--   close_asks m laws cmp j           the questions of Close
-- Used by: Close. It answers D and closes the job.
use Rattle.std.specs.Prelude.{◌≡◌, ℕ, ◌<◌, ◌≤◌, true, ◌≢◌, List, [], ◌∷◌, ◌++◌, length}
use Rattle.std.specs.List.{AllByRecursion}
use Rattle.field.specs.Meaning.{FieldMeaning, FieldLaws}
use Rattle.order.specs.Laws.{Comparison}
use Rattle.algebra.specs.Elements.{field_of}
use Rattle.algebra.specs.Monomial.{Mono, one, power, divides, Among}
use Rattle.algebra.specs.Records.{before_by}
use Rattle.algebra.specs.Basis.{lead_at, rest_at, stairs}
use Rattle.algebra.specs.Matrices.{Agree}
use Rattle.runs.specs.Question.{Question, single, each}
use Rattle.runs.specs.Job.{Term, Job, opened, most_stairs}
use Rattle.runs.specs.Generators.{generators, D}

module _ (m : FieldMeaning) (laws : FieldLaws m) (n : ℕ) (ps : List (List Term)) where
  abbrev pub lead : ℕ → Mono n
  lead p = lead_at n (generators m laws n ps) p

  abbrev pub HasPower : ℕ → Type 0
  HasPower k = (p : ℕ) × (p < length ps) × ((e : ℕ) × (lead p ≡ power n k e))

  abbrev pub Undivided : ℕ → Type 0
  Undivided p = (q : ℕ) → q < length ps → q ≢ p → divides n (lead q) (lead p) ≢ true

module _ (m : FieldMeaning) (laws : FieldLaws m) (cmp : Comparison) (n : ℕ) (ps : List (List Term)) where
  abbrev pub Inside : ℕ → Type 0
  Inside p = AllByRecursion (λ t. Among n t.1 (stairs n (before_by cmp n) (generators m laws n ps))) (rest_at n (generators m laws n ps) p)

  abbrev pub stairs_asks : List Question
  stairs_asks =
      each 13 0 (length ps) (λ p. lead m laws n ps p ≢ one n)
      ∷ each 14 0 n (HasPower m laws n ps)
      ∷ each 15 0 (length ps) (Undivided m laws n ps)
      ∷ single 16 0 (D m laws cmp n ps ≤ most_stairs)
      ∷ each 17 0 (length ps) Inside
      ∷ []

  abbrev pub basis_asks : List Question
  basis_asks = stairs_asks ++ (single 18 0 (Agree (field_of m laws) n (before_by cmp n) (generators m laws n ps)) ∷ [])

abbrev pub close_asks : (m : FieldMeaning) → FieldLaws m → Comparison → Job → List Question
close_asks m laws cmp j = single 5 0 (j.stage ≡ opened) ∷ basis_asks m laws cmp j.n j.polynomials
