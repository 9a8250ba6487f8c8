-- The questions of Close put to polynomials, and the tables made on the way.
--   StairsAsked cmp n ps r      r is the answer to the questions before the last, over every field: the staircase, or the first that gets a no
--   Made m cmp n ps r           r is the answer to all questions: the tables of those polynomials, or the first that gets a no
--   MadeIn m cmp n ps o r       the same where r has the number of staircase monomials, and o the tables
-- Used by: Close.
use Rattle.std.specs.Prelude.{◌≡◌, ℕ, ◌≤◌, List, map, Some, Option, Ok, Err, Result, IfOk}
use Rattle.arrayvec.specs.ArrayVec.{ArrayVec}
use Rattle.field.specs.Meaning.{FieldMeaning, FieldLaws}
use Rattle.order.specs.declared.monomial.Monomial.{Monomial}
use Rattle.order.specs.Monomials.{variables}
use Rattle.order.specs.Laws.{Comparison}
use Rattle.algebra.specs.Records.{flat, before_by}
use Rattle.algebra.specs.Basis as basis
use Rattle.runs.specs.Question.{AllYes, Refused}
use Rattle.runs.specs.Job.{Term, new}
use Rattle.runs.specs.Enter.{Enters}
use Rattle.runs.specs.Generators.{generators}
use Rattle.runs.specs.Close.{stairs_asks, basis_asks}
use Rattle.polynomials.specs.declared.fault.JobFault.{JobFault}
use Rattle.polynomials.specs.Faults.{number_of, place_of}
use Rattle.polynomials.specs.Asked.{Asked}
use Rattle.tables.specs.declared.tables.Tables.{Tables}
use Rattle.tables.specs.Holds.{stair_count, Holds}

abbrev pub StairsAsked : Comparison → ℕ → List (List Term) → Result (ArrayVec Monomial) JobFault → Type 0
StairsAsked cmp n ps r = (m : FieldMeaning) (laws : FieldLaws m) → n ≤ variables → Enters m cmp (new n) ps
    → Asked 0 (stairs_asks m laws cmp n ps) r × IfOk r (λ stairs. stairs.items ≡ map (flat n) (basis.stairs n (before_by cmp n) (generators m laws n ps)))

abbrev pub Made : FieldMeaning → Comparison → ℕ → List (List Term) → Result Tables JobFault → Type 0
Made m cmp n ps (Ok t) = (laws : FieldLaws m) → n ≤ variables → Enters m cmp (new n) ps → AllYes (basis_asks m laws cmp n ps) × Holds m laws cmp n ps t
Made m cmp n ps (Err f) = (laws : FieldLaws m) → n ≤ variables → Enters m cmp (new n) ps → Refused (basis_asks m laws cmp n ps) (number_of f) 0 (place_of f)

abbrev pub MadeIn : FieldMeaning → Comparison → ℕ → List (List Term) → Option Tables → Result ℕ JobFault → Type 0
MadeIn m cmp n ps o (Ok d) = (t : Tables) × (o ≡ Some t) × (d ≡ stair_count t) × Made m cmp n ps (Ok t)
MadeIn m cmp n ps o (Err f) = Made m cmp n ps (Err f)
