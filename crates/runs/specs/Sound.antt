-- Jobs as calls leave them.
--   Sound m laws cmp j           the job j has 1 to 4 variables; its polynomials passed the questions of Enter, one after the other; and where it
--                                is closed, they got a yes to the questions of Close
--   SoundKept                   a new job is sound, each answer leaves a sound job sound, and so every run ends in a sound job
--   BasisPassed m laws cmp j    its polynomials are what algebra asks of a basis
--   BasisAgrees m laws cmp j    their multiplication matrices agree
--   SoundBasis                  the first holds of a sound job that got a yes to 13 to 17, and both of one that is closed
-- Used by: whoever holds a job between calls, so that the run that led there need not be known.
use Rattle.std.specs.Prelude.{◌≡◌, ℕ, List}
use Rattle.field.specs.Meaning.{FieldMeaning, FieldLaws}
use Rattle.order.specs.Laws.{Comparison, OrderLaws}
use Rattle.algebra.specs.Elements.{field_of}
use Rattle.algebra.specs.Records.{before_by}
use Rattle.algebra.specs.Basis.{Passed}
use Rattle.algebra.specs.Matrices.{Agree}
use Rattle.runs.specs.Question.{AllYes}
use Rattle.runs.specs.Job.{Job, closed, new}
use Rattle.runs.specs.Enter.{Enters}
use Rattle.runs.specs.Generators.{generators}
use Rattle.runs.specs.Close.{stairs_asks, basis_asks}
use Rattle.runs.specs.Call.{Call, Answer, Answered}
use Rattle.runs.specs.Run.{Event, open_asks, ends, Run}

pub record Sound (m : FieldMeaning) (laws : FieldLaws m) (cmp : Comparison) (j : Job) : Type 0 where
  pub opens : AllYes (open_asks j.n)
  pub entered : Enters m cmp (new j.n) j.polynomials
  pub closes : j.stage ≡ closed → AllYes (basis_asks m laws cmp j.n j.polynomials)

pub record SoundKept : Type 0 where
  pub at_first : (m : FieldMeaning) (laws : FieldLaws m) (cmp : Comparison) (n : ℕ) → AllYes (open_asks n) → Sound m laws cmp (new n)
  pub at_each_answer : (m : FieldMeaning) (laws : FieldLaws m) (cmp : Comparison) (j : Job) (c : Call) (a : Answer) (j' : Job) → Answered m laws cmp j c a j' → Sound m laws cmp j → Sound m laws cmp j'
  pub at_the_end : (m : FieldMeaning) (laws : FieldLaws m) (cmp : Comparison) (n : ℕ) (es : List Event) → Run m laws cmp n es → Sound m laws cmp (ends (new n) es)

module _ (m : FieldMeaning) (laws : FieldLaws m) (cmp : Comparison) (j : Job) where
  abbrev pub BasisPassed : Type 0
  BasisPassed = Passed (field_of m laws) j.n (before_by cmp j.n) (generators m laws j.n j.polynomials)

  abbrev pub BasisAgrees : Type 0
  BasisAgrees = Agree (field_of m laws) j.n (before_by cmp j.n) (generators m laws j.n j.polynomials)

pub record SoundBasis : Type 0 where
  pub before_last : (m : FieldMeaning) (laws : FieldLaws m) (cmp : Comparison) → OrderLaws cmp → (j : Job) → Sound m laws cmp j → AllYes (stairs_asks m laws cmp j.n j.polynomials) → BasisPassed m laws cmp j
  pub closed_job : (m : FieldMeaning) (laws : FieldLaws m) (cmp : Comparison) → OrderLaws cmp → (j : Job) → Sound m laws cmp j → j.stage ≡ closed → BasisPassed m laws cmp j × BasisAgrees m laws cmp j
