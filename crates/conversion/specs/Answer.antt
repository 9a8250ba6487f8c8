-- What Convert and Reduce answer a closed job, past the question whether it is closed.
--   closed_job n ps                           the closed job of n variables with the polynomials ps
--   Converted m laws cmp n ps k r room out a  the answer a: each question from 20 on got a yes, and the words out are the rows; or a has the first that got a no
--   Reduces m laws cmp n ps p room out a      the answer a of Reduce of the terms p: question 23 got a yes, and the words out are what p reduces to; or it got a no
-- Used by: the contracts of convert and reduce. Questions, rows and what is reduced are those of Convert and Reduce in runs.
use Rattle.std.specs.Prelude.{◌≡◌, ℕ, ◌≤◌, List, Ok, Err, Result}
use Rattle.field.specs.Meaning.{FieldMeaning, FieldLaws}
use Rattle.order.specs.Laws.{Comparison}
use Rattle.runs.specs.Question.{AllYes, Refused}
use Rattle.runs.specs.Job.{Term, Job, closed}
use Rattle.runs.specs.Generators.{D}
use Rattle.runs.specs.Convert.{Written, vector_asks}
use Rattle.runs.specs.Reduce.{Reduced}
use Rattle.polynomials.specs.declared.fault.JobFault.{JobFault}
use Rattle.polynomials.specs.declared.fault.JobFault.TheVariants.{ShortOutput}
use Rattle.polynomials.specs.Faults.{number_of, place_of}

abbrev pub closed_job : ℕ → List (List Term) → Job
closed_job n ps = record { n = n; polynomials = ps; stage = closed }

abbrev pub Converted : {A : Type 0} (m : FieldMeaning) → FieldLaws m → Comparison → ℕ → List (List Term) → ℕ → List ℕ → ℕ → List ℕ → Result A JobFault → Type 0
Converted m laws cmp n ps k r room out (Ok a) = AllYes (vector_asks m laws cmp n ps k r room) × Written m laws cmp n ps k r out
Converted m laws cmp n ps k r room out (Err f) = Refused (vector_asks m laws cmp n ps k r room) (number_of f) 0 (place_of f)

abbrev pub Reduces : {A : Type 0} (m : FieldMeaning) → FieldLaws m → Comparison → ℕ → List (List Term) → List Term → ℕ → List ℕ → Result A JobFault → Type 0
Reduces m laws cmp n ps p room out (Ok a) = (D m laws cmp n ps ≤ room) × Reduced m laws cmp n ps p out
Reduces m laws cmp n ps p room out (Err f) = (f ≡ ShortOutput) × (D m laws cmp n ps ≤ room → ⊥)
