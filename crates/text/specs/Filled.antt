-- What Fill answers and leaves.
--   Filled m cmp bytes j j' r     of the job j: the questions of Fill got a yes, r is the length of the text, and the job j' holds its polynomials
--                                 too; or the first that got a no, and the job is as it was
--   answer_of r                   the answer of Fill as a run has it
-- Used by: Fill.
use Rattle.std.specs.Prelude.{◌≡◌, ℕ, List, [], ◌∷◌, Ok, Err, Result}
use Rattle.field.specs.Meaning.{FieldMeaning}
use Rattle.order.specs.Laws.{Comparison}
use Rattle.runs.specs.Question.{AllYes}
use Rattle.runs.specs.Job.{Job, holding}
use Rattle.runs.specs.Text.{fill_asks, text_length, text_polynomials}
use Rattle.runs.specs.Call.{Answer, refused, accepted}
use Rattle.text.specs.declared.fault.TextFault.{TextFault}
use Rattle.text.specs.Faults.{number_of, line_of, place_of}
use Rattle.text.specs.Asked.{Faulted}

abbrev pub Filled : FieldMeaning → Comparison → List ℕ → Job → Job → Result ℕ TextFault → Type 0
Filled m cmp bytes j j' (Ok size) = AllYes (fill_asks m cmp j bytes) × (size ≡ text_length j.n bytes) × (j' ≡ holding j (text_polynomials j.n bytes))
Filled m cmp bytes j j' (Err f) = Faulted (fill_asks m cmp j bytes) f × (j' ≡ j)

abbrev pub answer_of : Result ℕ TextFault → Answer
answer_of (Ok size) = accepted (size ∷ [])
answer_of (Err f) = refused (number_of f) (line_of f) (place_of f)
