-- The calls of a job and what each answers.
--   Call                          Enter of terms; Fill of bytes; Close; Convert of a variable, a vector and room for so many words; Reduce of terms
--                                 with room for so many words
--   Answer                        refused by a number, with a line and a place; or accepted, with the words that it answers or writes
--   asks m laws cmp j c           the questions before the call c to the job j
--   Output m laws cmp j c out     what the accepted call answers: Fill the number of bytes read, Close D, Convert and Reduce the words that they write
--   Answers m laws cmp j c a      a is the answer to the call c to the job j: the first question that got a no, or the output
--   after j c a                   the job after that answer: a refused call leaves it as it was
--   Answered m laws cmp j c a j'  the call c to the job j was answered by a, and the job is now j'
-- Used by: runs, and the contract of each call.
use Rattle.std.specs.Prelude.{◌≡◌, ℕ, List, [], ◌∷◌}
use Rattle.field.specs.Meaning.{FieldMeaning, FieldLaws}
use Rattle.order.specs.Laws.{Comparison}
use Rattle.runs.specs.Question.{Question, AllYes, Refused}
use Rattle.runs.specs.Job.{Term, Job, holding, shut}
use Rattle.runs.specs.Enter.{enter_asks}
use Rattle.runs.specs.Text.{text_polynomials, text_length, fill_asks}
use Rattle.runs.specs.Generators.{D}
use Rattle.runs.specs.Close.{close_asks}
use Rattle.runs.specs.Convert.{Written, convert_asks}
use Rattle.runs.specs.Reduce.{Reduced, reduce_asks}

pub data Call : Type 0 where
  enter : List Term → Call
  fill : List ℕ → Call
  close : Call
  convert : ℕ → List ℕ → ℕ → Call
  reduce : List Term → ℕ → Call

pub data Answer : Type 0 where
  refused : ℕ → ℕ → ℕ → Answer
  accepted : List ℕ → Answer

module _ (m : FieldMeaning) (laws : FieldLaws m) (cmp : Comparison) where
  abbrev pub asks : Job → Call → List Question
  asks j (enter p) = enter_asks m cmp j p
  asks j (fill bytes) = fill_asks m cmp j bytes
  asks j close = close_asks m laws cmp j
  asks j (convert k r room) = convert_asks m laws cmp j k r room
  asks j (reduce p room) = reduce_asks m laws cmp j p room

  abbrev pub Output : Job → Call → List ℕ → Type 0
  Output j (enter p) out = out ≡ []
  Output j (fill bytes) out = out ≡ text_length j.n bytes ∷ []
  Output j close out = out ≡ D m laws cmp j.n j.polynomials ∷ []
  Output j (convert k r room) out = Written m laws cmp j.n j.polynomials k r out
  Output j (reduce p room) out = Reduced m laws cmp j.n j.polynomials p out

  abbrev pub Answers : Job → Call → Answer → Type 0
  Answers j c (refused number line place) = Refused (asks j c) number line place
  Answers j c (accepted out) = AllYes (asks j c) × Output j c out

abbrev pub after : Job → Call → Answer → Job
after j c (refused number line place) = j
after j (enter p) (accepted out) = holding j (p ∷ [])
after j (fill bytes) (accepted out) = holding j (text_polynomials j.n bytes)
after j close (accepted out) = shut j
after j (convert k r room) (accepted out) = j
after j (reduce p room) (accepted out) = j

pub record Answered (m : FieldMeaning) (laws : FieldLaws m) (cmp : Comparison) (j : Job) (c : Call) (a : Answer) (j' : Job) : Type 0 where
  pub answers : Answers m laws cmp j c a
  pub leaves : j' ≡ after j c a
