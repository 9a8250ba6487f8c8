-- Runs: calls to a job that was new, one after the other, each with its answer.
--   Event                            a call and its answer
--   ends j es                        the job j after the events es
--   Follows m laws cmp j es          each event is an answer to the job as those before it leave it
--   open_asks n                      the question of Open, which makes a place a new job of n variables: is n from 1 to 4
--   Run m laws cmp n es              es is a run from a new job of n variables, as an accepted Open leaves it
--   event c a                        the event of the call c and the answer a
--   enters n c a                     the polynomials that an event enters: those of an accepted Enter or Fill
--   entered n es                     the polynomials entered in a run, first to last
--   Had es front c a                 in the run es the call c, with the answer a, came right after the events front
-- Used by: what a run promises. A place that was never opened is an empty open job of one variable, new 1: so runs from it are runs too.
use Rattle.std.specs.Prelude.{◌≡◌, ℕ, ◌≤◌, List, [], ◌∷◌, ◌++◌}
use Rattle.field.specs.Meaning.{FieldMeaning, FieldLaws}
use Rattle.order.specs.Monomials.{variables}
use Rattle.order.specs.Laws.{Comparison}
use Rattle.runs.specs.Question.{Question, single, AllYes}
use Rattle.runs.specs.Job.{Term, Job, new}
use Rattle.runs.specs.Text.{text_polynomials}
use Rattle.runs.specs.Call.{Call, enter, fill, close, convert, reduce, Answer, refused, accepted, Answers, after}

pub record Event : Type 0 where
  pub call : Call
  pub answer : Answer

abbrev pub event : Call → Answer → Event
event c a = record { call = c; answer = a }

abbrev pub open_asks : ℕ → List Question
open_asks n = single 4 0 ((1 ≤ n) × (n ≤ variables)) ∷ []

abbrev pub ends : Job → List Event → Job
ends j [] = j
ends j (e ∷ es) = ends (after j e.call e.answer) es

module _ (m : FieldMeaning) (laws : FieldLaws m) (cmp : Comparison) where
  abbrev pub Follows : Job → List Event → Type 0
  Follows j [] = Unit {0}
  Follows j (e ∷ es) = Answers m laws cmp j e.call e.answer × Follows (after j e.call e.answer) es

  abbrev pub Run : ℕ → List Event → Type 0
  Run n es = AllYes (open_asks n) × Follows (new n) es

abbrev pub enters : ℕ → Call → Answer → List (List Term)
enters n c (refused number line place) = []
enters n (enter p) (accepted out) = p ∷ []
enters n (fill bytes) (accepted out) = text_polynomials n bytes
enters n close (accepted out) = []
enters n (convert k r room) (accepted out) = []
enters n (reduce p room) (accepted out) = []

abbrev pub entered : ℕ → List Event → List (List Term)
entered n [] = []
entered n (e ∷ es) = enters n e.call e.answer ++ entered n es

abbrev pub Had : List Event → List Event → Call → Answer → Type 0
Had es front c a = (later : List Event) × (es ≡ front ++ (event c a ∷ later))
