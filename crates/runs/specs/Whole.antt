-- Whole runs, and what is proved of every run, over every lawful field and order.
--   Whole m laws cmp n es    what a run es of n variables promises, in five parts:
--     same_ideal             a basis that an accepted Convert wrote has the ideal of the polynomials entered
--     equal_words            two accepted Converts for one variable wrote the same words
--     no_shape               a Convert that reached 24 is refused by it exactly when no basis shaped in its variable has the ideal
--     other_vector           where a Convert is refused by 25, another vector is accepted in its place
--     disagree               a Close that reached 18 is refused by it exactly when a nonzero combination of staircase monomials belongs to the ideal
--   RunsWhole               every run is whole
--   StaysWhole              every run that ends in a job, with a call and an answer appended, is whole: what a call's contract promises
--   AnswersKeepWhole       what is an answer of the job to the call, if the job is sound, gives that
--   OneAnswer               to a sound job, as every run leaves one, each call has one answer
--   RefusedBy number a      the answer a is a refusal by this number
--   basis_entered            the polynomials entered in a run, whose ideal the promises are about
-- Each is named by a function of the crate.
use Rattle.std.specs.Prelude.{◌≡◌, ℕ, pred, ◌↔◌, List, [], ◌∷◌, ◌++◌}
use Rattle.field.specs.Meaning.{FieldMeaning, FieldLaws}
use Rattle.order.specs.Laws.{Comparison, OrderLaws}
use Rattle.algebra.specs.Elements.{Elem, field_of}
use Rattle.algebra.specs.Polynomial.{Poly}
use Rattle.algebra.specs.Ideal.{SameIdeal, SomeCombination}
use Rattle.algebra.specs.Shape.{HasShape}
use Rattle.runs.specs.Question.{Reached}
use Rattle.runs.specs.Job.{Job, new}
use Rattle.runs.specs.Generators.{generators, D, stair_at}
use Rattle.runs.specs.Convert.{shaped_basis}
use Rattle.runs.specs.Call.{Call, close, convert, Answer, refused, accepted, asks, Answers}
use Rattle.runs.specs.Sound.{Sound}
use Rattle.runs.specs.Run.{Event, event, ends, Run, entered, Had}

abbrev pub RefusedBy : ℕ → Answer → Type 0
RefusedBy number a = (line : ℕ) × (place : ℕ) × (a ≡ refused number line place)

module _ (m : FieldMeaning) (laws : FieldLaws m) (cmp : Comparison) where
  abbrev pub basis_entered : (n : ℕ) → List Event → List (Poly (Elem m) n)
  basis_entered n es = generators m laws n (entered n es)

  pub record Whole (n : ℕ) (es : List Event) : Type 0 where
    pub same_ideal : (front : List Event) (k room : ℕ) (r out : List ℕ) → Had es front (convert k r room) (accepted out)
        → SameIdeal (field_of m laws) n (basis_entered n es) (shaped_basis m laws cmp n (entered n es) k out)
    pub equal_words : (front front' : List Event) (k room room' : ℕ) (r r' out out' : List ℕ) → Had es front (convert k r room) (accepted out) → Had es front' (convert k r' room') (accepted out') → out ≡ out'
    pub no_shape : (front : List Event) (k room : ℕ) (r : List ℕ) (a : Answer) → Had es front (convert k r room) a → Reached 24 (asks m laws cmp (ends (new n) front) (convert k r room))
        → RefusedBy 24 a ↔ (HasShape (field_of m laws) n (basis_entered n es) (D m laws cmp n (entered n es)) (pred k) → ⊥)
    pub other_vector : (front : List Event) (k room : ℕ) (r : List ℕ) (a : Answer) → Had es front (convert k r room) a → RefusedBy 25 a
        → (r' : List ℕ) × (out : List ℕ) × Answers m laws cmp (ends (new n) front) (convert k r' room) (accepted out)
    pub disagree : (front : List Event) (a : Answer) → Had es front close a → Reached 18 (asks m laws cmp (ends (new n) front) close)
        → RefusedBy 18 a ↔ SomeCombination (field_of m laws) n (basis_entered n front) (D m laws cmp n (entered n front)) (stair_at m laws cmp n (entered n front))

  abbrev pub StaysWhole : Job → Call → Answer → Type 0
  StaysWhole j c a = (n : ℕ) (es : List Event) → Run m laws cmp n es → ends (new n) es ≡ j → Whole n (es ++ (event c a ∷ []))

abbrev pub RunsWhole : Type 0
RunsWhole = (m : FieldMeaning) (laws : FieldLaws m) (cmp : Comparison) → OrderLaws cmp → (n : ℕ) (es : List Event) → Run m laws cmp n es → Whole m laws cmp n es

abbrev pub AnswersKeepWhole : Type 0
AnswersKeepWhole = (m : FieldMeaning) (laws : FieldLaws m) (cmp : Comparison) → OrderLaws cmp → (j : Job) (c : Call) (a : Answer) → (Sound m laws cmp j → Answers m laws cmp j c a) → StaysWhole m laws cmp j c a

abbrev pub OneAnswer : Type 0
OneAnswer = (m : FieldMeaning) (laws : FieldLaws m) (cmp : Comparison) → OrderLaws cmp → (j : Job) → Sound m laws cmp j → (c : Call)
    → (a : Answer) × Answers m laws cmp j c a × ((b : Answer) → Answers m laws cmp j c b → b ≡ a)
