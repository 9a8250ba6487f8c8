-- Every run is whole: each of the five promises, first of a sound job, then at the event of a run that it speaks of.
use Rattle.std.proofs.Common.{◌≡◌, ℕ, pred, ◌⊎◌, ◌↔◌, List, [], ◌∷◌, ◌++◌, take, sym, ap, ◌∙◌, subst, inl, inr, append-nil, arith}
use Rattle.field.specs.Meaning.{FieldMeaning, FieldLaws}
use Rattle.order.specs.Laws.{Comparison, OrderLaws}
use Rattle.algebra.specs.Field.{Field}
use Rattle.algebra.specs.Elements.{Elem, field_of}
use Rattle.algebra.specs.Ideal.{SameIdeal, SomeCombination}
use Rattle.algebra.specs.Records.{before_by}
use Rattle.algebra.specs.Matrices.{Agreement}
use Rattle.algebra.specs.Shape.{HasShape}
use Rattle.algebra.proofs.Matrices.{agreement_holds}
use Rattle.runs.specs.Question.{Question, single, AllYes, Refused, Reached}
use Rattle.runs.specs.Job.{Term, Stage, Job, opened, closed, new}
use Rattle.runs.specs.Generators.{generators, D, stair_at}
use Rattle.runs.specs.Close.{stairs_asks}
use Rattle.runs.specs.Convert.{shaped_basis, shape_ask, table_ask, vector_asks}
use Rattle.runs.specs.Call.{Call, close, convert, Answer, refused, accepted, asks, Answers}
use Rattle.runs.specs.Run.{Event, event, ends, Follows, Run, entered, Had}
use Rattle.runs.specs.Sound.{Sound}
use Rattle.runs.specs.Whole.{RefusedBy, Whole, RunsWhole, AnswersKeepWhole}
use Rattle.runs.proofs.Questions.{yes_rest, Others, refused_next, refused_other, reached_yes, refused_yes}
use Rattle.runs.proofs.Entered.{agree_ask, order_of, basis_passed}
use Rattle.runs.proofs.Conversion as conversion
use Rattle.runs.proofs.Conversion.{convertible, from_zero}
use Rattle.runs.proofs.Runs as runs

-- what an answer tells of a list of questions
abbrev Told : List Question → Answer → Type 0
Told qs (refused number line place) = Refused qs number line place
Told qs (accepted out) = AllYes qs

-- a question that is reached refuses exactly where it gets a no
refused_exactly : (front : List Question) (q : Question) (later : List Question) (a : Answer) → AllYes front → Others q.number later → Told (front ++ (q ∷ later)) a → RefusedBy q.number a ↔ (q.yes → ⊥)
refused_exactly front q later a ys others h = (λ x. there x.0 x.1 (refused_next front q later q.number x.0 x.1 ys (subst (Told (front ++ (q ∷ later))) x.2 h)), back a h)
  where
    there : (line place : ℕ) → Refused (q ∷ later) q.number line place → q.yes → ⊥
    there line place (inl y) = y.0
    there line place (inr y) = absurd (refused_other later q.number line place others y.1)

    named : (number line place : ℕ) → Refused (q ∷ later) number line place → (q.yes → ⊥) → RefusedBy q.number (refused number line place)
    named number line place (inl y) none = (line, place, ap (λ (x : ℕ). refused x line place) y.1)
    named number line place (inr y) none = absurd (none y.0)

    back : (a : Answer) → Told (front ++ (q ∷ later)) a → (q.yes → ⊥) → RefusedBy q.number a
    back (accepted out) g none = absurd (none (yes_rest front (q ∷ later) g).0)
    back (refused number line place) g none = named number line place (refused_next front q later number line place ys g) none

module _ (m : FieldMeaning) (laws : FieldLaws m) (cmp : Comparison) where
  told : (j : Job) (c : Call) (a : Answer) → Answers m laws cmp j c a → Told (asks m laws cmp j c) a
  told j c (refused number line place) h = h
  told j c (accepted out) h = h.0

  abbrev F : Field (Elem m)
  F = field_of m laws

  abbrev Shape : Job → ℕ → Type 0
  Shape j k = HasShape F j.n (generators m laws j.n j.polynomials) (D m laws cmp j.n j.polynomials) (pred k)

  abbrev Dependent : Job → Type 0
  Dependent j = SomeCombination F j.n (generators m laws j.n j.polynomials) (D m laws cmp j.n j.polynomials) (stair_at m laws cmp j.n j.polynomials)

  -- the questions of Convert before 24, that one and the last; those of Close before the last

  abbrev convert_first : Job → ℕ → List ℕ → ℕ → List Question
  convert_first j k r room = single 19 0 (j.stage ≡ closed) ∷ take 4 (vector_asks m laws cmp j.n j.polynomials k r room)

  abbrev shape_of : Job → ℕ → Question
  shape_of j k = shape_ask m laws cmp j.n j.polynomials k

  abbrev table_of : Job → ℕ → List ℕ → Question
  table_of j k r = table_ask m laws cmp j.n j.polynomials k r

  abbrev close_first : Job → List Question
  close_first j = single 5 0 (j.stage ≡ opened) ∷ stairs_asks m laws cmp j.n j.polynomials

  -- a sound job

  module _ (O : OrderLaws cmp) (j : Job) (S : Sound m laws cmp j) where
    pub written_ideal : (k room : ℕ) (r out : List ℕ) → Answers m laws cmp j (convert k r room) (accepted out) → SameIdeal F j.n (generators m laws j.n j.polynomials) (shaped_basis m laws cmp j.n j.polynomials k out)
    written_ideal k room r out h =
        let y = convertible m laws cmp j k r room h.0 in
        conversion.written_ideal m laws cmp O j S y.is_closed k (from_zero j.n k y.variable) r out y.table h.1

    pub written_once : (k room room' : ℕ) (r r' out out' : List ℕ) → Answers m laws cmp j (convert k r room) (accepted out) → Answers m laws cmp j (convert k r' room') (accepted out') → out ≡ out'
    written_once k room room' r r' out out' h g =
        let y = convertible m laws cmp j k r room h.0 in
        conversion.written_once m laws cmp O j S y.is_closed k (from_zero j.n k y.variable) r r' out out' y.table (convertible m laws cmp j k r' room' g.0).table h.1 g.1

    no_shape : (k room : ℕ) (r : List ℕ) (a : Answer) → Answers m laws cmp j (convert k r room) a → AllYes (convert_first j k r room) → RefusedBy 24 a ↔ (Shape j k → ⊥)
    no_shape k room r a h ys = refused_exactly (convert_first j k r room) (shape_of j k) (table_of j k r ∷ []) a ys (omega arith) (told j (convert k r room) a h)

    other_vector : (k room : ℕ) (r : List ℕ) (a : Answer) → Answers m laws cmp j (convert k r room) a → RefusedBy 25 a → (r' : List ℕ) × (out : List ℕ) × Answers m laws cmp j (convert k r' room) (accepted out)
    other_vector k room r a h x =
        let y = refused_yes (convert_first j k r room ++ (shape_of j k ∷ [])) (table_of j k r) [] 25 x.0 x.1 (omega arith) (subst (Answers m laws cmp j (convert k r room)) x.2 h) in
        let kn = from_zero j.n k y.1.0 in
        let shape = y.1.1.1.1.1.0 in
        let v = conversion.other_vector m laws cmp O j S y.0 (pred k) kn shape in
        let w = conversion.written_some m laws cmp O j S y.0 k kn v.0 v.3 in
        (v.0, w.0, ((y.0, (y.1.0, (v.1, (v.2, (y.1.1.1.1.0, (shape, (v.3, tt))))))), w.1))

    disagree : (a : Answer) → Answers m laws cmp j close a → AllYes (close_first j) → RefusedBy 18 a ↔ Dependent j
    disagree a h ys = (λ x. found (by.0 x) agreement.decided, λ c. by.1 (λ y. agreement.exactly.0 y c))
      where
        agreement : Agreement F j.n (before_by cmp j.n) (generators m laws j.n j.polynomials)
        agreement = agreement_holds F j.n (before_by cmp j.n) (order_of m laws cmp O j S) (generators m laws j.n j.polynomials) (basis_passed m laws cmp O j S ys.1)

        by : RefusedBy 18 a ↔ ((agree_ask m laws cmp j).yes → ⊥)
        by = refused_exactly (close_first j) (agree_ask m laws cmp j) [] a ys tt (told j close a h)

        found : ((agree_ask m laws cmp j).yes → ⊥) → (agree_ask m laws cmp j).yes ⊎ Dependent j → Dependent j
        found none (inl y) = absurd (none y)
        found none (inr c) = c

  -- a run

  module _ (O : OrderLaws cmp) (n : ℕ) (es : List Event) (run : Run m laws cmp n es) where
    -- the job that holds all that is entered, closed
    abbrev last_job : Job
    last_job = record { n = n; polynomials = entered n es; stage = closed }

    -- an event of it
    module _ (front : List Event) (c : Call) (a : Answer) (w : Had es front c a) where
      -- the job before the event
      abbrev then : Job
      then = record { n = n; polynomials = entered n front; stage = (ends (new n) front).stage }

      then_is : ends (new n) front ≡ then
      then_is = runs.ends_is (new n) front

      parts : Follows m laws cmp (new n) (front ++ (event c a ∷ w.0))
      parts = subst (Follows m laws cmp (new n)) w.1 run.1

      sound-then : Sound m laws cmp then
      sound-then = subst (Sound m laws cmp) then_is (runs.sound_run m laws cmp n front (run.0, runs.follows_first m laws cmp (new n) front (event c a ∷ w.0) parts))

      onwards : Follows m laws cmp then (event c a ∷ w.0)
      onwards = subst (λ (j : Job). Follows m laws cmp j (event c a ∷ w.0)) then_is (runs.follows_rest m laws cmp (new n) front (event c a ∷ w.0) parts)

      answered : Answers m laws cmp then c a
      answered = onwards.0

      -- a closed job holds all that is entered in the run
      then-last : then.stage ≡ closed → then ≡ last_job
      then-last e =
          ap (λ (s : Stage). record { n = n; polynomials = entered n front; stage = s }) e
          ∙ ap (λ (ps : List (List Term)). record { n = n; polynomials = ps; stage = closed })
          (sym (append-nil (entered n front))
          ∙ ap (λ (x : List (List Term)). entered n front ++ x) (sym (runs.quiet m laws cmp then (event c a ∷ w.0) onwards e))
          ∙ sym (runs.entered_append n front (event c a ∷ w.0))
          ∙ ap (entered n) (sym w.1))

    -- an accepted Convert is one of the last job
    accepted_last : (front : List Event) (k room : ℕ) (r out : List ℕ) → Had es front (convert k r room) (accepted out) → Sound m laws cmp last_job × Answers m laws cmp last_job (convert k r room) (accepted out)
    accepted_last front k room r out w =
        let c = convert k r room in
        let h = answered front c (accepted out) w in
        subst (λ (j : Job). Sound m laws cmp j × Answers m laws cmp j c (accepted out)) (then-last front c (accepted out) w h.0.0) (sound-then front c (accepted out) w, h)

    same_ideal : (front : List Event) (k room : ℕ) (r out : List ℕ) → Had es front (convert k r room) (accepted out) → SameIdeal F n (generators m laws n (entered n es)) (shaped_basis m laws cmp n (entered n es) k out)
    same_ideal front k room r out w = let x = accepted_last front k room r out w in written_ideal O last_job x.0 k room r out x.1

    equal_words : (front front' : List Event) (k room room' : ℕ) (r r' out out' : List ℕ) → Had es front (convert k r room) (accepted out) → Had es front' (convert k r' room') (accepted out') → out ≡ out'
    equal_words front front' k room room' r r' out out' w v =
        let x = accepted_last front k room r out w in
        written_once O last_job x.0 k room room' r r' out out' x.1 (accepted_last front' k room' r' out' v).1

    run_no_shape : (front : List Event) (k room : ℕ) (r : List ℕ) (a : Answer) → Had es front (convert k r room) a → Reached 24 (asks m laws cmp (ends (new n) front) (convert k r room)) → RefusedBy 24 a ↔ (Shape last_job k → ⊥)
    run_no_shape front k room r a w reached =
        let c = convert k r room in
        let j = then front c a w in
        let ys = reached_yes (convert_first j k r room) (shape_of j k) (table_of j k r ∷ []) 24 (omega arith) (subst (λ (j : Job). Reached 24 (asks m laws cmp j c)) (then_is front c a w) reached) in
        subst (λ (j : Job). RefusedBy 24 a ↔ (Shape j k → ⊥)) (then-last front c a w ys.0) (no_shape O j (sound-then front c a w) k room r a (answered front c a w) ys)

    run_other_vector : (front : List Event) (k room : ℕ) (r : List ℕ) (a : Answer) → Had es front (convert k r room) a → RefusedBy 25 a → (r' : List ℕ) × (out : List ℕ) × Answers m laws cmp (ends (new n) front) (convert k r' room) (accepted out)
    run_other_vector front k room r a w x =
        let c = convert k r room in
        subst (λ (j : Job). (r' : List ℕ) × (out : List ℕ) × Answers m laws cmp j (convert k r' room) (accepted out)) (sym (then_is front c a w))
        (other_vector O (then front c a w) (sound-then front c a w) k room r a (answered front c a w) x)

    run_disagree : (front : List Event) (a : Answer) (w : Had es front close a) → Reached 18 (asks m laws cmp (ends (new n) front) close) → RefusedBy 18 a ↔ Dependent (then front close a w)
    run_disagree front a w reached =
        let j = then front close a w in
        disagree O j (sound-then front close a w) a (answered front close a w)
        (reached_yes (close_first j) (agree_ask m laws cmp j) [] 18 (omega arith) (subst (λ (j : Job). Reached 18 (asks m laws cmp j close)) (then_is front close a w) reached))

    pub whole : Whole m laws cmp n es
    whole = record { same_ideal = same_ideal; equal_words = equal_words; no_shape = run_no_shape; other_vector = run_other_vector; disagree = run_disagree }

pub runs_whole : RunsWhole
runs_whole m laws cmp O n es run = whole m laws cmp O n es run

-- with one answer more
pub answers_keep_whole : AnswersKeepWhole
answers_keep_whole m laws cmp O j c a h n es run e =
    let S : Sound m laws cmp j = subst (Sound m laws cmp) e (runs.sound_run m laws cmp n es run) in
    runs_whole m laws cmp O n (es ++ (event c a ∷ []))
    (run.0, runs.follows_append m laws cmp (new n) es (event c a ∷ []) run.1 (subst (λ (i : Job). Answers m laws cmp i c a) (sym e) (h S), tt))
