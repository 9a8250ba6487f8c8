-- What follows from the answer of a call: the run stays whole, and the job is again as calls leave it.
use Rattle.std.proofs.Common.{◌≡◌, ℕ, Some, None, List, [], ◌∷◌, IsErrAnd, OnErr, Ok, Err, Result, sym, refl, ap, ◌∙◌, subst, inl}
use Rattle.field.specs.Meaning.{FieldMeaning, FieldLaws}
use Rattle.order.specs.Laws.{Comparison, OrderLaws}
use Rattle.runs.specs.Question.{Question, single, Refused}
use Rattle.runs.specs.Job.{opened, closed}
use Rattle.runs.specs.Call.{Call, Answer, refused, asks, Answers, after, Answered}
use Rattle.runs.proofs.Runs.{sound_kept}
use Rattle.runs.proofs.WholeRuns.{answers_keep_whole}
use Rattle.std.proofs.lemmas.Result.{err_from_is_err_and}
use Rattle.polynomials.specs.Held.{held}
use Rattle.polynomials.specs.declared.fault.JobFault.{JobFault}
use Rattle.polynomials.specs.declared.fault.JobFault.TheVariants.{NotOpen}
use Rattle.polynomials.specs.Faults.{number_of, place_of}
use Rattle.polynomials.specs.Asked.{Asked}
use Rattle.tables.specs.Holds.{Holds}
use Rattle.job.specs.declared.table.Table.{Table}
use Rattle.tables.specs.declared.tables.Tables.{Tables}
use Rattle.job.specs.State.{stage_of, state, Kept}
use Rattle.job.specs.Promise.{answer_of, Promised}

-- the stage, from the tables

pub stage_closed : (t : Table) (x : Tables) → t.tables ≡ Some x → (state t).stage ≡ closed
stage_closed t x e = ap stage_of e

pub not_opened : (t : Table) → (state t).stage ≡ closed → (state t).stage ≡ opened → ⊥
not_opened t e h = cc

pub not_closed : (t : Table) → t.tables ≡ None → (state t).stage ≡ closed → ⊥
not_closed t e h = let o : (state t).stage ≡ opened = ap stage_of e in cc

-- an open job has no tables
pub no_tables : (t : Table) → (state t).stage ≡ opened → (x : Tables) → t.tables ≡ Some x → ⊥
no_tables t o x e = not_opened t (stage_closed t x e) o

-- the exit of a `?` is the error
pub is_error : {A : Type 0} (r : Result A JobFault) (f : JobFault) → IsErrAnd r (λ e. e ≡ f) → r ≡ Err f
is_error {A} r f b = let p = err_from_is_err_and r b in p.1 ∙ ap {B = Result A JobFault} Err p.2

module _ (m : FieldMeaning) (cmp : Comparison) (O : OrderLaws cmp) (t : Table) (c : Call) where
  -- an answer that leaves the job as it was
  pub refused_as_was : (a : Answer) → ((laws : FieldLaws m) → Kept m laws cmp t → Answers m laws cmp (state t) c a) → after (state t) c a ≡ state t → Promised m cmp t c a t
  refused_as_was a A e = record {
    answered = λ laws K. record { answers = A laws K; leaves = sym e };
    kept = λ laws K. K;
    run_whole = λ laws K. answers_keep_whole m laws cmp O (state t) c a (λ _. A laws K);
  }

  -- one that leaves another job, whose tables are right where it is closed
  pub changed : (a : Answer) (u : Table) → ((laws : FieldLaws m) → Kept m laws cmp t → Answers m laws cmp (state t) c a) → ((laws : FieldLaws m) → Kept m laws cmp t → state u ≡ after (state t) c a)
      → ((laws : FieldLaws m) → Kept m laws cmp t → (x : Tables) → u.tables ≡ Some x → Holds m laws cmp u.n (held u.polynomials) x) → Promised m cmp t c a u
  changed a u A e H =
      let all : (laws : FieldLaws m) → Kept m laws cmp t → Answered m laws cmp (state t) c a (state u) = λ laws K. record { answers = A laws K; leaves = e laws K } in
      record {
        answered = all;
        kept = λ laws K. record { sound = sound_kept.at_each_answer m laws cmp (state t) c a (state u) (all laws K) K.sound; tables = H laws K };
        run_whole = λ laws K. answers_keep_whole m laws cmp O (state t) c a (λ _. A laws K);
      }

  -- the exit of a `?`
  pub broken : {A : Type 0} (words : A → List ℕ) (r : Result A JobFault) (f : JobFault) → IsErrAnd r (λ e. e ≡ f) → ((laws : FieldLaws m) → Kept m laws cmp t → Refused (asks m laws cmp (state t) c) (number_of f) 0 (place_of f)) → Promised m cmp t c (answer_of words r) t
  broken {A} words r f b h = subst (λ (x : Result A JobFault). Promised m cmp t c (answer_of words x) t) (sym (is_error r f b)) (refused_as_was (refused (number_of f) 0 (place_of f)) h refl)

-- the first question of Enter and of Close
pub open_refused : (t : Table) (f : JobFault) → (state t).stage ≡ closed → f ≡ NotOpen → Refused (single 5 0 ((state t).stage ≡ opened) ∷ []) (number_of f) 0 (place_of f)
open_refused t f shut e = inl (not_opened t shut, ap number_of e, refl, ap place_of e)

-- questions that are refused by the exit of a `?`
pub is_refused : {A : Type 0} (qs : List Question) (r : Result A JobFault) (f : JobFault) → IsErrAnd r (λ e. e ≡ f) → Refused qs (number_of f) 0 (place_of f) → Asked 0 qs r
is_refused {A} qs r f b h = subst (λ (x : Result A JobFault). Asked 0 qs x) (sym (is_error r f b)) h

-- what holds anyway holds where a call refuses
pub on_error : {A P : Type 0} (r : Result A JobFault) → P → OnErr r P
on_error (Ok a) h = tt
on_error (Err f) h = h
