-- The calls that read a closed job: from what the working parts answer to what the call answers.
use Rattle.std.proofs.Common.{◌≡◌, ℕ, ◌≤◌, List, [], ◌∷◌, Ok, Err, Result, refl, ap, subst, inl, inr}
use Rattle.field.specs.Meaning.{FieldMeaning, FieldLaws}
use Rattle.order.specs.Laws.{Comparison, OrderLaws}
use Rattle.runs.specs.Question.{single, AllYes, Refused}
use Rattle.runs.specs.Job.{Term, Stage, closed}
use Rattle.runs.specs.Generators.{D}
use Rattle.runs.specs.Call.{Call, convert, reduce, refused, accepted, asks, Answers, after}
use Rattle.runs.specs.Sound.{Sound}
use Rattle.polynomials.specs.Held.{held}
use Rattle.polynomials.specs.declared.fault.JobFault.{JobFault}
use Rattle.polynomials.specs.Faults.{number_of, place_of}
use Rattle.polynomials.specs.TermQuestions.{elements_ask, exponents_ask}
use Rattle.polynomials.proofs.Answering.{refused_first}
use Rattle.conversion.specs.Answer.{closed_job, Converted, Reduces}
use Rattle.job.specs.declared.table.Table.{Table}
use Rattle.job.specs.State.{state, Kept}
use Rattle.job.specs.Promise.{answer_of, Promised}
use Rattle.job.proofs.Promises.{refused_as_was}

-- the state of a closed job
closed_state : (t : Table) → (state t).stage ≡ closed → state t ≡ closed_job t.n (held t.polynomials)
closed_state t shut = ap (λ (s : Stage). record { n = t.n; polynomials = held t.polynomials; stage = s }) shut

pub sound_closed : (m : FieldMeaning) (laws : FieldLaws m) (cmp : Comparison) (t : Table) → (state t).stage ≡ closed → Kept m laws cmp t → Sound m laws cmp (closed_job t.n (held t.polynomials))
sound_closed m laws cmp t shut K = subst (Sound m laws cmp) (closed_state t shut) K.sound

module _ (m : FieldMeaning) (cmp : Comparison) (O : OrderLaws cmp) (t : Table) where
  -- a call that leaves the job as it was, whatever it answers
  pub only_reads : {A : Type 0} (c : Call) (words : A → List ℕ) (r : Result A JobFault) → ((laws : FieldLaws m) → Kept m laws cmp t → Answers m laws cmp (state t) c (answer_of words r)) → ((out : List ℕ) → after (state t) c (accepted out) ≡ state t) → Promised m cmp t c (answer_of words r) t
  only_reads c words (Ok a) A e = refused_as_was m cmp O t c (accepted (words a)) A (e (words a))
  only_reads c words (Err f) A e = refused_as_was m cmp O t c (refused (number_of f) 0 (place_of f)) A refl

  module _ (shut : (state t).stage ≡ closed) (laws : FieldLaws m) where
    pub converted : {A : Type 0} (k : ℕ) (r : List ℕ) (room : ℕ) (out : List ℕ) (a : Result A JobFault) → Converted m laws cmp t.n (held t.polynomials) k r room out a → Answers m laws cmp (state t) (convert k r room) (answer_of (λ _. out) a)
    converted k r room out (Ok x) h = ((shut, h.0), h.1)
    converted k r room out (Err f) h = inr (shut, h)

    module _ (p : List Term) (room : ℕ) where
      -- a coefficient is no element
      pub elements-refused : (number line place : ℕ) → Refused (elements_ask m 0 p ∷ []) number line place → Refused (asks m laws cmp (state t) (reduce p room)) number line place
      elements-refused number line place r = inr (shut, refused_first (elements_ask m 0 p ∷ []) (exponents_ask t.n 0 p ∷ single 23 0 (D m laws cmp t.n (held t.polynomials) ≤ room) ∷ []) number line place r)

      module _ (E : AllYes (elements_ask m 0 p ∷ [])) where
        -- an exponent is out of range
        pub exponents-refused : (number line place : ℕ) → Refused (exponents_ask t.n 0 p ∷ []) number line place → Refused (asks m laws cmp (state t) (reduce p room)) number line place
        exponents-refused number line place r = inr (shut, inr (E.0, refused_first (exponents_ask t.n 0 p ∷ []) (single 23 0 (D m laws cmp t.n (held t.polynomials) ≤ room) ∷ []) number line place r))

        pub reduced : {A : Type 0} (out : List ℕ) (a : Result A JobFault) → AllYes (exponents_ask t.n 0 p ∷ []) → Reduces m laws cmp t.n (held t.polynomials) p room out a → Answers m laws cmp (state t) (reduce p room) (answer_of (λ _. out) a)
        reduced out (Ok x) X h = ((shut, (E.0, (X.0, (h.0, tt)))), h.1)
        reduced out (Err f) X h = inr (shut, inr (E.0, inr (X.0, inl (h.1, ap number_of h.0, refl, ap place_of h.0))))
