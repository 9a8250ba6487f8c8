-- Close: from what the making of the tables answers to what the call answers.
use Rattle.std.proofs.Common.{◌≡◌, ℕ, [], ◌∷◌, true, false, IsErrAnd, Some, None, Option, Ok, Err, Result, sym, refl, ap, ◌∙◌, subst, inr, ◌≤◌}
use native.Mathlib.Bridge.{le_prop}
use mathlib.Core.Bool.{false≢true}
use Rattle.std.specs.Result.{is_err}
use Rattle.field.specs.Meaning.{FieldMeaning}
use Rattle.order.specs.Laws.{Comparison, OrderLaws}
use Rattle.runs.specs.Question.{single}
use Rattle.runs.specs.Job.{opened, closed, shut}
use Rattle.runs.specs.Close.{basis_asks}
use Rattle.runs.specs.Call.{close, accepted}
use Rattle.polynomials.specs.Held.{held}
use Rattle.polynomials.specs.declared.fault.JobFault.{JobFault}
use Rattle.polynomials.specs.declared.fault.JobFault.TheVariants.{NotOpen}
use Rattle.polynomials.specs.Faults.{number_of, place_of}
use Rattle.polynomials.proofs.Answering.{refused_first}
use Rattle.polynomials.specs.declared.store.Polynomials.{Polynomials}
use Rattle.tables.specs.declared.tables.Tables.{Tables}
use Rattle.tables.specs.Holds.{stair_count, Holds}
use Rattle.tables.specs.Making.{Made, MadeIn}
use Rattle.job.specs.declared.table.Table.{Table}
use Rattle.job.specs.State.{stage_of, state}
use Rattle.job.specs.Promise.{answer_of, Promised}
use Rattle.job.proofs.Promises.{open_refused, broken, changed}

module _ (m : FieldMeaning) (cmp : Comparison) (O : OrderLaws cmp) (t : Table) where
  -- refused since the job is closed
  pub close_closed : (r : Result ℕ JobFault) (f : JobFault) → IsErrAnd r (λ e. e ≡ f) → (state t).stage ≡ closed → f ≡ NotOpen → Promised m cmp t close (answer_of (λ d. d ∷ []) r) t
  close_closed r f b c e = broken m cmp O t close (λ d. d ∷ []) r f b (λ laws K. refused_first (single 5 0 ((state t).stage ≡ opened) ∷ []) (basis_asks m laws cmp t.n (held t.polynomials)) (number_of f) 0 (place_of f) (open_refused t f c e))

  module _ (o : (state t).stage ≡ opened) (u : Table) where
    -- refused by a question on the polynomials: u is the job as it was
    pub close_refused : (r : Result ℕ JobFault) (f : JobFault) → IsErrAnd r (λ e. e ≡ f) → Made m cmp t.n (held t.polynomials) (Err f) → u ≡ t → Promised m cmp t close (answer_of (λ d. d ∷ []) r) u
    close_refused r f b h e = subst (Promised m cmp t close (answer_of (λ d. d ∷ []) r)) (sym e) (broken m cmp O t close (λ d. d ∷ []) r f b (λ laws K. inr (o, h laws K.sound.opens.0.1 K.sound.entered)))

    -- the tables are made: u has them
    pub close_accepted : (made : Tables) (d : ℕ) → d ≡ stair_count made → Made m cmp t.n (held t.polynomials) (Ok made) → state u ≡ shut (state t) → u.n ≡ t.n → u.polynomials ≡ t.polynomials → u.tables ≡ Some made
        → Promised m cmp t close (accepted (d ∷ [])) u
    close_accepted made d size h e n ps made_is = changed m cmp O t close (accepted (d ∷ [])) u
        (λ laws K. let y = h laws K.sound.opens.0.1 K.sound.entered in ((o, y.0), ap (λ (x : ℕ). x ∷ []) (size ∙ y.1.size))) (λ laws K. e)
        (λ laws K x is. let y = h laws K.sound.opens.0.1 K.sound.entered in let same : made ≡ x = cc in
        subst (λ (s : Polynomials). Holds m laws cmp u.n (held s) x) (sym ps) (subst (λ (k : ℕ). Holds m laws cmp k (held t.polynomials) x) (sym n) (subst (Holds m laws cmp t.n (held t.polynomials)) same y.1)))

-- a table is made by its fields alone
pub same_table : (t : Table) (some : 1 ≤ t.n) (few : t.n ≤ 4) → record t { some = some; few = few } ≡ t
same_table t some few = λ i. record t { some = le_prop some t.some i; few = le_prop few t.few i }

-- an open job has no tables
opened_none : (o : Option Tables) → stage_of o ≡ opened → o ≡ None
opened_none None e = refl
opened_none (Some x) e = let c : stage_of (Some x) ≡ closed = refl in absurd cc

-- an open job whose tables alone changed
module _ (t : Table) (o : (state t).stage ≡ opened) (p : Option Tables) (some : 1 ≤ t.n) (few : t.n ≤ 4) where
  pub as_was : p ≡ None → record t { tables = p; some = some; few = few } ≡ t
  as_was e = ap (λ (x : Option Tables). record t { tables = x; some = some; few = few }) (e ∙ sym (opened_none t.tables o)) ∙ same_table t some few

  module _ (m : FieldMeaning) (cmp : Comparison) (O : OrderLaws cmp) where
    -- the making was refused, and what it left was taken out
    pub close_unmade : (q : Option Tables) (r : Result ℕ JobFault) → is_err r ≡ true → MadeIn m cmp t.n (held t.polynomials) q r → p ≡ None → Promised m cmp t close (answer_of (λ d. d ∷ []) r) (record t { tables = p; some = some; few = few })
    close_unmade q (Ok d) b h e = absurd (false≢true b)
    close_unmade q (Err f) b h e = close_refused m cmp O t o _ (Err f) f refl h (as_was e)

    pub close_made : (r : Result ℕ JobFault) → is_err r ≡ false → MadeIn m cmp t.n (held t.polynomials) p r → Promised m cmp t close (answer_of (λ d. d ∷ []) r) (record t { tables = p; some = some; few = few })
    close_made (Ok d) b h = close_accepted m cmp O t o _ h.0 d h.2 h.3 (ap (λ (x : Option Tables). record { n = t.n; polynomials = held t.polynomials; stage = stage_of x }) h.1) refl refl h.1
    close_made (Err f) b h = absurd (false≢true (sym b))
