-- What follows where the questions of Fill are answered: what is promised of runs, and that an accepted text is that of its polynomials.
use Rattle.std.proofs.Common.{◌≡◌, ℕ, ◌≤◌, List, [], ◌∷◌, length, get_or, take, Ok, Err, Result, sym, refl, ap, ◌∙◌, ap₂}
use Rattle.std.proofs.lemmas.List.{take_at}
use Rattle.field.specs.Meaning.{FieldMeaning, FieldLaws}
use Rattle.order.specs.Monomials.{variables}
use Rattle.order.specs.Laws.{Comparison, OrderLaws}
use Rattle.runs.specs.Job as job
use Rattle.runs.specs.Job.{Job, opened, holding}
use Rattle.runs.specs.Text.{fill_asks, text_polynomials}
use Rattle.runs.specs.Writing.{basis_text, field_code, order_code}
use Rattle.runs.specs.Call.{fill}
use Rattle.runs.proofs.Lines.{texts_written}
use Rattle.job.specs.declared.table.Table.{Table}
use Rattle.job.specs.State.{state}
use Rattle.job.specs.Promise.{Promised}
use Rattle.job.proofs.Promises.{refused_as_was, changed, no_tables}
use Rattle.text.specs.declared.fault.TextFault.{TextFault}
use Rattle.text.specs.Asked.{Faulted}
use Rattle.text.specs.Filled.{Filled, answer_of}

module _ (m : FieldMeaning) (cmp : Comparison) (O : OrderLaws cmp) (t : Table) (bytes : List ℕ) where
  -- the job was not touched
  pub promised_as_was : (f : TextFault) → Faulted (fill_asks m cmp (state t) bytes) f → Promised m cmp t (fill bytes) (answer_of (Err f)) t
  promised_as_was f h = refused_as_was m cmp O t (fill bytes) (answer_of (Err f)) (λ laws K. h) refl

  -- it is open
  pub promised_open : (u : Table) → (state u).stage ≡ opened → (r : Result ℕ TextFault) → Filled m cmp bytes (state t) (state u) r → Promised m cmp t (fill bytes) (answer_of r) u
  promised_open u o (Ok size) h = changed m cmp O t (fill bytes) (answer_of (Ok size)) u (λ laws K. (h.0, ap (λ (x : ℕ). x ∷ []) h.1)) (λ laws K. h.2) (λ laws K x e. absurd (no_tables u o x e))
  promised_open u o (Err f) h = changed m cmp O t (fill bytes) (answer_of (Err f)) u (λ laws K. h.0) (λ laws K. h.1) (λ laws K x e. absurd (no_tables u o x e))

-- an accepted text is the basis text of the polynomials that the job then holds
pub text_again : (m : FieldMeaning) (laws : FieldLaws m) (cmp : Comparison) (bytes : List ℕ) (j j' : Job) (size : ℕ) → j.n ≤ variables → Filled m cmp bytes j j' (Ok size)
    → take size bytes ≡ basis_text (field_code bytes) (order_code bytes) j'.n j'.polynomials
text_again m laws cmp bytes j j' size fits h =
    let w = texts_written m laws cmp j fits bytes (size ∷ []) (h.0, ap (λ (x : ℕ). x ∷ []) h.1) in
    let text : List ℕ = basis_text (field_code bytes) (order_code bytes) j.n (text_polynomials j.n bytes) in
    let long : size ≡ length text = ap (λ (l : List ℕ). get_or l 0 0) w.size in
    let held : j'.polynomials ≡ text_polynomials j.n bytes = ap (λ (x : Job). x.polynomials) h.2 ∙ ap (λ (ps : List (List job.Term)). (holding (record { n = j.n; polynomials = ps; stage = j.stage }) (text_polynomials j.n bytes)).polynomials) h.0.0.1 in
    ap (take size) w.text ∙ take_at text w.left size (sym long)
    ∙ sym (ap₂ (λ (n : ℕ) (ps : List (List job.Term)). basis_text (field_code bytes) (order_code bytes) n ps) (ap (λ (x : Job). x.n) h.2) held)
