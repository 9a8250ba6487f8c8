-- A new job, filled and closed: what its calls answered, as one list of questions.
use Rattle.std.proofs.Common.{◌≡◌, ℕ, suc, List, [], ◌∷◌, ◌++◌, take, Ok, Err, Result, ◌==◌, sym, ap, ◌∙◌, subst, arith}
use Rattle.std.specs.List.{count_by}
use Rattle.std.specs.Result.{result_map_both}
use Rattle.column.specs.declared.reader.Reader.{Reader}
use Rattle.field.specs.Meaning.{FieldMeaning, FieldLaws}
use Rattle.order.specs.Laws.{Comparison}
use Rattle.polynomials.specs.declared.fault.JobFault.{JobFault}
use Rattle.polynomials.proofs.Answering.{refused_first, refused_after}
use Rattle.runs.specs.Question.{Question}
use Rattle.runs.specs.Job.{Job, new}
use Rattle.runs.specs.Text.{fill_asks, text_polynomials}
use Rattle.runs.specs.Generators.{D}
use Rattle.runs.specs.Close.{close_asks}
use Rattle.runs.specs.Call.{close, Answered}
use Rattle.runs.proofs.Questions.{yes_append}
use Rattle.job.specs.declared.table.Table.{Table}
use Rattle.job.specs.State.{state, Kept}
use Rattle.job.specs.Promise.{answer_of, Promised}
use Rattle.text.specs.declared.fault.TextFault.{TextFault}
use Rattle.text.specs.declared.fault.TextFault.TheVariants as fault
use Rattle.text.specs.Filled as text
use Rattle.text.specs.Filled.{Filled}
use Rattle.shaping.specs.declared.fault.ShapeFault.TheVariants.{Text}
use Rattle.shaping.specs.Questions.{job_of}
use Rattle.shaping.specs.Steps.{RefusedBy, Closed, JobLoaded, AtRequest}

-- what is said of a field and an order holds of the same ones
pub with_same : {F O : Type 0} (m : F → FieldMeaning) (cmp : O → Comparison) (f f' : F) (o o' : O) → (f' ≡ f) × (o' ≡ o) → (P : FieldMeaning → Comparison → Type 0) → P (m f') (cmp o') → P (m f) (cmp o)
with_same m cmp f f' o o' same P x = subst (λ z. P (m z) (cmp o)) same.0 (subst (λ z. P (m f') (cmp z)) same.1 x)

module _ (m : FieldMeaning) (laws : FieldLaws m) (cmp : Comparison) where
  -- Close of a job, its fault told of no line
  pub closed : (t u : Table) (r : Result ℕ JobFault) (s : Result ℕ TextFault) → s ≡ result_map_both (λ x. x) (λ f. fault.Job f 0) r → Promised m cmp t close (answer_of (λ d. d ∷ []) r) u → Kept m laws cmp t → Closed m laws cmp t u s
  closed t u r s e p kept = subst (λ (x : Result ℕ TextFault). Closed m laws cmp t u x) (sym e) (go r p)
    where
      go : (r : Result ℕ JobFault) → Promised m cmp t close (answer_of (λ d. d ∷ []) r) u → Closed m laws cmp t u (result_map_both (λ x. x) (λ f. fault.Job f 0) r)
      go (Ok d) p = record { answered = p.answered laws kept; kept = p.kept laws kept }
      go (Err f) p = record { answered = p.answered laws kept; kept = p.kept laws kept }

  module _ (n : ℕ) (bs : List ℕ) (t : Table) where
    abbrev fills : List Question
    fills = fill_asks m cmp (new n) bs

    abbrev closes : List Question
    closes = close_asks m laws cmp (job_of n bs)

    pub not_filled : (f : TextFault) → Filled m cmp bs (new n) (state t) (Err f) → RefusedBy (fills ++ closes) (Text f)
    not_filled f h = refused_first fills closes _ _ _ h.0

    -- the filled job, and u after its Close
    module _ (size : ℕ) (h : Filled m cmp bs (new n) (state t) (Ok size)) (u : Table) where
      answered : (r : Result ℕ TextFault) → Closed m laws cmp t u r → Answered m laws cmp (job_of n bs) close (text.answer_of r) (state u)
      answered r q = subst (λ (j : Job). Answered m laws cmp j close (text.answer_of r) (state u)) h.2 q.answered

      pub not_closed : (f : TextFault) → Closed m laws cmp t u (Err f) → RefusedBy (fills ++ closes) (Text f)
      not_closed f q = refused_after fills closes _ _ _ h.0 (answered (Err f) q).answers

      job_loaded : (d : ℕ) → Closed m laws cmp t u (Ok d) → JobLoaded m laws cmp n bs (state u) size d
      job_loaded d q =
          let a = answered (Ok d) q in
          let is : d ≡ D m laws cmp n (text_polynomials n bs) = cc (a.answers.1) in
          record { asked = yes_append fills closes h.0 a.answers.0; end_is = h.1; size_is = is; few = omega (arith, is, a.answers.0.1.1.1.1.0); holds = a.leaves }

      -- a reader made behind the basis text
      pub at_request : (d : ℕ) → Closed m laws cmp t u (Ok d) → (p : Reader) → p.text.now ≡ bs → p.place.at ≡ size → p.place.line ≡ suc (count_by (λ b. b == 10) (take size bs)) → AtRequest m laws cmp n bs u d p
      at_request d q p text at line = record {
        loaded = subst (λ (e : ℕ). JobLoaded m laws cmp n bs (state u) e d) (sym at) (job_loaded d q);
        kept = q.kept;
        text = text;
        line = line ∙ ap (λ (e : ℕ). suc (count_by (λ b. b == 10) (take e bs))) (sym at);
      }
