use Rattle.std.proofs.Common.{ℕ, ◌≤◌, Ok, Err, sym, refl, ap, ◌∙◌, subst}
use Rattle.std.proofs.lemmas.Result.{err_from_is_err_and}
use Rattle.std.proofs.lemmas.Bool.{true≢false}
use Rattle.order.specs.Monomials.{variables}
use Rattle.runs.specs.Job.{Job, opened}
use Rattle.runs.specs.Text.{next, polynomials_asks}
use Rattle.job.specs.State.{state}
use Rattle.text.specs.declared.fault.TextFault.TheVariants.{NotEmpty, OtherVariables}
use Rattle.text.specs.Asked.{Faulted}
use Rattle.text.specs.Filled.{Filled}
use Rattle.text.proofs.Entering.{fill_not_empty, fill-unread, fill-other, fill-refused, fill-accepted, recounted, fill_length, cleared_same, header_numbers}
use Rattle.text.proofs.Filled.{promised_as_was, promised_open, text_again}
use Rattle.text.proofs.filling.fill.Goals as goal

pub returns-then-not-is_new : goal.returns-then-not-is_new
returns-then-not-is_new g c =
    let m = g.F.Field.meaning c.args.job.now.field in
    let cmp = g.O.Order.meaning c.args.job.now.order in
    let O = g.met.O.Order.lawful c.args.job.now.order in
    let t = c.args.job.now.table in
    let d = fill_not_empty m cmp c.args.bytes.now (state t) (λ x. true≢false (sym (c.is_new.ensures.1 x) ∙ c.if-not-is_new.true)) in
    record { filled = (d, refl); promised = promised_as_was m cmp O t c.args.bytes.now NotEmpty d; written_again = tt; same_field_and_order = (refl, refl) }

pub returns-in_err-n : goal.returns-in_err-n
returns-in_err-n g c =
    let m = g.F.Field.meaning c.args.job.now.field in
    let cmp = g.O.Order.meaning c.args.job.now.order in
    let O = g.met.O.Order.lawful c.args.job.now.order in
    let t = c.args.job.now.table in
    let p = err_from_is_err_and c.from_residual.result c.from_residual.ensures.1 in
    let d = fill-unread m cmp c.args.bytes.now (state t) (c.if-not-is_new.ensures.0 refl) _ _ _ c.in_err-n.ensures.asked in
    rw (p.1, p.2) (record { filled = (d, refl); promised = promised_as_was m cmp O t c.args.bytes.now c.in_err-n.field-0.0 d; written_again = tt; same_field_and_order = (refl, refl) })

pub returns-then-n-variables : goal.returns-then-n-variables
returns-then-n-variables g c =
    let m = g.F.Field.meaning c.args.job.now.field in
    let cmp = g.O.Order.meaning c.args.job.now.order in
    let O = g.met.O.Order.lawful c.args.job.now.order in
    let t = c.args.job.now.table in
    let h = header_numbers c.args.bytes.now (c.in_ok-n.field-0-0, c.in_ok-n.field-0-1, c.in_ok-n.n, c.in_ok-n.count) c.in_ok-n.ensures.value in
    let d = fill-other m cmp c.args.bytes.now (state t) (c.if-not-is_new.ensures.0 refl) c.in_ok-n.ensures.asked (λ e. c.if-n-variables.true (h.0 ∙ e ∙ sym c.variables.ensures.value)) in
    record { filled = (d, refl); promised = promised_as_was m cmp O t c.args.bytes.now OtherVariables d; written_again = tt; same_field_and_order = (refl, refl) }

pub returns-in-Ok : goal.returns-in-Ok
returns-in-Ok g c =
    let m = g.F.Field.meaning c.args.job.now.field in
    let laws = g.met.F.Field.lawful c.args.job.now.field in
    let cmp = g.O.Order.meaning c.args.job.now.order in
    let O = g.met.O.Order.lawful c.args.job.now.order in
    let t = c.args.job.now.table in
    let u = c.fill_polynomials.new.job.table in
    let bytes = c.args.bytes.now in
    let empty = c.if-not-is_new.ensures.0 refl in
    let h = header_numbers bytes (c.in_ok-n.field-0-0, c.in_ok-n.field-0-1, c.in_ok-n.n, c.in_ok-n.count) c.in_ok-n.ensures.value in
    let w = recounted m cmp (state t) (state u) _ c.in-Ok.end h.1 c.in-Ok.ensures.entered in
    let filled : Filled m cmp bytes (state t) (state u) (Ok c.in-Ok.end.place.at) = (fill-accepted m cmp bytes (state t) empty c.in_ok-n.ensures.asked (sym h.0 ∙ c.if-n-variables.false ∙ c.variables.ensures.value) w.asked, fill_length m cmp bytes (state t) (state u) _ c.in-Ok.end refl refl w, w.enters) in
    let fits = subst (λ (x : ℕ). x ≤ variables) c.variables.ensures.value c.variables.ensures.few.1 in
    record {
      filled = filled;
      promised = promised_open m cmp O t bytes u (ap (λ (x : Job). x.stage) w.enters ∙ empty.0) (Ok c.in-Ok.end.place.at) filled;
      written_again = text_again m laws cmp bytes (state t) (state u) c.in-Ok.end.place.at fits filled;
      same_field_and_order = c.in-Ok.ensures.same_field_and_order;
    }

pub returns-in-Err : goal.returns-in-Err
returns-in-Err g c =
    let m = g.F.Field.meaning c.args.job.now.field in
    let cmp = g.O.Order.meaning c.args.job.now.order in
    let O = g.met.O.Order.lawful c.args.job.now.order in
    let t = c.args.job.now.table in
    let u = c.fill_polynomials.new.job.table in
    let v = c.clear.new.self.table in
    let bytes = c.args.bytes.now in
    let empty = c.if-not-is_new.ensures.0 refl in
    let h = header_numbers bytes (c.in_ok-n.field-0-0, c.in_ok-n.field-0-1, c.in_ok-n.n, c.in_ok-n.count) c.in_ok-n.ensures.value in
    let w = subst (λ (k : ℕ). Faulted (polynomials_asks m cmp 2 (state t) k (next 4 bytes)) c.in-Err.fault) h.1 c.in-Err.ensures.entered.0 in
    let same = c.in-Err.ensures.entered.1 in
    let filled : Filled m cmp bytes (state t) (state v) (Err c.in-Err.fault) = (
      fill-refused m cmp bytes (state t) empty c.in_ok-n.ensures.asked (sym h.0 ∙ c.if-n-variables.false ∙ c.variables.ensures.value) _ _ _ w,
      c.clear.ensures.cleared ∙ cleared_same (state t) (state u).n opened empty.1 same (sym empty.0),
    ) in
    record {
      filled = filled;
      promised = promised_open m cmp O t bytes v (ap (λ (x : Job). x.stage) c.clear.ensures.cleared) (Err c.in-Err.fault) filled;
      written_again = tt;
      same_field_and_order = (c.clear.ensures.same_field_and_order.0 ∙ c.in-Err.ensures.same_field_and_order.0, c.clear.ensures.same_field_and_order.1 ∙ c.in-Err.ensures.same_field_and_order.1);
    }
