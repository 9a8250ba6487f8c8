use Rattle.std.proofs.Common.{Ok, Err, ap, ◌∙◌, subst}
use Rattle.std.proofs.lemmas.Result.{err_from_is_err_and}
use Rattle.field.specs.Meaning.{FieldMeaning}
use Rattle.order.specs.Laws.{Comparison}
use Rattle.runs.specs.Job.{Job}
use Rattle.text.specs.Filling.{PolynomialEntered}
use Rattle.text.proofs.Entering.{polynomials_more, polynomials-broken}
use Rattle.job.specs.State.{state}
use Rattle.text.proofs.filling.fill_polynomials.Goals as goal

pub returns-in_err-here : goal.returns-in_err-here
returns-in_err-here g c =
    let m = g.F.Field.meaning c.args.job.now.field in
    let cmp = g.O.Order.meaning c.args.job.now.order in
    let j = state c.args.job.now.table in
    let p = err_from_is_err_and c.from_residual.result c.from_residual.ensures.1 in
    let w = c.loop-i.invariant in
    let a = subst (λ (m : FieldMeaning). PolynomialEntered m (g.O.Order.meaning c.loop-i.job.order) (state c.loop-i.job.table) c.loop-i.here (state c.fill_polynomial.new.job.table) (Err c.in_err-here.field-0.0)) (ap g.F.Field.meaning w.0) c.in_err-here.ensures.entered in
    let b = subst (λ (o : Comparison). PolynomialEntered m o (state c.loop-i.job.table) c.loop-i.here (state c.fill_polynomial.new.job.table) (Err c.in_err-here.field-0.0)) (ap g.O.Order.meaning w.1) a in
    rw (p.1, p.2) (record {
      entered = (
        polynomials-broken m cmp c.args.count j c.args.reader c.loop-i._i (state c.loop-i.job.table) c.loop-i.here c.loop-i-test.true w.2 _ _ _ b.0,
        ap (λ (x : Job). x.n) b.1 ∙ w.2.same_n,
        ap (λ (x : Job). x.stage) b.1 ∙ w.2.same_stage,
      );
      same_field_and_order = (c.in_err-here.ensures.same_field_and_order.0 ∙ w.0, c.in_err-here.ensures.same_field_and_order.1 ∙ w.1);
    })

pub loop-i-preserved : goal.loop-i-preserved
loop-i-preserved g c =
    let m = g.F.Field.meaning c.args.job.now.field in
    let cmp = g.O.Order.meaning c.args.job.now.order in
    let j = state c.args.job.now.table in
    let w = c.loop-i.invariant in
    let a = subst (λ (m : FieldMeaning). PolynomialEntered m (g.O.Order.meaning c.loop-i.job.order) (state c.loop-i.job.table) c.loop-i.here (state c.fill_polynomial.new.job.table) (Ok c.in_ok-here.here)) (ap g.F.Field.meaning w.0) c.in_ok-here.ensures.entered in
    let b = subst (λ (o : Comparison). PolynomialEntered m o (state c.loop-i.job.table) c.loop-i.here (state c.fill_polynomial.new.job.table) (Ok c.in_ok-here.here)) (ap g.O.Order.meaning w.1) a in (
      c.in_ok-here.ensures.same_field_and_order.0 ∙ w.0,
      c.in_ok-here.ensures.same_field_and_order.1 ∙ w.1,
      polynomials_more m cmp c.args.count j c.args.reader c.loop-i._i (state c.loop-i.job.table) c.loop-i.here c.loop-i-test.true w.2 c.in_ok-here.here (state c.fill_polynomial.new.job.table) b.0 b.1,
    )
