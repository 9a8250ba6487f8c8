use Rattle.std.proofs.Common.{Err, Option, sym, ap, ◌∙◌, subst}
use Rattle.std.specs.Option.{ok_or}
use Rattle.std.proofs.lemmas.Result.{err_from_is_err_and}
use Rattle.polynomials.specs.declared.fault.JobFault.{JobFault}
use Rattle.polynomials.specs.Held.{held}
use Rattle.polynomials.specs.declared.fault.JobFault.TheVariants.{Disagree}
use Rattle.tables.specs.declared.tables.Tables.{Tables}
use Rattle.tables.specs.Making.{Made}
use Rattle.tables.proofs.tables.Tables.make.Goals as goal

pub returns-in_err-make_in : goal.returns-in_err-make_in
returns-in_err-make_in g c =
    let m = g.F.Field.meaning c.args.field.now in
    let cmp = g.O.Order.meaning c.args.order.now in
    let p = err_from_is_err_and c.from_residual.result c.from_residual.ensures.1 in
    subst (Made m cmp c.args.n (held c.args.polynomials.now)) (sym (p.1 ∙ ap (λ (e : JobFault). Err e) p.2)) c.in_err-make_in.ensures

pub returns : goal.returns
returns g c =
    let m = g.F.Field.meaning c.args.field.now in
    let cmp = g.O.Order.meaning c.args.order.now in
    let made = c.in_ok-make_in.ensures in
    subst (Made m cmp c.args.n (held c.args.polynomials.now)) (sym (c.ok_or.ensures.value ∙ ap (λ (o : Option Tables). ok_or o Disagree) made.1)) made.3
