use Rattle.std.proofs.Common.{◌≤◌, arith}
use mathlib.Core.Bool.{false≢true}
use Rattle.tables.specs.Holds.{stair_count}
use Rattle.tables.proofs.Commuting as commuting
use Rattle.tables.proofs.tables.Tables.product_column.Goals as goal

pub returns-in_err-step : goal.returns-in_err-step
returns-in_err-step g c fit h = absurd (false≢true (c.in_err-step.ensures.stepped.answers fit.0 fit.1 fit.3 fit.4 (omega (arith, c.args.self.now.few, commuting.unit_length (g.F.Field.meaning c.args.field.now) c.zero-unit.result c.one.result c.args.i c.zero-unit.ensures c.one.ensures c.requires)) (omega (arith, c.args.self.now.few))))

pub returns-in_err-step-2 : goal.returns-in_err-step-2
returns-in_err-step-2 g c fit h = absurd (false≢true (c.in_err-step-2.ensures.stepped.answers fit.0 fit.1 fit.2 fit.4 (omega (arith, c.args.self.now.few)) (omega (arith, c.args.self.now.few))))

pub returns : goal.returns
returns g c fit h =
    let m = g.F.Field.meaning c.args.field.now in
    let laws = g.met.F.Field.lawful c.args.field.now in
    let t = c.args.self.now in
    let z = c.zero-unit.result in
    let o = c.one.result in
    let i = c.args.i in
    let short : stair_count t ≤ 48 = t.few in
    let first = c.in_ok-step.ensures.stepped.product (commuting.unit_elems m z o i c.zero-unit.ensures c.one.ensures c.requires laws (stair_count t) short) in
    let then = c.in_ok-step-2.ensures.stepped.product first.elements in
    (then.elements, λ laws j hj. commuting.two_steps m z o i c.zero-unit.ensures c.one.ensures c.requires laws t short h c.args.k c.args.l c.step.new.out c.step-2.new.out first then j hj)
