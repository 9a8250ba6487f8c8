use Rattle.std.proofs.Common.{arith}
use Rattle.std.proofs.lemmas.List.{length-take-le}
use Rattle.linear.proofs.Columns
use Rattle.linear.proofs.step.step.Goals as goal

pub returns-clause-stepped : goal.returns-clause-stepped
returns-clause-stepped g c =
    let F = c.args.field.now in
    let fit = c.if-not-fits.ensures.0 tt in
    Columns.stepped (g.F.Field.meaning F) (g.met.F.Field.lawful F) (g.met.F.Field.everywhere F) c.args.d c.args.matrix.places.now c.args.matrix.columns.now c.args.matrix.stride c.args.v.now c.args.out.now c.fill_product.new.out fit (omega (arith, c.fill_product.auto.out, length-take-le c.args.d c.args.out.now fit.enough_rows)) c.fill_product.ensures
