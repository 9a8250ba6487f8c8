use Rattle.std.proofs.Common.{arith}
use Rattle.std.proofs.lemmas.Result.{err_from_is_err_and}
use mathlib.Core.Bool.{false≢true}
use Rattle.tables.specs.Holds.{stair_count}
use Rattle.conversion.proofs.Standing.{front_elems, steps}
use Rattle.conversion.proofs.powers.Matrices.advance.Goals as goal

pub returns-in_err-step : goal.returns-in_err-step
returns-in_err-step g c = let p = err_from_is_err_and c.from_residual.result c.from_residual.ensures.1 in rw p.1 (record {
  fits = λ ready. false≢true (c.in_err-step.ensures.stepped.answers c.args.self.now.n c.args.self.now.few c.requires ready (omega (arith, c.args.self.now.tables.now.few)) (omega (arith, c.args.self.now.tables.now.few)));
  advanced = tt;
})

pub returns : goal.returns
returns g c =
    let t = c.args.self.now.tables.now in
    let m = g.F.Field.meaning c.args.self.now.field.now in
    record {
      fits = tt;
      advanced = λ laws f s.
          steps m laws t c.args.k c.args.walk.now.vector c.step.new.out f (omega (arith, t.few)) (omega (arith, t.few))
          (c.in_ok-step.ensures.stepped.product (front_elems m laws (stair_count t) c.args.walk.now.vector f (omega (arith, t.few)) s)) s;
    }
