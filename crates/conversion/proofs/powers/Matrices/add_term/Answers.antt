use Rattle.std.proofs.Common.{arith}
use Rattle.tables.specs.Holds.{stair_count}
use Rattle.conversion.specs.Powers.{unit}
use Rattle.conversion.specs.Values.{acts}
use Rattle.conversion.proofs.Evaluating.{multiple_added}
use Rattle.conversion.proofs.powers.Matrices.add_term.Goals as goal

pub returns : goal.returns
returns g c =
    let F = c.args.self.now.field.now in
    let m = g.F.Field.meaning F in
    let t = c.args.self.now.tables.now in
    let a = c.args.term in
    record {
      fits = tt;
      added = λ laws s S.
          multiple_added m laws (g.met.F.Field.everywhere F) (stair_count t) a.coefficient c.act.new.walk.vector c.args.sum.now c.add_multiple.new.to s (acts m laws t c.args.self.now.n a.monomial (unit m laws)) (omega (arith, t.few)) (omega (arith, t.few)) c.add_multiple.ensures.sums S
          (c.in_ok-act.ensures.acted laws (unit m laws) (λ j h. c.start.ensures laws j (omega (arith, t.few))));
    }
