use Rattle.staircase.proofs.Opposites.{opposites_written}
use Rattle.std.proofs.Common.{arith}
use Rattle.staircase.proofs.rules.opposite_column.Goals as goal

pub returns-clause-column : goal.returns-clause-column
returns-clause-column g c = opposites_written (g.F.Field.meaning c.args.field.now) c.args.rest.now c.args.stairs.now c.loop-j.out (omega arith) (λ j h. c.loop-j.invariant.0 j (omega arith))
