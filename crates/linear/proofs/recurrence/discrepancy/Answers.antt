use Rattle.linear.proofs.Reading
use Rattle.linear.proofs.recurrence.discrepancy.Goals as goal

pub loop-i-preserved : goal.loop-i-preserved
loop-i-preserved g c = Reading.sum_more (g.F.Field.meaning c.args.field.now) c.loop-i.i _ c.loop-i.invariant c.mul.ensures c.add-sum.ensures
