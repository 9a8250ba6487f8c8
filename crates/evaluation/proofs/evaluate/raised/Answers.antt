use Rattle.evaluation.specs.Evaluation.{power}
use Rattle.evaluation.proofs.Sums.{power_more}
use Rattle.evaluation.proofs.evaluate.raised.Goals as goal

pub loop-i-init : goal.loop-i-init
unfolding power
loop-i-init g c = c.one-product.ensures

pub loop-i-preserved : goal.loop-i-preserved
loop-i-preserved g c = let e = power_more (g.F.Field.meaning c.args.field.now) c.args.x c.loop-i._i in cc
