use Rattle.std.proofs.Common.{◌≡◌}
use Rattle.evaluation.specs.Evaluation.{power}
use Rattle.evaluation.proofs.evaluate.raised.Given as goal

abbrev pub invariant-loop-i : goal.invariant-loop-i
invariant-loop-i g l = l.product ≡ power (g.F.Field.meaning l.field) l.x l._i
