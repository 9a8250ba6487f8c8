use Rattle.linear.specs.Massey.{Held}
use Rattle.linear.proofs.recurrence.shortest.Given as goal

abbrev pub invariant-loop-n : goal.invariant-loop-n
invariant-loop-n g l = Held (g.F.Field.meaning l.field) l.s l.c l.b l.stage.length l.n l.stage.lag l.stage.miss
