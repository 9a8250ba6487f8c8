use Rattle.std.proofs.Common.{◌≡◌, length, get_or}
use Rattle.linear.specs.Elimination.{Reduced}
use Rattle.linear.proofs.elimination.remainder.Given as goal

abbrev pub invariant-loop-pivot : goal.invariant-loop-pivot
invariant-loop-pivot g l =
    (length l.work ≡ l.width)
    × Reduced (g.F.Field.meaning l.field) l.table l.pivots (length l.yielded) (λ j. get_or l.vector j (g.F.Field.meaning l.field).zero) l.width l.work
