use Rattle.std.proofs.Common.{◌≡◌, ◌++◌, take, drop}
use Rattle.staircase.specs.Sorting.{inserted_by}
use Rattle.staircase.proofs.sorting.place.Given as goal

abbrev pub invariant-loop-i : goal.invariant-loop-i
invariant-loop-i g l = let cmp = g.O.Order.meaning l.order in inserted_by cmp l.m l.list ≡ take l.i l.list ++ inserted_by cmp l.m (drop l.i l.list)
