use Rattle.std.proofs.Common.{◌-◌, ◌≤◌, length, take}
use Rattle.staircase.specs.Walk.{Walked}
use Rattle.staircase.proofs.walk.collect.Given as goal

abbrev pub invariant-loop-i : goal.invariant-loop-i
invariant-loop-i l = (l.i ≤ l.count) × (l.count ≤ length l.found) × Walked l.n l.leads (take l.count l.found) l.i

abbrev pub decreases-loop-i : goal.decreases-loop-i
decreases-loop-i l = length l.initial.found - l.i
