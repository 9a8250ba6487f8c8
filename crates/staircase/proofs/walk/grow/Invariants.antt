use Rattle.std.proofs.Common.{◌≤◌, length, take}
use Rattle.staircase.specs.Walk.{Grown}
use Rattle.staircase.proofs.walk.grow.Given as goal

abbrev pub invariant-loop-k : goal.invariant-loop-k
invariant-loop-k l = (l.count ≤ length l.found) × Grown l.n l.leads (take l.initial.count l.initial.found) l.m l.k (take l.count l.found)
