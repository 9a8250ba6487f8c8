use Rattle.std.proofs.Common.{◌-◌, ◌≤◌, length}
use Rattle.input.proofs.read_input.Given as goal

abbrev pub invariant-loop-end : goal.invariant-loop-end
invariant-loop-end l = l.end ≤ length l.input

abbrev pub decreases-loop-end : goal.decreases-loop-end
decreases-loop-end l = length l.initial.input - l.end
