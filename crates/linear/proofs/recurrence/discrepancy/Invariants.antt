use Rattle.std.proofs.Common.{◌≡◌, ◌-◌, get_or}
use Rattle.linear.specs.Words.{sum_words}
use Rattle.linear.proofs.recurrence.discrepancy.Given as goal

abbrev pub invariant-loop-i : goal.invariant-loop-i
invariant-loop-i g l = let m = g.F.Field.meaning l.field in l.sum ≡ sum_words m l.i (λ i. m.mul (get_or l.c i 0) (get_or l.s (l.n - i) 0))
