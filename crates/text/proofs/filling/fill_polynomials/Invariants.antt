use Rattle.std.proofs.Common.{◌≡◌}
use Rattle.text.specs.Filling.{PolynomialsWalked}
use Rattle.job.specs.State.{state}
use Rattle.text.proofs.filling.fill_polynomials.Given as goal

abbrev pub invariant-loop-i : goal.invariant-loop-i
invariant-loop-i g l =
    (l.job.field ≡ l.initial.job.field) × (l.job.order ≡ l.initial.job.order)
    × PolynomialsWalked (g.F.Field.meaning l.initial.job.field) (g.O.Order.meaning l.initial.job.order) l.count l._i (state l.initial.job.table) l.reader (state l.job.table) l.here
