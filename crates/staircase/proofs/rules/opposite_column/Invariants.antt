use Rattle.std.proofs.Common.{◌≡◌, ℕ, ◌<◌, length, get_or, drop}
use Rattle.order.specs.Monomials.{one}
use Rattle.staircase.proofs.Opposites.{coefficient_in}
use Rattle.staircase.proofs.rules.opposite_column.Given as goal

abbrev pub invariant-loop-j : goal.invariant-loop-j
invariant-loop-j g l = ((k : ℕ) → k < l.j → get_or l.out k 0 ≡ (g.F.Field.meaning l.field).neg (coefficient_in (g.F.Field.meaning l.field) l.rest (get_or l.stairs k one))) × (drop (length l.stairs) l.out ≡ drop (length l.stairs) l.initial.out)
