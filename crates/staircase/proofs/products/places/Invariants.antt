use Rattle.std.proofs.Common.{◌≡◌, ℕ, ◌<◌, length, get_or, drop}
use Rattle.order.specs.declared.monomial.Monomial.{Monomial}
use Rattle.linear.specs.declared.step.Place.TheVariants.{Stair}
use Rattle.staircase.specs.Places.{ProductAt, StandsAt}
use Rattle.staircase.proofs.products.places.Given as goal

abbrev pub invariant-loop-i : goal.invariant-loop-i
invariant-loop-i l = ((j : ℕ) → j < l.i → (t : Monomial) × ProductAt l.k l.stairs j t × StandsAt l.stairs l.edges t (get_or l.out j (Stair 0))) × (drop (length l.stairs) l.out ≡ drop (length l.stairs) l.initial.out)
