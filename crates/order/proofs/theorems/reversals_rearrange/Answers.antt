use Rattle.order.specs.Moves.{reverses}
use Rattle.order.proofs.theorems.reversals_rearrange.Goals as goal

pub returns : goal.returns
returns c = reverses
