use Rattle.order.specs.Moves.{moves}
use Rattle.order.proofs.theorems.exponents_move_to_their_places.Goals as goal

pub returns : goal.returns
returns c = moves
