use Rattle.staircase.proofs.Placing.{products_placed}
use Rattle.staircase.proofs.products.products_have_places.Goals as goal

pub returns : goal.returns
returns c = products_placed
