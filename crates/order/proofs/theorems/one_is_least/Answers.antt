use Rattle.order.proofs.Products.{one_least}
use Rattle.order.proofs.theorems.one_is_least.Goals as goal

pub returns : goal.returns
returns c = one_least
