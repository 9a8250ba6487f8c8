use Rattle.order.proofs.Products.{falls_throughout}
use Rattle.order.proofs.theorems.neighbours_fall_throughout.Goals as goal

pub returns : goal.returns
returns c = falls_throughout
