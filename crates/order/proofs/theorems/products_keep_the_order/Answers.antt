use Rattle.order.proofs.Products.{product_keeps}
use Rattle.order.proofs.theorems.products_keep_the_order.Goals as goal

pub returns : goal.returns
returns c = product_keeps
