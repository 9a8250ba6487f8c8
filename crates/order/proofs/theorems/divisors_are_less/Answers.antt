use Rattle.order.proofs.Products.{divisor_less}
use Rattle.order.proofs.theorems.divisors_are_less.Goals as goal

pub returns : goal.returns
returns c = divisor_less
