use Rattle.order.specs.Exponents.{divides_in_words}
use Rattle.order.proofs.theorems.divides_is_a_product.Goals as goal

pub returns : goal.returns
returns c = divides_in_words
