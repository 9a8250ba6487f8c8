use Rattle.order.specs.Exponents.{power_in_words}
use Rattle.order.proofs.theorems.power_of_one_variable.Goals as goal

pub returns : goal.returns
returns c = power_in_words
