use Rattle.order.specs.OrderLaws.{drl_in_words}
use Rattle.order.proofs.theorems.drl_in_words.Goals as goal

pub returns : goal.returns
returns c = drl_in_words
