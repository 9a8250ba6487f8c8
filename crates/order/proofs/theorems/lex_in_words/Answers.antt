use Rattle.order.specs.OrderLaws.{lex_in_words}
use Rattle.order.proofs.theorems.lex_in_words.Goals as goal

pub returns : goal.returns
returns c = lex_in_words
