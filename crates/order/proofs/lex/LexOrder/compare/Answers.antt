use Rattle.order.specs.Monomials.{variables, exponent}
use Rattle.order.specs.Orders.{lex}
use Rattle.order.proofs.Arrays.{down_highest}
use Rattle.order.proofs.lex.LexOrder.compare.Goals as goal

pub returns-clause-answer : goal.returns-clause-answer
unfolding lex exponent
returns-clause-answer c = rw (c.cmp.ensures, c.highest_first.ensures, c.highest_first-2.ensures) (down_highest variables (exponent c.args.a) (exponent c.args.b))
