use Rattle.algebra.proofs.Records.{ordered}
use Rattle.algebra.proofs.orders_of_records_order_monomials.Goals as goal

pub returns : goal.returns
returns c = λ cmp O n fits. ordered n fits cmp O
