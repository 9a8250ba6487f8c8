use Rattle.algebra.specs.Staircase.{staircase}
use Rattle.algebra.proofs.Border.{border_exactly, edge_small}
use Rattle.algebra.proofs.border_holds_the_products_outside.Goals as goal

pub returns : goal.returns
returns c = λ n before O leads Q. border_exactly n before (staircase n before leads) O (edge_small n before leads Q)
