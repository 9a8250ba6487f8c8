use Rattle.algebra.specs.Elements.{field_of}
use Rattle.algebra.proofs.HasShape.{shape_decided}
use Rattle.algebra.proofs.independent_powers_decide_the_shape.Goals as goal

pub returns : goal.returns
returns c = λ m laws. shape_decided (field_of m laws)
