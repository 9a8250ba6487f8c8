use Rattle.algebra.specs.Elements.{field_of}
use Rattle.algebra.proofs.ShapedBasis.{shapes_equal}
use Rattle.algebra.proofs.shaped_bases_are_equal.Goals as goal

pub returns : goal.returns
returns c = λ m laws. shapes_equal (field_of m laws)
