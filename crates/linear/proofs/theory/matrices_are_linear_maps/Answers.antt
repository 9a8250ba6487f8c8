use Rattle.algebra.specs.Elements.{field_of}
use Rattle.algebra.proofs.Maps
use Rattle.linear.proofs.theory.matrices_are_linear_maps.Goals as goal

pub returns : goal.returns
returns c m laws D A = Maps.apply_linear (field_of m laws) D A
