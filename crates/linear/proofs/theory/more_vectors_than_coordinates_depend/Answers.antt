use Rattle.algebra.specs.Elements.{field_of}
use Rattle.algebra.proofs.Span
use Rattle.linear.proofs.theory.more_vectors_than_coordinates_depend.Goals as goal

pub returns : goal.returns
returns c m laws D v = Span.dependent (field_of m laws) D v
