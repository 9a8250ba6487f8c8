use Rattle.algebra.specs.Elements.{field_of}
use Rattle.algebra.specs.Vector.{krylov}
use Rattle.algebra.proofs.Span
use Rattle.linear.proofs.theory.krylov_degree_is_at_most_the_dimension.Goals as goal

pub returns : goal.returns
returns c m laws D T lin e = Span.degree (field_of m laws) D (krylov (field_of m laws) T e)
