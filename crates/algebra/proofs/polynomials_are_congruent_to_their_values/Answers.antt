use Rattle.algebra.specs.Elements.{field_of}
use Rattle.algebra.proofs.Matrices.{congruences}
use Rattle.algebra.proofs.polynomials_are_congruent_to_their_values.Goals as goal

pub returns : goal.returns
returns c = λ m laws. congruences (field_of m laws)
