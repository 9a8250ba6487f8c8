use Rattle.algebra.specs.Elements.{field_of}
use Rattle.algebra.proofs.Matrices.{agreement_holds}
use Rattle.algebra.proofs.agreement_decides_independence.Goals as goal

pub returns : goal.returns
returns c = λ m laws. agreement_holds (field_of m laws)
