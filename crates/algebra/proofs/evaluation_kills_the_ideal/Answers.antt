use Rattle.algebra.specs.Elements.{field_of}
use Rattle.algebra.proofs.Evaluation.{evaluates}
use Rattle.algebra.proofs.evaluation_kills_the_ideal.Goals as goal

pub returns : goal.returns
returns c = λ m laws. evaluates (field_of m laws)
