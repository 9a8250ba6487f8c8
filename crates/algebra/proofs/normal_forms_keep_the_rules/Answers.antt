use Rattle.algebra.specs.Elements.{field_of}
use Rattle.algebra.proofs.NormalForms.{normal_forms}
use Rattle.algebra.proofs.normal_forms_keep_the_rules.Goals as goal

pub returns : goal.returns
returns c = λ m laws. normal_forms (field_of m laws)
