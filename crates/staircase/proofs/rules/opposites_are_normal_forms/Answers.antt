use Rattle.staircase.proofs.Opposites.{opposites_rule}
use Rattle.staircase.proofs.rules.opposites_are_normal_forms.Goals as goal

pub returns : goal.returns
returns c = opposites_rule
