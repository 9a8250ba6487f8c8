use Rattle.staircase.proofs.Replacing.{steps_replace, column_more, columns_none}
use Rattle.staircase.proofs.rules.steps_are_normal_forms.Goals as goal

pub returns : goal.returns
returns c = record { replaced = steps_replace; column_more = column_more; columns_none = columns_none }
