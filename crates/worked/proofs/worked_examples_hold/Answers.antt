use Rattle.worked.proofs.Rows.{worked_examples}
use Rattle.worked.proofs.worked_examples_hold.Goals as goal

pub returns : goal.returns
returns c = worked_examples
