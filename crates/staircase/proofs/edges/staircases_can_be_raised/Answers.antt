use Rattle.staircase.proofs.Bordered.{stairs_raisable}
use Rattle.staircase.proofs.edges.staircases_can_be_raised.Goals as goal

pub returns : goal.returns
returns c = stairs_raisable
