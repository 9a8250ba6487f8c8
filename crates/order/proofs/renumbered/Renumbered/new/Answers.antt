use Rattle.order.specs.Moves.{renumbered_made}
use Rattle.order.proofs.renumbered.Renumbered.new.Goals as goal

pub returns-then-is_rearrangement : goal.returns-then-is_rearrangement
returns-then-is_rearrangement g c = renumbered_made c.args.below c.args.rearrangement _
