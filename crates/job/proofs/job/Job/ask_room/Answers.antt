use Rattle.std.proofs.Common.{refl}
use Rattle.job.specs.State.{state}
use Rattle.job.proofs.job.Job.ask_room.Goals as goal

pub returns : goal.returns
returns g c line = c.ask_room.ensures line (state c.args.self.now.table) refl
