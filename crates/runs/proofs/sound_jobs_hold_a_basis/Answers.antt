use Rattle.runs.proofs.Entered.{sound_basis}
use Rattle.runs.proofs.sound_jobs_hold_a_basis.Goals as goal

pub returns : goal.returns
returns c = sound_basis
