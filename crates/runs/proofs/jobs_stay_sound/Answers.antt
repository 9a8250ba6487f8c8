use Rattle.runs.proofs.Runs.{sound_kept}
use Rattle.runs.proofs.jobs_stay_sound.Goals as goal

pub returns : goal.returns
returns c = sound_kept
