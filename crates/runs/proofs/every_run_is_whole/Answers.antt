use Rattle.runs.proofs.WholeRuns.{runs_whole}
use Rattle.runs.proofs.every_run_is_whole.Goals as goal

pub returns : goal.returns
returns c = runs_whole
