use Rattle.runs.proofs.WholeRuns.{answers_keep_whole}
use Rattle.runs.proofs.an_appended_answer_keeps_a_run_whole.Goals as goal

pub returns : goal.returns
returns c = answers_keep_whole
