use Rattle.runs.proofs.OneAnswer.{one_answer}
use Rattle.runs.proofs.each_call_has_one_answer.Goals as goal

pub returns : goal.returns
returns c = one_answer
