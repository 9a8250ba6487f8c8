use Rattle.shaping.proofs.OneAnswer.{one_answer}
use Rattle.shaping.proofs.theorem.each_text_has_one_answer.Goals as goal

pub returns : goal.returns
returns c = one_answer
