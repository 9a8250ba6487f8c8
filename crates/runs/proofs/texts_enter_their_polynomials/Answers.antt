use Rattle.runs.proofs.Texts.{texts_enter}
use Rattle.runs.proofs.texts_enter_their_polynomials.Goals as goal

pub returns : goal.returns
returns c = texts_enter
