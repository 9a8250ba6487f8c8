use Rattle.runs.proofs.ReadBack.{texts_read_back}
use Rattle.runs.proofs.basis_texts_read_back.Goals as goal

pub returns : goal.returns
returns c = texts_read_back
