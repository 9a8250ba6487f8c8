use Rattle.runs.proofs.Lines.{texts_written}
use Rattle.runs.proofs.accepted_texts_are_basis_texts.Goals as goal

pub returns : goal.returns
returns c = texts_written
