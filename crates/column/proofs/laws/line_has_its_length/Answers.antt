-- From Lines.
use Rattle.column.proofs.Lines.{line_length_is}
use Rattle.column.proofs.laws.line_has_its_length.Goals as goal

pub returns : goal.returns
returns c = line_length_is
