-- From Exactness.
use Rattle.column.proofs.Exactness.{one_line}
use Rattle.column.proofs.laws.one_line_at_a_place.Goals as goal

pub returns : goal.returns
returns c = one_line
