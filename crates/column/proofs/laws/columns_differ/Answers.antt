-- From Columns.
use Rattle.column.proofs.Columns as columns
use Rattle.column.proofs.laws.columns_differ.Goals as goal

pub returns : goal.returns
returns c = columns.columns_differ
