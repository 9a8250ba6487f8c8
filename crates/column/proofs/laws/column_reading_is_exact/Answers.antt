-- From Columns.
use Rattle.column.proofs.Columns.{reading_exact, reading_from, reading_column, column_from_reading}
use Rattle.column.proofs.laws.column_reading_is_exact.Goals as goal

pub returns : goal.returns
returns c = record { exact = λ bs o. (reading_exact bs, reading_from bs o); reads_back = reading_column; read_is_column = column_from_reading }
