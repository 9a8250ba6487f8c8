-- From Exactness.
use Rattle.column.proofs.Exactness.{written_column_reads, written_line_reads}
use Rattle.column.proofs.laws.what_was_written_reads_back.Goals as goal

pub returns : goal.returns
returns c = record { column = written_column_reads; line = written_line_reads }
