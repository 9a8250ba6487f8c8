-- From Exactness.
use Rattle.column.proofs.Exactness as lines
use Rattle.column.proofs.laws.line_reading_is_exact.Goals as goal

pub returns : goal.returns
returns c = record { exact = λ n bs r. (lines.reads_line_reading n bs, lines.reading_line_from n bs r); reads_back = lines.line_reads_back; read_is_line = lines.read_is_line }
