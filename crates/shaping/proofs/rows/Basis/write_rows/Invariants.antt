use Rattle.shaping.proofs.Printing.{RowsWritten}
use Rattle.shaping.proofs.rows.Basis.write_rows.Given as goal

abbrev pub invariant-loop-i : goal.invariant-loop-i
invariant-loop-i l = RowsWritten l.self.size l.self.words l.initial.out l.at l._i l.left l.out l.end
