use Rattle.column.proofs.Walks.{Written}
use Rattle.column.proofs.line.put_columns.Given as goal

abbrev pub invariant-loop-i : goal.invariant-loop-i
invariant-loop-i l = Written l.out l.initial.out l.at l.words l.i
