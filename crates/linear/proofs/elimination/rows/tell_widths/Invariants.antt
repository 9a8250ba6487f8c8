use Rattle.linear.specs.Elimination.{Wide}
use Rattle.linear.proofs.elimination.rows.tell_widths.Given as goal

abbrev pub invariant-loop-row : goal.invariant-loop-row
invariant-loop-row l = Wide l.row-index l.table
