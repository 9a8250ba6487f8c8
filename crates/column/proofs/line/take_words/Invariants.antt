use Rattle.std.proofs.Common.{◌≡◌, ◌-◌, ◌*◌, ◌++◌, length, take, drop}
use Rattle.column.specs.Line.{values}
use Rattle.column.proofs.line.take_words.Given as goal

abbrev pub invariant-loop-i : goal.invariant-loop-i
invariant-loop-i l = take (length l.yielded) l.words ++ values (length l.initial.words - length l.yielded) (drop (11 * length l.yielded) l.columns) ≡ values (length l.initial.words) l.columns
