use Rattle.std.proofs.Common.{◌≡◌, take}
use Rattle.linear.specs.Words.{added}
use Rattle.linear.proofs.multiple.add_multiple.Given as goal

abbrev pub invariant-loop-i : goal.invariant-loop-i
invariant-loop-i g l = l.to ≡ added (g.F.Field.meaning l.field) l.word (take l.i l.from) l.initial.to
