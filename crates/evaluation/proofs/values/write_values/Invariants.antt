use Rattle.std.proofs.Common.{◌≡◌, length, drop}
use Rattle.evaluation.proofs.Summing.{Listed}
use Rattle.evaluation.proofs.values.write_values.Given as goal

abbrev pub invariant-loop-i : goal.invariant-loop-i
invariant-loop-i g l = record {
  same_length : length l.out ≡ length l.initial.out;
  listed : Listed (g.F.Field.meaning l.field) (length l.point) l.point (drop l.basis.at l.basis.text.now) l.initial.out l._i (drop l.lines.at l.lines.text.now) l.out l.end;
}
