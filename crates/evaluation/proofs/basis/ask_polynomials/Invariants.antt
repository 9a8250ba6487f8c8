use Rattle.std.proofs.Common.{◌≡◌}
use Rattle.evaluation.specs.Steps.{WalkedPolynomials}
use Rattle.evaluation.proofs.basis.ask_polynomials.Given as goal

abbrev pub invariant-loop-i : goal.invariant-loop-i
invariant-loop-i g l = record {
  same : l.here.n ≡ l.reader.n;
  walked : WalkedPolynomials (g.F.Field.meaning l.field) l.reader.n l.count l._i l.reader.here l.here.here;
}
