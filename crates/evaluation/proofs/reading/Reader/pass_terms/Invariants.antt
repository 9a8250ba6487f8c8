use Rattle.std.proofs.Common.{◌≡◌, ◌+◌, length}
use Rattle.evaluation.specs.Steps.{Walked}
use Rattle.evaluation.proofs.reading.Reader.pass_terms.Given as goal

abbrev pub invariant-loop-i : goal.invariant-loop-i
invariant-loop-i l = record {
  words : length l.words ≡ 5;
  same : l.here.n ≡ l.self.n;
  walked : Walked (l.self.n + 1) l.count l._i l.self.here l.here.here;
}
