use Rattle.std.proofs.Common.{◌≡◌, suc, length}
use Rattle.text.specs.Steps.{TermsWalked}
use Rattle.text.proofs.layout.Layout.read_terms.Given as goal

abbrev pub invariant-loop-term : goal.invariant-loop-term
invariant-loop-term l = (length l.words ≡ suc l.fn.self.n) × TermsWalked (suc l.fn.self.n) (length l.fn.terms) l.term-index l.reader l.here l.terms
