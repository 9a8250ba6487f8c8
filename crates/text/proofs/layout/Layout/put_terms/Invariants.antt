use Rattle.std.proofs.Common.{take}
use Rattle.polynomials.specs.Held.{terms_of}
use Rattle.runs.specs.Writing.{term_line}
use Rattle.text.specs.Written.{Words, term_size}
use Rattle.text.proofs.Parts.{Parts}
use Rattle.text.proofs.layout.Layout.put_terms.Given as goal

abbrev pub invariant-loop-term : goal.invariant-loop-term
invariant-loop-term l = Words (take l.term-index (terms_of l.terms)) × Parts (term_line l.self.n) (term_size l.self.n) (terms_of l.terms) l.initial.out l.at l.term-index l.out l.end
