use Rattle.std.proofs.Common.{length, take}
use Rattle.polynomials.specs.Held.{held}
use Rattle.runs.specs.Writing.{polynomial_text}
use Rattle.text.specs.Written.{AllWords, polynomial_size}
use Rattle.text.proofs.Parts.{Parts}
use Rattle.text.proofs.layout.Layout.put_polynomials.Given as goal

abbrev pub invariant-loop-terms : goal.invariant-loop-terms
invariant-loop-terms l = AllWords (take (length l.yielded) (held l.polynomials)) × Parts (polynomial_text l.self.n) (polynomial_size l.self.n) (held l.polynomials) l.initial.out l.at (length l.yielded) l.out l.end
