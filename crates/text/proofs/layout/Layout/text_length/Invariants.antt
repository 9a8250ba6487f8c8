use Rattle.std.proofs.Common.{◌≡◌, ◌+◌, ◌*◌, ◌≤◌, length, take}
use Rattle.polynomials.specs.Held.{held}
use Rattle.text.specs.Written.{sizes, polynomial_size}
use Rattle.text.proofs.layout.Layout.text_length.Given as goal

abbrev pub invariant-loop-terms : goal.invariant-loop-terms
invariant-loop-terms l = (l.length ≡ 45 + sizes (polynomial_size l.fn.self.n) (take (length l.yielded) (held l.polynomials))) × (l.length ≤ 45 + length l.yielded * 57356)
