use Rattle.std.proofs.Common.{◌≡◌, fold}
use Rattle.linear.proofs.dot.sum_of_products.Given as goal

abbrev pub invariant-loop-x : goal.invariant-loop-x
invariant-loop-x g l = let m = g.F.Field.meaning l.field in l.sum ≡ fold (λ s p. m.add s (m.mul p.0.now p.1.now)) m.zero l.yielded
