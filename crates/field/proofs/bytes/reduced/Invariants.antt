use Rattle.std.proofs.Common.{◌≡◌, ◌^◌, ◌<◌}
use Rattle.field.specs.Bytes.{poly_remainder}
use Rattle.field.proofs.bytes.reduced.Given as goal

abbrev pub invariant-loop-k : goal.invariant-loop-k
invariant-loop-k l = (poly_remainder l.k l.r ≡ poly_remainder 7 l.n) × (l.r < 2 ^ 16)
