use Rattle.std.proofs.Common.{◌≡◌, ◌-◌, ◌/◌, ◌^◌, ◌<◌}
use Rattle.field.specs.Bytes.{poly_product}
use Rattle.field.proofs.bytes.multiplied.Given as goal

abbrev pub invariant-loop-i : goal.invariant-loop-i
invariant-loop-i l = (l.r ≡ poly_product (8 - l.i) l.a (l.b / 2 ^ l.i)) × (l.r < 2 ^ 16)
