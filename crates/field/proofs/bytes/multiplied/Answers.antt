use Rattle.std.proofs.Common.{◌≡◌, ℕ, ◌-◌, ◌*◌, ◌/◌, ◌%◌, ◌^◌, ◌<◌, refl, ap, ◌∙◌, div-one, arith, lit<}
use mathlib.Core.Path.{subst⁻¹}
use lib.Bits.{bit_xor}
use Rattle.field.specs.Bytes.{poly_product}
use Rattle.field.proofs.ByteSteps.{product_step, product_short}
use Rattle.field.proofs.bytes.multiplied.Goals as goal

pub loop-i-init : goal.loop-i-init
unfolding poly_product
loop-i-init c = (refl, lit< tt)

pub loop-i-preserved : goal.loop-i-preserved
loop-i-preserved c =
    let a = c.args.a in
    let b = c.args.b in
    let i = c.loop-i.i in
    let e : bit_xor (b / 2 ^ (i - 1) % 2 * a) (c.loop-i.r * 2) ≡ poly_product (8 - (i - 1)) a (b / 2 ^ (i - 1)) =
    ap (λ (x : ℕ). bit_xor (b / 2 ^ (i - 1) % 2 * a) (x * 2)) c.loop-i.invariant.0 ∙ product_step i a b c.loop-i-test.true c.loop-i.auto.i in
    (e, subst⁻¹ (λ (x : ℕ). x < 2 ^ 16) e (product_short (i - 1) a (b / 2 ^ (i - 1)) c.requires.0 (omega arith)))

pub returns : goal.returns
returns c =
    let e : c.loop-i.i ≡ 0 = omega arith in
    (c.loop-i.invariant.0 ∙ ap (λ (x : ℕ). poly_product (8 - x) c.args.a (c.args.b / 2 ^ x)) e ∙ ap (poly_product 8 c.args.a) (div-one c.args.b), c.loop-i.invariant.1)
