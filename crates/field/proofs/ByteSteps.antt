-- One turn of each loop of the product of bytes.
use Rattle.std.proofs.Common.{◌≡◌, ℕ, zero, suc, ◌+◌, ◌-◌, ◌*◌, ◌/◌, ◌%◌, ◌^◌, ◌<◌, ◌≤◌, sym, ap, ◌∙◌, pow-suc, arith, pow_mono}
use mathlib.Core.Path.{subst⁻¹}
use lib.Bits.{bit_xor, xor_lt}
use Rattle.std.proofs.lemmas.Nat.{shr-shr, mul-le, shl_whole}
use Rattle.field.specs.Bytes.{poly_product, poly_remainder}
use Rattle.field.specs.Additive.{below_two}

product_lt : (k a b : ℕ) → a < 256 → poly_product k a b < 2 ^ (8 + k)
unfolding poly_product
product_lt zero a b h = omega arith
product_lt (suc k) a b h =
    let low = product_lt k a (b / 2) h in
    let e : 8 + suc k ≡ suc (8 + k) = omega arith in
    let p = ap (λ (x : ℕ). 2 ^ x) e ∙ pow-suc 2 (8 + k) in
    let m = mul-le (b % 2) a 1 255 (let t = below_two b in omega arith) (omega arith) in
    let q = pow_mono {i = 8} {j = 8 + k} (omega arith) in
    xor_lt (8 + suc k) (b % 2 * a) (poly_product k a (b / 2) * 2) (omega arith) (omega arith)

pub product_short : (i a b : ℕ) → a < 256 → i ≤ 8 → poly_product (8 - i) a b < 2 ^ 16
product_short i a b h l = let low = product_lt (8 - i) a b h in let q = pow_mono {i = 8 + (8 - i)} {j = 16} (omega arith) in omega arith

pub product_step : (i a b : ℕ) → 0 < i → i ≤ 8 → bit_xor (b / 2 ^ (i - 1) % 2 * a) (poly_product (8 - i) a (b / 2 ^ i) * 2) ≡ poly_product (8 - (i - 1)) a (b / 2 ^ (i - 1))
unfolding poly_product
product_step i a b pos l =
    let e : 8 - (i - 1) ≡ suc (8 - i) = omega arith in
    let s : i - 1 + 1 ≡ i = omega arith in
    let q : b / 2 ^ i ≡ b / 2 ^ (i - 1) / 2 = sym (shr-shr b (i - 1) 1 ∙ ap (λ (x : ℕ). b / 2 ^ x) s) in
    ap (λ (x : ℕ). bit_xor (b / 2 ^ (i - 1) % 2 * a) (poly_product (8 - i) a x * 2)) q
    ∙ ap (λ (x : ℕ). poly_product x a (b / 2 ^ (i - 1))) (sym e)

pub remainder_step : (k r : ℕ) → 0 < k → k ≤ 7 → r < 2 ^ 16
    → (poly_remainder (k - 1) (bit_xor r (r / 2 ^ (8 + (k - 1)) % 2 * ((283 * 2 ^ (k - 1)) % 2 ^ 32))) ≡ poly_remainder k r)
    × (bit_xor r (r / 2 ^ (8 + (k - 1)) % 2 * ((283 * 2 ^ (k - 1)) % 2 ^ 32)) < 2 ^ 16)
unfolding poly_remainder
remainder_step k r pos l h =
    let j : ℕ = k - 1 in
    let e : suc (k - 1) ≡ k = omega arith in
    let s : (283 * 2 ^ (k - 1)) % 2 ^ 32 ≡ 283 * 2 ^ (k - 1) = shl_whole 283 9 (k - 1) 32 (omega arith) (omega arith) in
    let q = pow_mono {i = k - 1} {j = 6} (omega arith) in
    let m = mul-le (r / 2 ^ (8 + (k - 1)) % 2) (283 * 2 ^ (k - 1)) 1 18112 (let t = below_two (r / 2 ^ (8 + (k - 1))) in omega arith) (omega arith) in (
      ap (λ (x : ℕ). poly_remainder (k - 1) (bit_xor r (r / 2 ^ (8 + (k - 1)) % 2 * x))) s ∙ ap (λ (x : ℕ). poly_remainder x r) e,
      subst⁻¹ (λ (x : ℕ). bit_xor r (r / 2 ^ (8 + (k - 1)) % 2 * x) < 2 ^ 16) s (xor_lt 16 r (r / 2 ^ (8 + (k - 1)) % 2 * (283 * 2 ^ (k - 1))) h (omega arith)),
    )
