-- The remainder is what division by the modulus leaves.
use Rattle.std.proofs.Common.{◌≡◌, ℕ, zero, suc, ◌+◌, ◌*◌, ◌/◌, ◌%◌, ◌^◌, ◌<◌, ◌≤◌, T, eqb, sym, refl, ap, ◌∙◌, ap₂, one-mul, zero-mul, arith, eqb→eq}
use lib.Bits.{bit_xor, xor_comm, xor_assoc, xor_self, xor_zero_r, xor_lt}
use lib.Pow.{pow-lt}
use Rattle.field.specs.Bytes.{poly_product, poly_remainder, byte_product, power_254, ProductDivides, ByteExamples}
use Rattle.field.specs.Additive.{every, every_at, agree, below_two, at_zero, product_left, remainder_additive}
use Rattle.field.specs.ByteLaws.{within}

shifts_test : T (every 7 (λ p. eqb (poly_product 9 p 283) (283 * p)))
unfolding every poly_product
shifts_test = tt

none_test : T (every 7 (λ p. eqb (poly_remainder 7 (poly_product 9 p 283)) 0))
unfolding every poly_product poly_remainder
none_test = tt

same_test : T (every 8 (λ p. eqb (poly_remainder 7 p) p))
unfolding every poly_remainder
same_test = tt

-- a coefficient d of x ^ (8 + k) is taken away by d times the modulus, moved up by k
taken : (d k : ℕ) → d < 2 → k < 7 → (q : ℕ) × (q < 128) × (d * (283 * 2 ^ k) ≡ poly_product 9 q 283)
unfolding poly_product
taken zero k h l = (0, omega arith, zero-mul (283 * 2 ^ k) ∙ sym (at_zero (λ x. poly_product 9 x 283) (product_left 9 283)))
taken (suc zero) k h l = (2 ^ k, pow-lt {i = k} {j = 7} l, one-mul (283 * 2 ^ k) ∙ sym (eqb→eq _ _ (every_at 7 (λ p. eqb (poly_product 9 p 283) (283 * p)) shifts_test k l)))
taken (suc (suc d)) k h l = absurd (omega arith)

divided : (k n : ℕ) → k ≤ 7 → (q : ℕ) × (q < 128) × (n ≡ bit_xor (poly_product 9 q 283) (poly_remainder k n))
unfolding poly_remainder
divided zero n l = (0, omega arith, sym (ap (λ (x : ℕ). bit_xor x n) (at_zero (λ x. poly_product 9 x 283) (product_left 9 283))))
divided (suc k) n l =
    let m : ℕ = n / 2 ^ (8 + k) % 2 * (283 * 2 ^ k) in
    let t = taken (n / 2 ^ (8 + k) % 2) k (below_two (n / 2 ^ (8 + k))) (omega arith) in
    let r = divided k (bit_xor n m) (omega arith) in
    let rest : ℕ = poly_remainder k (bit_xor n m) in (
      bit_xor t.0 r.0,
      xor_lt 7 t.0 r.0 t.1 r.1,
      sym (xor_zero_r n) ∙ ap (bit_xor n) (sym (xor_self m)) ∙ sym (xor_assoc n m m) ∙ xor_comm (bit_xor n m) m
          ∙ ap₂ bit_xor t.2 r.2 ∙ sym (xor_assoc (poly_product 9 t.0 283) (poly_product 9 r.0 283) rest)
          ∙ ap (λ (x : ℕ). bit_xor x rest) (sym (product_left 9 283 t.0 r.0)),
    )

pub product_divides : ProductDivides
unfolding byte_product
product_divides = record {
  some = λ a b ha hb. let d = divided 7 (poly_product 8 a b) (omega arith) in (d.0, d.1, within a b ha hb, d.2);
  one = λ a b q r hq hr e.
      let none : poly_remainder 7 (poly_product 9 q 283) ≡ 0 =
      agree 7 (λ x. poly_remainder 7 (poly_product 9 x 283)) (λ x. 0)
      (λ x y. ap (poly_remainder 7) (product_left 9 283 x y) ∙ remainder_additive 7 (poly_product 9 x 283) (poly_product 9 y 283))
      (λ x y. refl) (λ i hi. eqb→eq _ _ (every_at 7 (λ p. eqb (poly_remainder 7 (poly_product 9 p 283)) 0) none_test i hi)) q hq in
      let same : poly_remainder 7 r ≡ r =
      agree 8 (poly_remainder 7) (λ x. x) (remainder_additive 7) (λ x y. refl) (λ i hi. eqb→eq _ _ (every_at 8 (λ p. eqb (poly_remainder 7 p) p) same_test i hi)) r hr in
      sym (ap (poly_remainder 7) e ∙ remainder_additive 7 (poly_product 9 q 283) r ∙ ap₂ bit_xor none same);
}

pub byte_examples : ByteExamples
unfolding power_254 byte_product poly_product poly_remainder
byte_examples = record { sum = refl; product = refl; by_nineteen = refl; doubled = refl; inverse_of_two = refl }
