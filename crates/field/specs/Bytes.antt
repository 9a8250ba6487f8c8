-- The byte field: polynomials over the bits, modulo x^8 + x^4 + x^3 + x + 1, as FIPS 197 has it in section 4.2.
-- The bit of 2 ^ i in a word is the coefficient of x ^ i, so 283 is the modulus.
--   poly_product k a b     the polynomial a times the polynomial of b's k lowest coefficients
--   poly_remainder k n     what a polynomial n below x ^ (8 + k) leaves, divided by the modulus
--   byte_product a b       the product of two bytes
--   power_254 a            a ^ 254, which is the inverse of a, since a ^ 255 is 1
--   bytes                  elements, zero, one, sum, product, opposite and inverse of bytes
--   ProductDivides        the product is the one byte that differs from the product of the polynomials by a multiple of the modulus
--   ByteExamples          published products, sums and inverses
-- Used by: the meaning of ByteField, at all words through `total`.
use Rattle.std.specs.Prelude.{◌≡◌, ℕ, zero, suc, ◌+◌, ◌*◌, ◌/◌, ◌%◌, ◌^◌, ◌<◌, Some, bit_xor, nat_lt}
use Rattle.field.specs.Meaning.{FieldMeaning, total}

unfoldable pub poly_product : ℕ → ℕ → ℕ → ℕ
poly_product zero a b = 0
poly_product (suc k) a b = bit_xor (b % 2 * a) (poly_product k a (b / 2) * 2)

unfoldable pub poly_remainder : ℕ → ℕ → ℕ
poly_remainder zero n = n
poly_remainder (suc k) n = poly_remainder k (bit_xor n (n / 2 ^ (8 + k) % 2 * (283 * 2 ^ k)))

unfoldable pub byte_product : ℕ → ℕ → ℕ
byte_product a b = poly_remainder 7 (poly_product 8 a b)

unfoldable pub power_254 : ℕ → ℕ
power_254 a =
    let a2 : ℕ = byte_product a a in
    let a3 : ℕ = byte_product a2 a in
    let a6 : ℕ = byte_product a3 a3 in
    let a12 : ℕ = byte_product a6 a6 in
    let a15 : ℕ = byte_product a12 a3 in
    let a30 : ℕ = byte_product a15 a15 in
    let a60 : ℕ = byte_product a30 a30 in
    let a120 : ℕ = byte_product a60 a60 in
    let a240 : ℕ = byte_product a120 a120 in
    byte_product (byte_product a240 a12) a2

abbrev pub bytes : FieldMeaning
bytes = record {
  elem = λ a. nat_lt a 256;
  zero = 0;
  one = 1;
  add = bit_xor;
  mul = byte_product;
  neg = λ a. a;
  inv = λ a. Some (power_254 a);
}

pub record ProductDivides : Type 0 where
  pub some : (a b : ℕ) → a < 256 → b < 256
      → (q : ℕ) × (q < 128) × (byte_product a b < 256) × (poly_product 8 a b ≡ bit_xor (poly_product 9 q 283) (byte_product a b))
  pub one : (a b q r : ℕ) → q < 128 → r < 256 → poly_product 8 a b ≡ bit_xor (poly_product 9 q 283) r → r ≡ byte_product a b

pub record ByteExamples : Type 0 where
  pub sum : (total bytes).add 87 131 ≡ 212
  pub product : (total bytes).mul 87 131 ≡ 193
  pub by_nineteen : (total bytes).mul 87 19 ≡ 254
  pub doubled : (total bytes).mul 87 2 ≡ 174
  pub inverse_of_two : (total bytes).inv 2 ≡ Some 141
