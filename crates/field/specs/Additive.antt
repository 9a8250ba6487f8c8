-- Functions on words that go through exclusive or: two agree on all bytes if they do on the powers of 2.
use Rattle.std.specs.Prelude.{◌≡◌, ℕ, zero, suc, ◌+◌, ◌-◌, ◌*◌, ◌/◌, ◌%◌, ◌^◌, ◌<◌, ◌≤◌, Bool, true, false, ◌&&◌, T, bit_xor, refl}
use Rattle.std.proofs.Common.{sym, ap, ap₂, ◌∙◌, subst, ⊎_elim, pow-suc, mod-lt, zero-lt-suc, zero-mul, one-mul, arith}
use Rattle.std.proofs.Math.Path.{subst⁻¹}
use Rattle.std.proofs.lemmas.Nat.{xor_comm, xor_shr, xor_mod, xor_block}
use Rattle.std.specs.Int.Bits.{xor_assoc, xor_self, xor_zero_r, xor_shifted}
use Rattle.std.proofs.lemmas.Bool.{cases_lt}
use Rattle.field.specs.Bytes.{poly_product, poly_remainder, byte_product}

abbrev pub Additive : (ℕ → ℕ) → Type 0
Additive f = (a b : ℕ) → f (bit_xor a b) ≡ bit_xor (f a) (f b)

pub at_zero : (f : ℕ → ℕ) → Additive f → f 0 ≡ 0
at_zero f h =
    let e : f 0 ≡ bit_xor (f 0) (f 0) = h 0 0 in
    e ∙ xor_self (f 0)

pub agree : (k : ℕ) (f g : ℕ → ℕ) → Additive f → Additive g → ((i : ℕ) → i < k → f (2 ^ i) ≡ g (2 ^ i)) → (a : ℕ) → a < 2 ^ k → f a ≡ g a
agree zero f g hf hg t a h =
    let e : a ≡ 0 = omega arith in
    ap f e ∙ at_zero f hf ∙ sym (at_zero g hg) ∙ sym (ap g e)
agree (suc k) f g hf hg t a h =
    let below : (b : ℕ) → b < 2 ^ k → f b ≡ g b = agree k f g hf hg (λ i l. t i (omega arith)) in
    ⊎_elim
    (λ (l : a < 2 ^ k). below a l)
    (λ (l : 2 ^ k ≤ a).
    let b : ℕ = a - 2 ^ k in
    let p = pow-suc 2 k in
    let m : a - 2 ^ k < 2 ^ k = omega arith in
    let x = xor_shifted 1 k (a - 2 ^ k) m in
    let one : 1 * 2 ^ k ≡ 2 ^ k = omega arith in
    let e : a ≡ bit_xor (2 ^ k) (a - 2 ^ k) = omega (arith, subst (λ (y : ℕ). bit_xor y (a - 2 ^ k) ≡ y + (a - 2 ^ k)) one x) in
    ap f e ∙ hf (2 ^ k) (a - 2 ^ k) ∙ ap₂ bit_xor (t k (omega arith)) (below (a - 2 ^ k) m) ∙ sym (hg (2 ^ k) (a - 2 ^ k)) ∙ sym (ap g e))
    (cases_lt a (2 ^ k))

-- a test of the powers of 2 below 2 ^ k
unfoldable pub every : ℕ → (ℕ → Bool) → Bool
every zero test = true
every (suc k) test = test (2 ^ k) && every k test

pub and_left : (a b : Bool) → T (a && b) → T a
and_left true b t = tt
and_left false b t = absurd t

pub and_right : (a b : Bool) → T (a && b) → T b
and_right true b t = t
and_right false b t = absurd t

pub every_at : (k : ℕ) (test : ℕ → Bool) → T (every k test) → (i : ℕ) → i < k → T (test (2 ^ i))
unfolding every
every_at zero test t i h = absurd (omega arith)
every_at (suc k) test t i h =
    ⊎_elim
    (λ (l : i < k). every_at k test (and_right (test (2 ^ k)) (every k test) t) i l)
    (λ (l : k ≤ i). let e : i ≡ k = omega arith in subst⁻¹ (λ (j : ℕ). T (test (2 ^ j))) e (and_left (test (2 ^ k)) (every k test) t))
    (cases_lt i k)

-- ---- what goes through exclusive or

pub swap : (a b c d : ℕ) → bit_xor (bit_xor a b) (bit_xor c d) ≡ bit_xor (bit_xor a c) (bit_xor b d)
swap a b c d =
    xor_assoc a b (bit_xor c d)
    ∙ ap (bit_xor a) (sym (xor_assoc b c d) ∙ ap (λ (x : ℕ). bit_xor x d) (xor_comm b c) ∙ xor_assoc c b d)
    ∙ sym (xor_assoc a c (bit_xor b d))

-- a digit times a word
digit_right : (d a b : ℕ) → d < 2 → d * bit_xor a b ≡ bit_xor (d * a) (d * b)
digit_right zero a b h = simp zero-mul
digit_right (suc zero) a b h = simp one-mul
digit_right (suc (suc d)) a b h = absurd (omega arith)

digit_left : (x y a : ℕ) → x < 2 → y < 2 → bit_xor x y * a ≡ bit_xor (x * a) (y * a)
digit_left zero y a hx hy = ap (λ (z : ℕ). bit_xor z (y * a)) (sym (zero-mul a))
digit_left (suc zero) zero a hx hy = sym (xor_zero_r (1 * a)) ∙ ap (bit_xor (1 * a)) (sym (zero-mul a))
digit_left (suc zero) (suc zero) a hx hy = zero-mul a ∙ sym (xor_self (1 * a))
digit_left (suc zero) (suc (suc y)) a hx hy = absurd (omega arith)
digit_left (suc (suc x)) y a hx hy = absurd (omega arith)

pub below_two : (n : ℕ) → n % 2 < 2
below_two n = mod-lt n (zero-lt-suc 1)

digit : (a b m : ℕ) → bit_xor a b % 2 * m ≡ bit_xor (a % 2 * m) (b % 2 * m)
digit a b m = ap (λ (x : ℕ). x * m) (xor_mod a b 1) ∙ digit_left (a % 2) (b % 2) m (below_two a) (below_two b)

digit_at : (k a b m : ℕ) → bit_xor a b / 2 ^ k % 2 * m ≡ bit_xor (a / 2 ^ k % 2 * m) (b / 2 ^ k % 2 * m)
digit_at k a b m = ap (λ (x : ℕ). x % 2 * m) (xor_shr a b k) ∙ digit (a / 2 ^ k) (b / 2 ^ k) m

pub double : (a b : ℕ) → bit_xor a b * 2 ≡ bit_xor (a * 2) (b * 2)
double a b =
    let e : (n : ℕ) → n * 2 + 0 ≡ n * 2 = λ n. omega arith in
    sym (e (bit_xor a b)) ∙ sym (xor_block 1 a b 0 0 (zero-lt-suc 1) (zero-lt-suc 1)) ∙ ap₂ bit_xor (e a) (e b)

pub product_left : (k b : ℕ) → Additive (λ a. poly_product k a b)
unfolding poly_product
product_left zero b a c = refl
product_left (suc k) b a c =
    ap₂ bit_xor (digit_right (b % 2) a c (below_two b)) (ap (λ (x : ℕ). x * 2) (product_left k (b / 2) a c) ∙ double (poly_product k a (b / 2)) (poly_product k c (b / 2)))
    ∙ swap (b % 2 * a) (b % 2 * c) (poly_product k a (b / 2) * 2) (poly_product k c (b / 2) * 2)

product_right : (k a : ℕ) → Additive (poly_product k a)
unfolding poly_product
product_right zero a b c = refl
product_right (suc k) a b c =
    ap₂ bit_xor (digit b c a) (ap (λ (x : ℕ). x * 2) (ap (poly_product k a) (xor_shr b c 1) ∙ product_right k a (b / 2) (c / 2)) ∙ double (poly_product k a (b / 2)) (poly_product k a (c / 2)))
    ∙ swap (b % 2 * a) (c % 2 * a) (poly_product k a (b / 2) * 2) (poly_product k a (c / 2) * 2)

pub remainder_additive : (k : ℕ) → Additive (poly_remainder k)
unfolding poly_remainder
remainder_additive zero a b = refl
remainder_additive (suc k) a b =
    let m : ℕ = 283 * 2 ^ k in
    ap (poly_remainder k) (ap (bit_xor (bit_xor a b)) (digit_at (8 + k) a b (283 * 2 ^ k)) ∙ swap a b (a / 2 ^ (8 + k) % 2 * (283 * 2 ^ k)) (b / 2 ^ (8 + k) % 2 * (283 * 2 ^ k)))
    ∙ remainder_additive k _ _

pub times_left : (b : ℕ) → Additive (λ a. byte_product a b)
unfolding byte_product
times_left b a c = ap (poly_remainder 7) (product_left 8 b a c) ∙ remainder_additive 7 (poly_product 8 a b) (poly_product 8 c b)

pub times_right : (a : ℕ) → Additive (byte_product a)
unfolding byte_product
times_right a b c = ap (poly_remainder 7) (product_right 8 a b c) ∙ remainder_additive 7 (poly_product 8 a b) (poly_product 8 a c)
