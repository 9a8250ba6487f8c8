-- The laws of the byte field. The product goes through exclusive or in each factor, so a law of products
-- needs a test at the powers of 2 alone; inverses are tested at each byte.
use Rattle.std.specs.Prelude.{◌≡◌, ℕ, zero, suc, ◌+◌, ◌%◌, ◌^◌, ◌<◌, ◌≤◌, Bool, true, false, ◌&&◌, ◌||◌, T, ◌==◌, nat_eq, refl}
use Rattle.std.proofs.Common.{ap, ◌∙◌, ⊎_elim, pow-suc, mod-lt, pos_of_ne-zero, arith, eqb→eq, ltb→lt, lt→ltb, lit<}
use Rattle.std.proofs.Math.Path.{subst⁻¹}
use Rattle.std.specs.Int.Bits.{xor_assoc, xor_self, xor_zero_r}
use Rattle.std.proofs.lemmas.Nat.{xor_comm, xor_lt, xor_mod}
use Rattle.std.proofs.lemmas.Bool.{cases_lt}
use Rattle.field.specs.Meaning.{FieldLaws, total}
use Rattle.field.specs.Bytes.{poly_product, poly_remainder, byte_product, power_254, bytes}
use Rattle.field.specs.Total.{total_laws}
use Rattle.field.specs.Additive.{every, every_at, agree, Additive, times_left, times_right, and_left, and_right}

-- ---- the tests

comm_test : T (every 8 (λ a. every 8 (λ b. nat_eq (byte_product a b) (byte_product b a))))
unfolding every byte_product poly_product poly_remainder
comm_test = tt

assoc_test : T (every 8 (λ a. every 8 (λ b. every 8 (λ c. nat_eq (byte_product (byte_product a b) c) (byte_product a (byte_product b c))))))
unfolding every byte_product poly_product poly_remainder
assoc_test = tt

one_test : T (every 8 (λ a. nat_eq (byte_product a 1) a))
unfolding every byte_product poly_product poly_remainder
one_test = tt

within_test : T (every 8 (λ a. every 8 (λ b. nat_eq (byte_product a b) (byte_product a b % 256))))
unfolding every byte_product poly_product poly_remainder
within_test = tt

-- ---- from the powers of 2 to the bytes

two : (f g : ℕ → ℕ → ℕ)
    → ((b : ℕ) → Additive (λ a. f a b)) → ((a : ℕ) → Additive (f a))
    → ((b : ℕ) → Additive (λ a. g a b)) → ((a : ℕ) → Additive (g a))
    → T (every 8 (λ a. every 8 (λ b. nat_eq (f a b) (g a b))))
    → (a b : ℕ) → a < 256 → b < 256 → f a b ≡ g a b
two f g fl fr gl gr t a b ha hb =
    agree 8 (λ x. f x b) (λ x. g x b) (fl b) (gl b)
    (λ i hi. agree 8 (f (2 ^ i)) (g (2 ^ i)) (fr (2 ^ i)) (gr (2 ^ i))
    (λ j hj. eqb→eq _ _ (every_at 8 (λ y. nat_eq (f (2 ^ i) y) (g (2 ^ i) y)) (every_at 8 (λ x. every 8 (λ y. nat_eq (f x y) (g x y))) t i hi) j hj))
    b hb)
    a ha

comm : (a b : ℕ) → a < 256 → b < 256 → byte_product a b ≡ byte_product b a
comm = two byte_product (λ a b. byte_product b a) times_left times_right times_right times_left comm_test

pub within : (a b : ℕ) → a < 256 → b < 256 → byte_product a b < 256
within a b ha hb =
    let low : (f : ℕ → ℕ) → Additive f → Additive (λ x. f x % 256) = λ f h x y. ap (λ (z : ℕ). z % 256) (h x y) ∙ xor_mod (f x) (f y) 8 in
    let e : byte_product a b ≡ byte_product a b % 256 =
    two byte_product (λ x y. byte_product x y % 256) times_left times_right
    (λ y. low (λ x. byte_product x y) (times_left y)) (λ x. low (byte_product x) (times_right x)) within_test a b ha hb in
    subst⁻¹ (λ (x : ℕ). x < 256) e (mod-lt (byte_product a b) (lit< tt))

assoc : (a b c : ℕ) → a < 256 → b < 256 → c < 256 → byte_product (byte_product a b) c ≡ byte_product a (byte_product b c)
assoc a b c ha hb hc =
    agree 8 (λ x. byte_product (byte_product x b) c) (λ x. byte_product x (byte_product b c))
    (λ x y. ap (λ (z : ℕ). byte_product z c) (times_left b x y) ∙ times_left c (byte_product x b) (byte_product y b))
    (times_left (byte_product b c))
    (λ i hi. two (λ y z. byte_product (byte_product (2 ^ i) y) z) (λ y z. byte_product (2 ^ i) (byte_product y z))
    (λ z x y. ap (λ (w : ℕ). byte_product w z) (times_right (2 ^ i) x y) ∙ times_left z (byte_product (2 ^ i) x) (byte_product (2 ^ i) y))
    (λ y. times_right (byte_product (2 ^ i) y))
    (λ z x y. ap (byte_product (2 ^ i)) (times_left z x y) ∙ times_right (2 ^ i) (byte_product x z) (byte_product y z))
    (λ z x y. ap (byte_product (2 ^ i)) (times_right z x y) ∙ times_right (2 ^ i) (byte_product z x) (byte_product z y))
    (every_at 8 (λ x. every 8 (λ y. every 8 (λ z. nat_eq (byte_product (byte_product x y) z) (byte_product x (byte_product y z))))) assoc_test i hi)
    b c hb hc)
    a ha

unit : (a : ℕ) → a < 256 → byte_product a 1 ≡ a
unit a h = agree 8 (λ x. byte_product x 1) (λ x. x) (times_left 1) (λ x y. refl) (λ i hi. eqb→eq _ _ (every_at 8 (λ x. nat_eq (byte_product x 1) x) one_test i hi)) a h

-- ---- inverses

-- a test of the 2 ^ k numbers lo, lo + 1, ..
all : ℕ → ℕ → (ℕ → Bool) → Bool
all zero lo test = test lo
all (suc k) lo test = all k lo test && all k (lo + 2 ^ k) test

all_at : (k lo : ℕ) (test : ℕ → Bool) → T (all k lo test) → (a : ℕ) → lo ≤ a → a < lo + 2 ^ k → T (test a)
unfolding all
all_at zero lo test t a low high = let e : a ≡ lo = omega arith in subst⁻¹ (λ (x : ℕ). T (test x)) e t
all_at (suc k) lo test t a low high =
    ⊎_elim
    (λ (h : a < lo + 2 ^ k). all_at k lo test (and_left (all k lo test) (all k (lo + 2 ^ k) test) t) a low h)
    (λ (h : lo + 2 ^ k ≤ a). let p = pow-suc 2 k in all_at k (lo + 2 ^ k) test (and_right (all k lo test) (all k (lo + 2 ^ k) test) t) a h (omega arith))
    (cases_lt a (lo + 2 ^ k))

inverse_test : T (all 8 0 (λ a. (a == 0) || byte_product a (power_254 a) == 1))
unfolding all power_254 byte_product poly_product poly_remainder
inverse_test = tt

either : (x y : Bool) → T (x || y) → (T x → ⊥) → T y
either true y t f = absurd (f tt)
either false y t f = t

pub inverse_at : (a : ℕ) → 0 < a → a < 256 → byte_product a (power_254 a) ≡ 1
inverse_at a pos h =
    eqb→eq _ 1 (either (a == 0) (byte_product a (power_254 a) == 1) (all_at 8 0 (λ x. (x == 0) || byte_product x (power_254 x) == 1) inverse_test a (omega arith) (omega arith))
    (λ t. let e = eqb→eq a 0 t in absurd (omega arith)))

pub power_within : (a : ℕ) → a < 256 → power_254 a < 256
unfolding power_254
power_within a h =
    let a2 = within a a h h in
    let a3 = within _ a a2 h in
    let a6 = within _ _ a3 a3 in
    let a12 = within _ _ a6 a6 in
    let a15 = within _ _ a12 a3 in
    let a30 = within _ _ a15 a15 in
    let a60 = within _ _ a30 a30 in
    let a120 = within _ _ a60 a60 in
    let a240 = within _ _ a120 a120 in
    within _ _ (within _ _ a240 a12) a2

-- ---- the field

on_elements : FieldLaws bytes
on_elements = record {
  zero_in = tt;
  one_in = tt;
  add_in = λ a b ha hb. lt→ltb _ 256 (xor_lt 8 a b (ltb→lt a 256 ha) (ltb→lt b 256 hb));
  mul_in = λ a b ha hb. lt→ltb _ 256 (within a b (ltb→lt a 256 ha) (ltb→lt b 256 hb));
  neg_in = λ a h. h;
  add_comm = λ a b _ _. xor_comm a b;
  add_assoc = λ a b c _ _ _. xor_assoc a b c;
  add_zero = λ a _. xor_zero_r a;
  add_neg = λ a _. xor_self a;
  mul_comm = λ a b ha hb. comm a b (ltb→lt a 256 ha) (ltb→lt b 256 hb);
  mul_assoc = λ a b c ha hb hc. assoc a b c (ltb→lt a 256 ha) (ltb→lt b 256 hb) (ltb→lt c 256 hc);
  mul_one = λ a h. unit a (ltb→lt a 256 h);
  mul_add = λ a b c _ _ _. times_right a b c;
  one_ne_zero = λ e. let q : ◌≡◌ {A = ℕ} 1 0 = e in omega arith;
  inverse = λ a h d.
      let k = ltb→lt a 256 h in
      let pos : 0 < a = pos_of_ne-zero d in
      (power_254 a, refl, lt→ltb _ 256 (power_within a k), inverse_at a pos k);
}

pub byte_laws : FieldLaws (total bytes)
byte_laws = total_laws bytes on_elements
