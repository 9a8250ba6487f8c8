-- Records of exponents and monomials of n variables have the same exponents, so that what an order of records keeps, the
-- order of monomials by their records keeps too.
use Rattle.std.proofs.Common.{◌≡◌, ℕ, zero, suc, ◌+◌, ◌<◌, ◌≤◌, Bool, true, false, Ordering, Less, Equal, Greater, sym, refl, ap, ◌∙◌, subst, ap₂, arith}
use mathlib.Core.Bool.{false≢true}
use native.Mathlib.Decide.{ℕ_discrete, dec_lt}
use Rattle.std.specs.Ordering.{ordering_reverse}
use Rattle.order.specs.declared.monomial.Monomial.{Monomial}
use Rattle.order.specs.Monomials as record_of
use Rattle.order.specs.Monomials.{variables, largest, raise}
use Rattle.order.specs.Laws.{Comparison, OrderLaws}
use Rattle.order.specs.Exponents as exponents
use Rattle.algebra.specs.Monomial.{Mono, times, equal, var, exponent, divides}
use Rattle.algebra.specs.Order.{Small, Ordered}
use Rattle.algebra.specs.Records.{with_exponents, nested, flat, Within, less, before_by, NestedKeeps}
use Rattle.algebra.proofs.Monomials as monos

exponent_with : (n : ℕ) (f : ℕ → ℕ) (k : ℕ) → k < n → exponent n (with_exponents n f) k ≡ f k
exponent_with zero f k l = absurd (omega arith)
exponent_with (suc n) f zero l = refl
exponent_with (suc n) f (suc k) l = exponent_with n (λ k. f (suc k)) k (omega arith)

same_test : (a b : Bool) → (a ≡ true → b ≡ true) → (b ≡ true → a ≡ true) → a ≡ b
same_test true b f g = sym (f refl)
same_test false true f g = g refl
same_test false false f g = refl

less_true : (o : Ordering) → less o ≡ true → o ≡ Less
less_true Less e = refl
less_true Equal e = absurd (false≢true e)
less_true Greater e = absurd (false≢true e)

module _ (n : ℕ) (fits : n ≤ variables) where
  -- the exponents of a record and of a monomial's record
  pub exponent_nested : (r : Monomial) (k : ℕ) → k < n → exponent n (nested n r) k ≡ record_of.exponent r k
  exponent_nested r k l = exponent_with n (record_of.exponent r) k l

  pub exponent_flat : (m : Mono n) (k : ℕ) → record_of.exponent (flat n m) k ≡ exponent n m k
  exponent_flat m k = exponents.exponent_all (exponent n m) (λ k l. monos.exp_past n m k (omega arith)) k

  pub back : (m : Mono n) → nested n (flat n m) ≡ m
  back m = monos.ext n _ _ (λ k l. exponent_nested (flat n m) k l ∙ exponent_flat m k)

  pub forth : (r : Monomial) → Within n r → flat n (nested n r) ≡ r
  forth r w = exponents.same_exponents _ _ (λ k l. exponent_flat (nested n r) k ∙ go k (dec_lt k n))
    where
      go : (k : ℕ) → Dec (k < n) → exponent n (nested n r) k ≡ record_of.exponent r k
      go k (yes l) = exponent_nested r k l
      go k (no l) = monos.exp_past n (nested n r) k (omega arith) ∙ sym (w k (omega arith))

  variable_is : (k : ℕ) → k < n → (j : ℕ) → exponent n (var n k) j ≡ record_of.exponent (record_of.variable k) j
  variable_is k l j = go (ℕ_discrete k j) ∙ sym (exponents.exponent_variable k (omega arith) j)
    where
      go : Dec (k ≡ j) → exponent n (var n k) j ≡ exponents.unit k j
      go (yes e) = subst (λ (j : ℕ). exponent n (var n k) j ≡ exponents.unit k j) e (monos.exp_var n k l ∙ sym (exponents.unit_at k))
      go (no d) = monos.exp_var_off n k j d ∙ sym (exponents.unit_off k j d)

  divisors : (a b : Monomial) → Within n a → record_of.divides a b ≡ divides n (nested n a) (nested n b)
  divisors a b w = same_test _ _
      (λ d. monos.divides_from n _ _ (λ k l. omega (arith, exponents.divides_to a b d k (omega arith), exponent_nested a k l, exponent_nested b k l)))
      (λ d. exponents.divides_from a b (λ k l. go d k (dec_lt k n)))
    where
      go : divides n (nested n a) (nested n b) ≡ true → (k : ℕ) → Dec (k < n) → record_of.exponent a k ≤ record_of.exponent b k
      go d k (yes l) = omega (arith, monos.divides_to n _ _ d k l, exponent_nested a k l, exponent_nested b k l)
      go d k (no l) = omega (arith, w k (omega arith))

  pub nested_keeps : NestedKeeps n
  nested_keeps = record {
    back = back;
    within = λ m k l. exponent_flat m k ∙ monos.exp_past n m k l;
    forth = forth;
    ones = monos.ext n _ _ (λ k l. exponent_nested record_of.one k l ∙ exponents.exponent_one k ∙ sym (monos.exp_one n k));
    products = λ a b. monos.ext n _ _ (λ k l. exponent_nested (record_of.times a b) k l ∙ exponents.exponent_times a b k ∙ sym (monos.exp_times n (nested n a) (nested n b) k ∙ ap₂ ◌+◌ (exponent_nested a k l) (exponent_nested b k l)));
    variable = λ k l. monos.ext n _ _ (λ j q. exponent_nested (record_of.variable k) j q ∙ sym (variable_is k l j));
    divisors = divisors;
    comparisons = λ cmp a b v w. ap₂ (λ (x y : Monomial). less (cmp x y)) (forth a v) (forth b w);
    bounds = λ r s k l. omega (arith, exponent_nested r k l, s k (omega arith));
  }

  small_flat : (m : Mono n) → Small n m → record_of.Small (flat n m)
  small_flat m s k l = go (dec_lt k n)
    where
      go : Dec (k < n) → record_of.exponent (flat n m) k ≤ largest
      go (yes q) = omega (arith, exponent_flat m k, s k q)
      go (no q) = omega (arith, exponent_flat m k, monos.exp_past n m k (omega arith))

  flat_raise : (k : ℕ) → k < n → (m : Mono n) → flat n (times n (var n k) m) ≡ raise k (flat n m)
  flat_raise k kn m = exponents.same_exponents _ _ (λ j l.
      exponent_flat (times n (var n k) m) j
      ∙ monos.exp_times n (var n k) m j
      ∙ ap₂ ◌+◌ (variable_is k kn j) (sym (exponent_flat m j))
      ∙ sym (exponents.exponent_times (record_of.variable k) (flat n m) j))

  flat_once : (a b : Mono n) → flat n a ≡ flat n b → a ≡ b
  flat_once a b e = sym (back a) ∙ ap (nested n) e ∙ back b

  pub ordered : (cmp : Comparison) → OrderLaws cmp → Ordered n (before_by cmp n)
  ordered cmp O = record {
    not_both = λ a b s t p q. false≢true (ap less (sym (O.exchanged (flat n a) (flat n b) (small_flat a s) (small_flat b t) ∙ ap ordering_reverse (less_true _ p))) ∙ q);
    chain = λ a b c s t u p q. ap less (O.transitive (flat n a) (flat n b) (flat n c) (small_flat a s) (small_flat b t) (small_flat c u) (less_true _ p) (less_true _ q));
    either = λ a b s t p q. other a b s t p q (cmp (flat n a) (flat n b)) refl;
    raised = λ k kn a b s t p.
        ap less (ap₂ cmp (flat_raise k kn a) (flat_raise k kn b) ∙ O.raised k (omega arith) (flat n a) (flat n b) (subst record_of.Small (flat_raise k kn a) (small_flat _ s)) (subst record_of.Small (flat_raise k kn b) (small_flat _ t))) ∙ p;
    above = λ k kn a s.
        let big : record_of.Small (raise k (flat n a)) = subst record_of.Small (flat_raise k kn a) (small_flat _ s) in
        ap less (ap (cmp (flat n a)) (flat_raise k kn a) ∙ O.exchanged (raise k (flat n a)) (flat n a) big (exponents.small_raise k (omega arith) (flat n a) big) ∙ ap ordering_reverse (O.above k (omega arith) (flat n a) big));
  }
    where
      other : (a b : Mono n) → Small n a → Small n b → before_by cmp n a b ≡ false → equal n a b ≡ false → (c : Ordering) → cmp (flat n a) (flat n b) ≡ c → before_by cmp n b a ≡ true
      other a b s t p q Less e = absurd (false≢true (sym p ∙ ap less e))
      other a b s t p q Equal e = absurd (false≢true (sym q ∙ subst (λ (m : Mono n). equal n a m ≡ true) (flat_once a b (O.equal (flat n a) (flat n b) (small_flat a s) (small_flat b t) e)) (monos.equal_refl n a)))
      other a b s t p q Greater e = ap less (O.exchanged (flat n a) (flat n b) (small_flat a s) (small_flat b t) ∙ ap ordering_reverse e)
