-- A monomial is known by its exponents: what is proved of all variables at once starts here.
use Rattle.std.specs.Prelude.{◌≡◌, ℕ, zero, suc, ◌+◌, ◌-◌, ◌<◌, ◌≤◌, Bool, true, false, cond, ◌&&◌, ◌||◌, ◌≢◌, ◌↔◌, ◌==◌, nat_le, refl}
use Rattle.std.proofs.Common.{sym, ◌∙◌, ap, ap₂, subst, arith}
use Rattle.std.proofs.lemmas.Bool.{false≢true}
use Rattle.std.proofs.Math.Decide.{ℕ_discrete, dec_lt}
use Rattle.std.proofs.lemmas.Bool.Decides.{nat_tests}
use Rattle.order.specs.declared.monomial.Monomial.{Monomial}
use Rattle.order.specs.Monomials.{variables, largest, exponent, monomial, Small, one, variable, power, times, over, with_exponent, raise, every, divides, power_of}

-- ---- the facts that know the record

pub exponent_monomial : (f : ℕ → ℕ) (k : ℕ) → k < variables → exponent (monomial f) k ≡ f k
unfolding exponent monomial
exponent_monomial f zero h = refl
exponent_monomial f (suc zero) h = refl
exponent_monomial f (suc (suc zero)) h = refl
exponent_monomial f (suc (suc (suc zero))) h = refl
exponent_monomial f (suc (suc (suc (suc k)))) h = absurd (omega arith)

pub exponent_past : (m : Monomial) (k : ℕ) → variables ≤ k → exponent m k ≡ 0
unfolding exponent
exponent_past m k h = grind (arith, nat_tests)

-- what has an exponent is a variable
pub held_variable : (m : Monomial) (k : ℕ) → 0 < exponent m k → k < variables
held_variable m k h = elim (dec_lt k variables) [ yes l ↦ l | no d ↦ absurd (omega (arith, exponent_past m k (omega arith))) ]

of_four : ℕ → ℕ → ℕ → ℕ → Monomial
of_four a b c d = record { x1 = a; x2 = b; x3 = c; x4 = d }

pub same_exponents : (a b : Monomial) → ((k : ℕ) → k < variables → exponent a k ≡ exponent b k) → a ≡ b
unfolding exponent of_four
same_exponents a b h =
    ap (λ x. of_four x a.x2 a.x3 a.x4) (h 0 (omega arith)) ∙ ap (λ x. of_four b.x1 x a.x3 a.x4) (h 1 (omega arith)) ∙ ap (λ x. of_four b.x1 b.x2 x a.x4) (h 2 (omega arith)) ∙ ap (λ x. of_four b.x1 b.x2 b.x3 x) (h 3 (omega arith))

-- a monomial of the code is small
pub small_fields : (m : Monomial) → m.x1 ≤ largest → m.x2 ≤ largest → m.x3 ≤ largest → m.x4 ≤ largest → Small m
unfolding exponent
small_fields m p q r s k l = grind (arith, nat_tests)

-- ---- the exponents of what is made

pub exponent_all : (f : ℕ → ℕ) → ((k : ℕ) → variables ≤ k → f k ≡ 0) → (k : ℕ) → exponent (monomial f) k ≡ f k
exponent_all f past k = go (dec_lt k variables)
  where
    go : Dec (k < variables) → exponent (monomial f) k ≡ f k
    go (yes h) = exponent_monomial f k h
    go (no h) = let p : variables ≤ k = omega arith in exponent_past (monomial f) k p ∙ sym (past k p)

pub exponent_one : (k : ℕ) → exponent one k ≡ 0
unfolding one
exponent_one k = exponent_all (λ _. 0) (λ _ _. refl) k

pub exponent_times : (a b : Monomial) (k : ℕ) → exponent (times a b) k ≡ exponent a k + exponent b k
unfolding times
exponent_times a b k = exponent_all (λ j. exponent a j + exponent b j) (λ j h. omega (arith, exponent_past a j h, exponent_past b j h)) k

pub exponent_over : (a b : Monomial) (k : ℕ) → exponent (over a b) k ≡ exponent a k - exponent b k
unfolding over
exponent_over a b k = exponent_all (λ j. exponent a j - exponent b j) (λ j h. omega (arith, exponent_past a j h)) k

-- the exponents of a variable: 1 at itself and 0 elsewhere
pub unit : ℕ → ℕ → ℕ
unit k j = cond (k == j) 1 0

pub unit_at : (k : ℕ) → unit k k ≡ 1
unfolding unit
unit_at k = grind (arith, nat_tests)

pub unit_off : (k j : ℕ) → k ≢ j → unit k j ≡ 0
unfolding unit
unit_off k j d = grind (arith, nat_tests)

pub exponent_variable : (k : ℕ) → k < variables → (j : ℕ) → exponent (variable k) j ≡ unit k j
unfolding variable unit
exponent_variable k l j = exponent_all (λ j. cond (k == j) 1 0) (λ j h. grind (arith, nat_tests)) j

pub exponent_raise : (k : ℕ) → k < variables → (m : Monomial) (j : ℕ) → exponent (raise k m) j ≡ unit k j + exponent m j
exponent_raise k l m j = exponent_times (variable k) m j ∙ ap (λ (x : ℕ). x + exponent m j) (exponent_variable k l j)

pub exponent_with : (k : ℕ) → k < variables → (e : ℕ) (m : Monomial) (j : ℕ) → exponent (with_exponent k e m) j ≡ cond (k == j) e (exponent m j)
unfolding with_exponent
exponent_with k l e m j = exponent_all (λ j. cond (k == j) e (exponent m j)) (λ j h. let p = exponent_past m j h in grind (arith, nat_tests)) j

-- ---- products, quotients and divisors

-- no exponent stands past the last variable
pub with_past : (k e : ℕ) (m : Monomial) → variables ≤ k → with_exponent k e m ≡ m
unfolding with_exponent
with_past k e m h = same_exponents _ _ (λ j l. exponent_monomial (λ j. cond (k == j) e (exponent m j)) j l ∙ grind (arith, nat_tests))

pub raise_with : (k : ℕ) → k < variables → (m : Monomial) → with_exponent k (exponent m k + 1) m ≡ raise k m
unfolding unit
raise_with k l m = same_exponents _ _ (λ j h. exponent_with k l (exponent m k + 1) m j ∙ go j ∙ sym (exponent_raise k l m j))
  where
    go : (j : ℕ) → cond (k == j) (exponent m k + 1) (exponent m j) ≡ cond (k == j) 1 0 + exponent m j
    go j = elim (ℕ_discrete k j) [ yes e ↦ let f = ap (exponent m) e in grind (arith, nat_tests) | no d ↦ grind (arith, nat_tests) ]

pub over_with : (k : ℕ) → k < variables → (m : Monomial) → with_exponent k (exponent m k - 1) m ≡ over m (variable k)
unfolding unit
over_with k l m = same_exponents _ _ (λ j h. exponent_with k l (exponent m k - 1) m j ∙ go j ∙ sym (exponent_over m (variable k) j ∙ ap (λ (x : ℕ). exponent m j - x) (exponent_variable k l j)))
  where
    go : (j : ℕ) → cond (k == j) (exponent m k - 1) (exponent m j) ≡ exponent m j - cond (k == j) 1 0
    go j = elim (ℕ_discrete k j) [ yes e ↦ let f = ap (exponent m) e in grind (arith, nat_tests) | no d ↦ grind (arith, nat_tests) ]

pub one_times : (m : Monomial) → times one m ≡ m
one_times m = same_exponents _ _ (λ k h. exponent_times one m k ∙ omega (arith, exponent_one k))

pub raise_times : (k : ℕ) (a b : Monomial) → times (raise k a) b ≡ raise k (times a b)
raise_times k a b = same_exponents _ _ (λ j h. omega (arith, exponent_times (raise k a) b j, exponent_times (variable k) a j, exponent_times (variable k) (times a b) j, exponent_times a b j))

-- a monomial that holds a variable is its product with what is left
pub raise_over : (k : ℕ) → k < variables → (m : Monomial) → 0 < exponent m k → raise k (over m (variable k)) ≡ m
raise_over k l m p = same_exponents _ _ (λ j h. exponent_raise k l (over m (variable k)) j ∙ ap (λ (x : ℕ). unit k j + x) (exponent_over m (variable k) j ∙ ap (λ (x : ℕ). exponent m j - x) (exponent_variable k l j)) ∙ go j (ℕ_discrete k j))
  where
    go : (j : ℕ) → Dec (k ≡ j) → unit k j + (exponent m j - unit k j) ≡ exponent m j
    go j (yes e) = subst (λ (j : ℕ). unit k j + (exponent m j - unit k j) ≡ exponent m j) e (omega (arith, unit_at k))
    go j (no d) = omega (arith, unit_off k j d)

pub over_times : (a b : Monomial) → ((k : ℕ) → k < variables → exponent a k ≤ exponent b k) → times (over b a) a ≡ b
over_times a b h = same_exponents _ _ (λ k l. omega (arith, exponent_times (over b a) a k, exponent_over b a k, h k l))

pub small_raise : (k : ℕ) → k < variables → (m : Monomial) → Small (raise k m) → Small m
small_raise k l m s j h = omega (arith, s j h, exponent_raise k l m j)

pub small_factor : (a b : Monomial) → Small (times a b) → Small b
small_factor a b s k h = omega (arith, s k h, exponent_times a b k)

-- ---- tests of every variable

pub every_to : (n : ℕ) (p : ℕ → Bool) → every n p ≡ true → (k : ℕ) → k < n → p k ≡ true
every_to zero p e k h = absurd (omega arith)
every_to (suc n) p e k h = go (p n) refl (every n p) refl (ℕ_discrete k n) (every_to n p)
  where
    go : (b : Bool) → p n ≡ b → (c : Bool) → every n p ≡ c → Dec (k ≡ n) → (every n p ≡ true → (k : ℕ) → k < n → p k ≡ true) → p k ≡ true
    go true q true r (yes d) ih = ap p d ∙ q
    go true q true r (no d) ih = ih r k (omega arith)
    go true q false r d ih = absurd (false≢true (sym (ap₂ ◌&&◌ r q) ∙ e))
    go false q true r d ih = absurd (false≢true (sym (ap₂ ◌&&◌ r q) ∙ e))
    go false q false r d ih = absurd (false≢true (sym (ap₂ ◌&&◌ r q) ∙ e))

pub every_from : (n : ℕ) (p : ℕ → Bool) → ((k : ℕ) → k < n → p k ≡ true) → every n p ≡ true
every_from zero p h = refl
every_from (suc n) p h = ap₂ ◌&&◌ (every_from n p (λ k l. h k (omega arith))) (h n (omega arith))

pub divides_to : (a b : Monomial) → divides a b ≡ true → (k : ℕ) → k < variables → exponent a k ≤ exponent b k
unfolding divides
divides_to a b e k h = let t = every_to variables (λ j. nat_le (exponent a j) (exponent b j)) e k h in grind (arith, nat_tests)

pub divides_from : (a b : Monomial) → ((k : ℕ) → k < variables → exponent a k ≤ exponent b k) → divides a b ≡ true
unfolding divides
divides_from a b h = every_from variables (λ j. nat_le (exponent a j) (exponent b j)) (λ k l. let t = h k l in grind (arith, nat_tests))

pub divides_in_words : (a b : Monomial) → divides a b ≡ true ↔ ((c : Monomial) × (b ≡ times c a))
divides_in_words a b = (λ e. (over b a, sym (over_times a b (divides_to a b e))), λ t. divides_from a b (λ k l. omega (arith, exponent_times t.0 a k, ap (λ (m : Monomial). exponent m k) t.1)))

exponent_power : (k e j : ℕ) → j < variables → exponent (power k e) j ≡ cond (k == j) e 0
unfolding power
exponent_power k e j l = exponent_monomial (λ j. cond (k == j) e 0) j l

pub power_in_words : (k : ℕ) → k < variables → (m : Monomial) → power_of k m ≡ true ↔ ((e : ℕ) × (m ≡ power k e))
unfolding power_of
power_in_words k l m = (λ t. (exponent m k, same_exponents m (power k (exponent m k)) (λ j h. to j (every_to variables (λ j. (k == j) || exponent m j == 0) t j h) ∙ sym (exponent_power k (exponent m k) j h))), λ t. every_from variables (λ j. (k == j) || exponent m j == 0) (λ j h. from t.0 j (ap (λ (n : Monomial). exponent n j) t.1 ∙ exponent_power k t.0 j h)))
  where
    to : (j : ℕ) → (k == j || exponent m j == 0) ≡ true → exponent m j ≡ cond (k == j) (exponent m k) 0
    to j e = elim (ℕ_discrete k j) [ yes d ↦ let x = ap (exponent m) d in grind (arith, nat_tests) | no d ↦ grind (arith, nat_tests) ]

    from : (e j : ℕ) → exponent m j ≡ cond (k == j) e 0 → (k == j || exponent m j == 0) ≡ true
    from e j h = grind (arith, nat_tests)
