-- Monomials, by their exponents. A variable goes by its index, counted from 0: x_1, the smallest variable, has index 0.
--   variables            how many variables there are
--   largest              the largest exponent that a monomial of the code can have
--   exponent m k         the exponent in m of the variable of index k; 0 past the last variable
--   monomial f           the monomial with the exponents f 0, f 1, ..
--   Small m              no exponent of m passes the largest
--   total n f            f 0 + .. + f (n - 1)
--   every n p            whether p holds of 0 .. n - 1
--   one                  the monomial 1
--   with_exponent k e m  m with e as the exponent of the variable of index k
--   variable k           the variable of index k, as a monomial
--   power k e            its e-th power
--   times a b            the product
--   over a b             the quotient of a by a divisor b
--   raise k m            the product of m and the variable of index k, whose exponent is raised by one
--   degree m             the sum of the exponents
--   divides a b          whether a divides b
--   power_of k m         whether m is a power, 1 among them, of the variable of index k alone
--   raised k m           raise k m, where k is a variable and its exponent can be raised
--   lowered k m          the quotient of m by the variable of index k, where it divides m
-- Only exponent, monomial and the constant know how many variables there are. In Claims: DividesInWords, PowerInWords.
use Rattle.std.specs.Prelude.{ℕ, zero, suc, ◌+◌, ◌-◌, ◌<◌, ◌≤◌, Bool, true, cond, ◌&&◌, ◌||◌, Some, None, Option, ◌==◌, nat_le, nat_lt}
use Rattle.order.specs.declared.monomial.Monomial.{Monomial}

abbrev pub variables : ℕ
variables = 4

abbrev pub largest : ℕ
largest = 255

unfoldable pub exponent : Monomial → ℕ → ℕ
exponent m k = cond (k == 0) m.x1 (cond (k == 1) m.x2 (cond (k == 2) m.x3 (cond (k == 3) m.x4 0)))

unfoldable pub monomial : (ℕ → ℕ) → Monomial
monomial f = record { x1 = f 0; x2 = f 1; x3 = f 2; x4 = f 3 }

abbrev pub Small : Monomial → Type 0
Small m = (k : ℕ) → k < variables → exponent m k ≤ largest

abbrev pub total : ℕ → (ℕ → ℕ) → ℕ
total zero f = 0
total (suc n) f = total n f + f n

abbrev pub every : ℕ → (ℕ → Bool) → Bool
every zero p = true
every (suc n) p = every n p && p n

unfoldable pub one : Monomial
one = monomial (λ k. 0)

unfoldable pub with_exponent : ℕ → ℕ → Monomial → Monomial
with_exponent k e m = monomial (λ j. cond (k == j) e (exponent m j))

unfoldable pub variable : ℕ → Monomial
variable k = monomial (λ j. cond (k == j) 1 0)

unfoldable pub power : ℕ → ℕ → Monomial
power k e = monomial (λ j. cond (k == j) e 0)

unfoldable pub times : Monomial → Monomial → Monomial
times a b = monomial (λ k. exponent a k + exponent b k)

unfoldable pub over : Monomial → Monomial → Monomial
over a b = monomial (λ k. exponent a k - exponent b k)

abbrev pub raise : ℕ → Monomial → Monomial
raise k m = times (variable k) m

unfoldable pub degree : Monomial → ℕ
degree m = total variables (exponent m)

unfoldable pub divides : Monomial → Monomial → Bool
divides a b = every variables (λ k. nat_le (exponent a k) (exponent b k))

unfoldable pub power_of : ℕ → Monomial → Bool
power_of k m = every variables (λ j. (k == j) || exponent m j == 0)

unfoldable pub raised : ℕ → Monomial → Option Monomial
raised k m = cond (nat_lt k variables && nat_lt (exponent m k) largest) (Some (raise k m)) None

unfoldable pub lowered : ℕ → Monomial → Option Monomial
lowered k m = cond (nat_lt 0 (exponent m k)) (Some (over m (variable k))) None
