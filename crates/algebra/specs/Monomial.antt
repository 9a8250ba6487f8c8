-- Monomials of n variables, by their exponents, which have no limit.
--   Mono n             the monomials of x_0 .. x_(n-1): the exponent of x_0, and a monomial of the other variables
--   one n              the monomial 1
--   times n a b        the product
--   equal n a b        the test of equality
--   var n k            the variable x_k
--   power n k e        x_k^e
--   exponent n m k     the exponent of x_k in m, 0 from n on
--   divides n a b      the test that a divides b
--   lower n k m        m / x_k, where x_k divides m
--   pure n k m         the test that m is a power of x_k alone
--   Among n m l        m stands at a place of the list l
-- Used by: every file below. A call counts its variables from 1: its x_1 is x_0 here.
use Rattle.std.specs.Prelude.{◌≡◌, ℕ, zero, suc, pred, ◌+◌, ◌<◌, Bool, true, ◌&&◌, List, length, ◌==◌, nat_le, slice_index_or}

abbrev pub Mono : ℕ → Type 0
Mono zero = Unit {0}
Mono (suc n) = ℕ × Mono n

abbrev pub one : (n : ℕ) → Mono n
one zero = tt
one (suc n) = (0, one n)

abbrev pub times : (n : ℕ) → Mono n → Mono n → Mono n
times zero a b = tt
times (suc n) a b = (a.0 + b.0, times n a.1 b.1)

abbrev pub equal : (n : ℕ) → Mono n → Mono n → Bool
equal zero a b = true
equal (suc n) a b = a.0 == b.0 && equal n a.1 b.1

abbrev pub var : (n k : ℕ) → Mono n
var zero k = tt
var (suc n) zero = (1, one n)
var (suc n) (suc k) = (0, var n k)

abbrev pub power : (n k : ℕ) → ℕ → Mono n
power n k zero = one n
power n k (suc e) = times n (var n k) (power n k e)

abbrev pub exponent : (n : ℕ) → Mono n → ℕ → ℕ
exponent zero m k = 0
exponent (suc n) m zero = m.0
exponent (suc n) m (suc k) = exponent n m.1 k

abbrev pub divides : (n : ℕ) → Mono n → Mono n → Bool
divides zero a b = true
divides (suc n) a b = nat_le a.0 b.0 && divides n a.1 b.1

abbrev pub lower : (n : ℕ) → ℕ → Mono n → Mono n
lower zero k m = tt
lower (suc n) zero m = (pred m.0, m.1)
lower (suc n) (suc k) m = (m.0, lower n k m.1)

abbrev pub pure : (n : ℕ) → ℕ → Mono n → Bool
pure n k m = equal n m (power n k (exponent n m k))

abbrev pub Among : (n : ℕ) → Mono n → List (Mono n) → Type 0
Among n m l = (i : ℕ) × (i < length l) × (slice_index_or l i (one n) ≡ m)
