-- The records of exponents that the code holds, as monomials of n variables and back; and the order of the latter that an order of records gives.
--   with_exponents n f       the monomial of n variables with the exponents f 0 .. f (n - 1)
--   nested n r               the monomial of the record r, by its first n exponents
--   flat n m                 the record of the monomial m
--   Within n r               the record r has exponents of the first n variables only
--   less o                   the test that a comparison answered less
--   before_by cmp n a b      a stands before b: their records compare as less
--   NestedKeeps n           records within n variables and monomials are one to one, with the same products, variables, divisors, comparisons and bounds
--   RecordsHold             so they are for every n up to the number of exponents
--   OrdersHold              the laws of an order of records give those of its order of monomials
-- Used by: the one place where a call's monomials become those of the definitions.
use Rattle.std.specs.Prelude.{◌≡◌, ℕ, zero, suc, ◌<◌, ◌≤◌, Bool, true, false}
use Rattle.std.specs.declared.cmp.Ordering.TheVariants.{Less, Equal, Greater}
use Rattle.std.specs.declared.cmp.Ordering.{Ordering}
use Rattle.order.specs.declared.monomial.Monomial.{Monomial}
use Rattle.order.specs.Monomials as record_of
use Rattle.order.specs.Monomials.{variables, monomial}
use Rattle.order.specs.Laws.{Comparison, OrderLaws}
use Rattle.algebra.specs.Monomial.{Mono, one, times, var, exponent, divides}
use Rattle.algebra.specs.Order.{Small, Ordered}

abbrev pub with_exponents : (n : ℕ) → (ℕ → ℕ) → Mono n
with_exponents zero f = tt
with_exponents (suc n) f = (f 0, with_exponents n (λ k. f (suc k)))

abbrev pub nested : (n : ℕ) → Monomial → Mono n
nested n r = with_exponents n (record_of.exponent r)

abbrev pub flat : (n : ℕ) → Mono n → Monomial
flat n m = monomial (exponent n m)

abbrev pub Within : ℕ → Monomial → Type 0
Within n r = (k : ℕ) → n ≤ k → record_of.exponent r k ≡ 0

abbrev pub less : Ordering → Bool
less Less = true
less Equal = false
less Greater = false

abbrev pub before_by : Comparison → (n : ℕ) → Mono n → Mono n → Bool
before_by cmp n a b = less (cmp (flat n a) (flat n b))

pub record NestedKeeps (n : ℕ) : Type 0 where
  pub back : (m : Mono n) → nested n (flat n m) ≡ m
  pub within : (m : Mono n) → Within n (flat n m)
  pub forth : (r : Monomial) → Within n r → flat n (nested n r) ≡ r
  pub ones : nested n record_of.one ≡ one n
  pub products : (a b : Monomial) → nested n (record_of.times a b) ≡ times n (nested n a) (nested n b)
  pub variable : (k : ℕ) → k < n → nested n (record_of.variable k) ≡ var n k
  pub divisors : (a b : Monomial) → Within n a → record_of.divides a b ≡ divides n (nested n a) (nested n b)
  pub comparisons : (cmp : Comparison) (a b : Monomial) → Within n a → Within n b → before_by cmp n (nested n a) (nested n b) ≡ less (cmp a b)
  pub bounds : (r : Monomial) → record_of.Small r → Small n (nested n r)

abbrev pub RecordsHold : Type 0
RecordsHold = (n : ℕ) → n ≤ variables → NestedKeeps n

abbrev pub OrdersHold : Type 0
OrdersHold = (cmp : Comparison) → OrderLaws cmp → (n : ℕ) → n ≤ variables → Ordered n (before_by cmp n)
