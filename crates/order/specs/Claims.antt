-- What is proved of monomials and of orders. Each is named by a function of `theorems`.
--   DividesInWords   a divides b exactly where b is some monomial times a
--   PowerInWords     the test of a power of one variable, in terms of powers
--   DrlInWords       when a is less than b in DRL, as a relation of their exponents
--   LexInWords       when a is less than b in LEX
--   Moves            a rearrangement moves exponent k to the place named for k
--   Reverses         a reversal is a rearrangement
--   DivisorsLess     under an order's laws a proper divisor is less
--   ProductsKeep     ... multiplying both by the same monomial keeps the answer
--   OneLeast         ... 1 is less than every other monomial
--   FallsThroughout  ... if each monomial is less than the one before it, it is less than all before it
use Rattle.std.specs.Prelude.{◌≡◌, ℕ, suc, ◌-◌, ◌<◌, true, ◌≢◌, ◌⊎◌, ◌↔◌, Some}
use Rattle.std.specs.declared.cmp.Ordering.TheVariants.{Less}
use Rattle.order.specs.declared.monomial.Monomial.{Monomial}
use Rattle.order.specs.declared.rearrangement.Rearrangement.{Rearrangement}
use Rattle.order.specs.Monomials.{variables, exponent, Small, one, power, times, degree, divides, power_of}
use Rattle.order.specs.Laws.{Comparison, OrderLaws, Falling}
use Rattle.order.specs.Orders.{drl, lex}
use Rattle.order.specs.Rearrangements.{place, rearranges, moved, reversal}

abbrev pub DividesInWords : Type 0
DividesInWords = (a b : Monomial) → divides a b ≡ true ↔ ((c : Monomial) × (b ≡ times c a))

abbrev pub PowerInWords : Type 0
PowerInWords = (k : ℕ) → k < variables → (m : Monomial) → power_of k m ≡ true ↔ ((e : ℕ) × (m ≡ power k e))

abbrev pub DrlInWords : Type 0
DrlInWords =
    (a b : Monomial)
    → drl a b ≡ Less
    ↔ ((degree a < degree b) ⊎ ((degree a ≡ degree b) × ((k : ℕ) × (k < variables) × (exponent b k < exponent a k) × ((j : ℕ) → j < k → exponent b j ≡ exponent a j))))

abbrev pub LexInWords : Type 0
LexInWords =
    (a b : Monomial)
    → lex a b ≡ Less
    ↔ ((k : ℕ) × (k < variables) × (exponent a k < exponent b k) × ((j : ℕ) → k < j → j < variables → exponent a j ≡ exponent b j))

abbrev pub Moves : Type 0
Moves = (s : Rearrangement) → rearranges s ≡ true → (m : Monomial) (k : ℕ) → k < variables → exponent (moved s m) (place s k - 1) ≡ exponent m k

abbrev pub Reverses : Type 0
Reverses = (n : ℕ) (s : Rearrangement) → reversal n ≡ Some s → rearranges s ≡ true

abbrev pub DivisorsLess : Type 0
DivisorsLess = (cmp : Comparison) → OrderLaws cmp → (a b : Monomial) → Small b → divides a b ≡ true → a ≢ b → cmp a b ≡ Less

abbrev pub ProductsKeep : Type 0
ProductsKeep =
    (cmp : Comparison) → OrderLaws cmp → (c a b : Monomial) → Small (times c a) → Small (times c b) → cmp (times c a) (times c b) ≡ cmp a b

abbrev pub OneLeast : Type 0
OneLeast = (cmp : Comparison) → OrderLaws cmp → (m : Monomial) → Small m → m ≢ one → cmp one m ≡ Less

abbrev pub FallsThroughout : Type 0
FallsThroughout =
    (cmp : Comparison) → OrderLaws cmp → (at : ℕ → Monomial) (n : ℕ) → ((k : ℕ) → k < n → Small (at k)) → ((k : ℕ) → suc k < n → cmp (at (suc k)) (at k) ≡ Less) → Falling cmp at n
