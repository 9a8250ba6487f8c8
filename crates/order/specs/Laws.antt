-- What an order of monomials is.
--   Comparison         an answer, less, equal or greater, for every two monomials: the meaning of an order
--   OrderLaws cmp      the laws of an order, for monomials whose exponents are at most the largest
--   Falling cmp at n   of the monomials at 0 .. at (n - 1), each is less than every one before it
-- Used by: the trait Order, whose every implementation shows them. What they give for products and divisors is in Claims.
use Rattle.std.specs.Prelude.{◌≡◌, ℕ, ◌<◌}
use Rattle.std.specs.declared.cmp.Ordering.TheVariants.{Less, Equal, Greater}
use Rattle.std.specs.declared.cmp.Ordering.{Ordering}
use Rattle.std.specs.Ordering.{ordering_reverse}
use Rattle.order.specs.declared.monomial.Monomial.{Monomial}
use Rattle.order.specs.Monomials.{variables, Small, raise}

abbrev pub Comparison : Type 0
Comparison = Monomial → Monomial → Ordering

pub record OrderLaws (cmp : Comparison) : Type 0 where
  -- a monomial is equal to itself
  pub self : (a : Monomial) → Small a → cmp a a ≡ Equal
  -- equal means the same exponents
  pub equal : (a b : Monomial) → Small a → Small b → cmp a b ≡ Equal → a ≡ b
  -- exchanging the two exchanges less and greater
  pub exchanged : (a b : Monomial) → Small a → Small b → cmp b a ≡ ordering_reverse (cmp a b)
  -- less is transitive
  pub transitive : (a b c : Monomial) → Small a → Small b → Small c → cmp a b ≡ Less → cmp b c ≡ Less → cmp a c ≡ Less
  -- raising one variable's exponent by one in both keeps the answer
  pub raised : (k : ℕ) → k < variables → (a b : Monomial) → Small (raise k a) → Small (raise k b) → cmp (raise k a) (raise k b) ≡ cmp a b
  -- a monomial so raised is greater than before
  pub above : (k : ℕ) → k < variables → (a : Monomial) → Small (raise k a) → cmp (raise k a) a ≡ Greater

abbrev pub Falling : Comparison → (ℕ → Monomial) → ℕ → Type 0
Falling cmp at n = (i j : ℕ) → i < j → j < n → cmp (at j) (at i) ≡ Less
