-- Orders of monomials, as a test that one monomial stands before another.
--   Small n m            no exponent of m is above the largest of a record, 255
--   Ordered n before     the laws of an order, for monomials of n variables that are small
--   Rising n before l    each member of l stands before all that follow it
-- Used by: the staircase, the border and the order in which normal forms are made.
use Rattle.std.specs.Prelude.{◌≡◌, ℕ, ◌<◌, ◌≤◌, Bool, true, false, List, [], ◌∷◌, ◌≢◌}
use Rattle.std.specs.List.{AllByRecursion}
use Rattle.order.specs.Monomials.{largest}
use Rattle.algebra.specs.Monomial.{Mono, times, var, equal, exponent}

abbrev pub Small : (n : ℕ) → Mono n → Type 0
Small n m = (k : ℕ) → k < n → exponent n m k ≤ largest

pub record Ordered (n : ℕ) (before : Mono n → Mono n → Bool) : Type 0 where
  pub not_both : (a b : Mono n) → Small n a → Small n b → before a b ≡ true → before b a ≢ true
  pub chain : (a b c : Mono n) → Small n a → Small n b → Small n c → before a b ≡ true → before b c ≡ true → before a c ≡ true
  pub either : (a b : Mono n) → Small n a → Small n b → before a b ≡ false → equal n a b ≡ false → before b a ≡ true
  pub raised : (k : ℕ) → k < n → (a b : Mono n) → Small n (times n (var n k) a) → Small n (times n (var n k) b) → before a b ≡ true → before (times n (var n k) a) (times n (var n k) b) ≡ true
  pub above : (k : ℕ) → k < n → (a : Mono n) → Small n (times n (var n k) a) → before a (times n (var n k) a) ≡ true

abbrev pub Rising : (n : ℕ) → (Mono n → Mono n → Bool) → List (Mono n) → Type 0
Rising n before [] = Unit {0}
Rising n before (a ∷ l) = AllByRecursion (λ b. before a b ≡ true) l × Rising n before l
