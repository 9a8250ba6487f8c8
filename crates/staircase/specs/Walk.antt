-- The walk from 1 by products with the variables, which finds the monomials that no leading monomial divides.
--   Free leads m             no leading monomial divides m
--   New leads l m            m is free and does not stand in l
--   Offered leads l m r      r is l, with m at its end where m is new
--   Good n leads l           l holds free monomials of n variables, no two the same
--   GoodPast n leads room    some good list is longer by one than the room
--   Grown n leads l m k r    r is good, begins with l, and holds every free product of m and one of the first k variables
--   Walked n leads l i       l is good, holds 1 where that is free, and every free product of one of its first i members and a variable
-- Used by: the inner functions that walk. What the staircase promises is said with the staircase of the definitions.
use Rattle.std.specs.Prelude.{◌≡◌, ℕ, ◌+◌, ◌<◌, false, ◌≢◌, ◌⊎◌, List, [], ◌∷◌, ◌++◌, length, Some, slice_index_or}
use Rattle.std.specs.List.{ContainsAt as Has, AllByRecursion}
use Rattle.order.specs.declared.monomial.Monomial.{Monomial}
use Rattle.order.specs.Monomials.{one, divides, raised}
use Rattle.algebra.specs.Lists.{any}
use Rattle.algebra.specs.Records.{Within}

abbrev pub Free : List Monomial → Monomial → Type 0
Free leads m = any (λ d. divides d m) leads ≡ false

abbrev pub New : List Monomial → List Monomial → Monomial → Type 0
New leads l m = Free leads m × (Has l m → ⊥)

abbrev pub Offered : List Monomial → List Monomial → Monomial → List Monomial → Type 0
Offered leads l m r = ((r ≡ l) × (Free leads m → Has l m)) ⊎ ((r ≡ l ++ m ∷ []) × New leads l m)

pub record Good (n : ℕ) (leads l : List Monomial) : Type 0 where
  pub frees : AllByRecursion (Free leads) l
  pub within : AllByRecursion (Within n) l
  pub apart : (i j : ℕ) → i < j → j < length l → slice_index_or l i one ≢ slice_index_or l j one

abbrev pub GoodPast : ℕ → List Monomial → ℕ → Type 0
GoodPast n leads room = (l : List Monomial) × (length l ≡ room + 1) × Good n leads l

pub record Grown (n : ℕ) (leads l : List Monomial) (m : Monomial) (k : ℕ) (r : List Monomial) : Type 0 where
  pub good : Good n leads r
  pub begins : (e : List Monomial) × (r ≡ l ++ e)
  pub holds : (v : ℕ) (t : Monomial) → v < k → raised v m ≡ Some t → Free leads t → Has r t

pub record Walked (n : ℕ) (leads l : List Monomial) (i : ℕ) : Type 0 where
  pub good : Good n leads l
  pub start : Free leads one → Has l one
  pub closed : (j v : ℕ) (t : Monomial) → j < i → v < n → raised v (slice_index_or l j one) ≡ Some t → Free leads t → Has l t
