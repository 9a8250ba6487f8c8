-- The border over the code's lists of monomials.
--   Raisable n stairs           records have n variables or more, the monomials of stairs have no others, and their products with each are records
--   edges_of cmp n stairs       the border of stairs under the order of records cmp
--   BorderAnswer                what a call answers whose list has room for so many: the border, or that it is longer
--   BorderWritten               what a call answers and leaves: the border at the front of the list lent for it, or that it is longer
--   PastStays                   what a call leaves past the monomials that it wrote
--   StairsRaisable              a staircase is raisable, and the border of its records is its border
--   Outside stairs k i t        t is the product of x_k and the monomial of stairs at place i, and does not stand in stairs
--   Taken stairs K I k i        place i was taken for x_k: each for the variables below K, and those below I for x_K
--   Edged stairs K I l          l holds exactly the products outside that were taken
--   Edges cmp stairs K I e      e holds them in increasing order, each once
--   EdgesPast cmp stairs K r    such a list, on the way of x_K, is longer by one than the room r
-- Used by: the calls that make the border; the last five by their inner functions.
use Rattle.std.specs.Prelude.{◌≡◌, ℕ, ◌+◌, ◌<◌, ◌≤◌, ◌⊎◌, List, map, length, take, drop, Some, None, Option, Result, MatchResult, slice_index_or}
use Rattle.arrayvec.specs.ArrayVec.{ArrayVec}
use Rattle.std.specs.List.{ContainsAt as Has, AllByRecursion}
use Rattle.order.specs.declared.monomial.Monomial.{Monomial}
use Rattle.order.specs.Monomials.{variables, largest, exponent, one, raised}
use Rattle.order.specs.Laws.{Comparison}
use Rattle.algebra.specs.Monomial.{Mono}
use Rattle.algebra.specs.Records.{nested, flat, Within, before_by}
use Rattle.algebra.specs.Border.{border}
use Rattle.staircase.specs.Sorting.{sorted_by}
use Rattle.staircase.specs.Stairs.{Leading, stairs_of}

pub record Raisable (n : ℕ) (stairs : List Monomial) : Type 0 where
  pub few : n ≤ variables
  pub within : AllByRecursion (Within n) stairs
  pub room : AllByRecursion (λ m. (k : ℕ) → k < n → exponent m k < largest) stairs

abbrev pub edges_of : Comparison → (n : ℕ) → List Monomial → List (Mono n)
edges_of cmp n stairs = border n (before_by cmp n) (map (nested n) stairs)

abbrev pub BorderAnswer : {E : Type 0} → Comparison → ℕ → List Monomial → ℕ → Result (ArrayVec Monomial) E → Type 0
BorderAnswer cmp n stairs room r = MatchResult r (λ edges. edges.items ≡ map (flat n) (edges_of cmp n stairs)) (λ _. room < length (edges_of cmp n stairs))

module _ (cmp : Comparison) (n : ℕ) (stairs : List Monomial) (before after : List Monomial) where
  abbrev pub BorderWritten : Option ℕ → Type 0
  BorderWritten (Some k) = (k ≡ length (edges_of cmp n stairs)) × (take k after ≡ map (flat n) (edges_of cmp n stairs))
  BorderWritten None = length before < length (edges_of cmp n stairs)

abbrev pub PastStays : List Monomial → List Monomial → Option ℕ → Type 0
PastStays before after (Some k) = drop k after ≡ drop k before
PastStays before after None = Unit {0}

abbrev pub StairsRaisable : Type 0
StairsRaisable = (cmp : Comparison) (n : ℕ) (leads : List Monomial) → Leading n leads
    → Raisable n (map (flat n) (stairs_of cmp n leads)) × (edges_of cmp n (map (flat n) (stairs_of cmp n leads)) ≡ border n (before_by cmp n) (stairs_of cmp n leads))

module _ (stairs : List Monomial) where
  abbrev pub Outside : ℕ → ℕ → Monomial → Type 0
  Outside k i t = (raised k (slice_index_or stairs i one) ≡ Some t) × (Has stairs t → ⊥)

  abbrev pub Taken : ℕ → ℕ → ℕ → ℕ → Type 0
  Taken K I k i = ((k < K) × (i < length stairs)) ⊎ ((k ≡ K) × (i < I))

  pub record Edged (K I : ℕ) (l : List Monomial) : Type 0 where
    pub each : AllByRecursion (λ t. (k : ℕ) × (i : ℕ) × Taken K I k i × Outside k i t) l
    pub all : (k i : ℕ) (t : Monomial) → Taken K I k i → Outside k i t → Has l t

abbrev pub Edges : Comparison → List Monomial → ℕ → ℕ → List Monomial → Type 0
Edges cmp stairs K I e = (l : List Monomial) × (e ≡ sorted_by cmp l) × Edged stairs K I l

abbrev pub EdgesPast : Comparison → List Monomial → ℕ → ℕ → Type 0
EdgesPast cmp stairs K room = (i : ℕ) × (e : List Monomial)
    × (i ≤ length stairs) × (length e ≡ room + 1) × Edges cmp stairs K i e
