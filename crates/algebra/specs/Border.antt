-- The border of a staircase: the products of a member and a variable that are no members, in increasing order.
--   border n before S        the border of the staircase S, as it is computed
--   IsBorder n before S E   E holds exactly those products, in increasing order
--   BorderHolds             the computed border of a computed staircase is one, and there is no other
-- Used by: the normal forms.
use Rattle.std.specs.Prelude.{◌≡◌, ℕ, ◌<◌, Bool, not, ◌↔◌, List, map, length, filter, slice_index_or}
use Rattle.algebra.specs.Lists.{any, joined}
use Rattle.algebra.specs.Monomial.{Mono, one, times, equal, var, Among}
use Rattle.algebra.specs.Order.{Ordered, Rising}
use Rattle.algebra.specs.Staircase.{Bounded, sorted, staircase}

module _ (n : ℕ) (before : Mono n → Mono n → Bool) where
  abbrev pub border : List (Mono n) → List (Mono n)
  border S = sorted n before (filter (λ m. not (any (equal n m) S)) (joined n (λ k. map (times n (var n k)) S)))

  pub record IsBorder (S E : List (Mono n)) : Type 0 where
    pub exactly : (t : Mono n) → Among n t E ↔ (((k : ℕ) × (i : ℕ) × (k < n) × (i < length S) × (t ≡ times n (var n k) (slice_index_or S i (one n)))) × (Among n t S → ⊥))
    pub rising : Rising n before E

abbrev pub BorderHolds : Type 0
BorderHolds = (n : ℕ) (before : Mono n → Mono n → Bool) → Ordered n before → (leads : List (Mono n)) → Bounded n leads → (E : List (Mono n)) → IsBorder n before (staircase n before leads) E ↔ (E ≡ border n before (staircase n before leads))
