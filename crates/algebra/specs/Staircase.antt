-- The staircase of a list of leading monomials: the monomials that none of them divides, in increasing order.
--   free n leads m                   the test that no leading monomial divides m
--   Bounded n leads                  the leading monomials are small, and each variable has a power of itself alone among them
--   bound n leads k                  the exponent of the first leading monomial that is a power of x_k alone
--   box n b                          the monomials whose exponent of x_k is below b k, for each k
--   insert n before m l              m put into the increasing list l, once
--   sorted n before l                the members of l in increasing order, each once
--   staircase n before leads         the staircase, as it is computed: the free monomials of a box, sorted
--   IsStaircase n before leads S    S holds exactly the free monomials, in increasing order
--   StaircaseHolds                  the computed staircase is one, and there is no other
-- Used by: the border and the normal forms.
use Rattle.std.specs.Prelude.{◌≡◌, ℕ, zero, suc, ◌<◌, Bool, true, cond, not, ◌↔◌, List, [], ◌∷◌, map, length, filter, ◌≢◌, slice_index_or}
use Rattle.std.specs.List.{AllByRecursion}
use Rattle.algebra.specs.Lists.{any, joined}
use Rattle.algebra.specs.Monomial.{Mono, one, equal, power, exponent, divides, pure, Among}
use Rattle.algebra.specs.Order.{Small, Ordered, Rising}

abbrev pub box : (n : ℕ) → (ℕ → ℕ) → List (Mono n)
box zero b = tt ∷ []
box (suc n) b = joined (b 0) (λ e. map (λ (m : Mono n). (e, m)) (box n (λ k. b (suc k))))

module _ (n : ℕ) where
  abbrev pub free : List (Mono n) → Mono n → Bool
  free leads m = not (any (λ (l : Mono n). divides n l m) leads)

  abbrev pub bound : List (Mono n) → ℕ → ℕ
  bound [] k = 0
  bound (l ∷ leads) k = cond (pure n k l) (exponent n l k) (bound leads k)

  pub record Bounded (leads : List (Mono n)) : Type 0 where
    pub small : AllByRecursion (Small n) leads
    pub pures : (k : ℕ) → k < n → (p : ℕ) × (p < length leads) × (e : ℕ) × (slice_index_or leads p (one n) ≡ power n k e)

  module _ (before : Mono n → Mono n → Bool) where
    abbrev pub insert : Mono n → List (Mono n) → List (Mono n)
    insert m [] = m ∷ []
    insert m (a ∷ l) = cond (before m a) (m ∷ a ∷ l) (cond (equal n m a) (a ∷ l) (a ∷ insert m l))

    abbrev pub sorted : List (Mono n) → List (Mono n)
    sorted [] = []
    sorted (a ∷ l) = insert a (sorted l)

    abbrev pub staircase : List (Mono n) → List (Mono n)
    staircase leads = sorted (filter (free leads) (box n (bound leads)))

    pub record IsStaircase (leads S : List (Mono n)) : Type 0 where
      pub exactly : (m : Mono n) → Among n m S ↔ ((p : ℕ) → p < length leads → divides n (slice_index_or leads p (one n)) m ≢ true)
      pub rising : Rising n before S

abbrev pub StaircaseHolds : Type 0
StaircaseHolds = (n : ℕ) (before : Mono n → Mono n → Bool) → Ordered n before → (leads : List (Mono n)) → Bounded n leads → (S : List (Mono n)) → IsStaircase n before leads S ↔ (S ≡ staircase n before leads)
