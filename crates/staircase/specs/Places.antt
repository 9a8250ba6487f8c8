-- The places of the products of a variable and the monomials of a staircase.
--   numbered                          how many places a list may have, since a place is one byte
--   ProductAt k stairs i t            t is the product of x_k and the monomial of stairs at place i
--   Placeable k stairs edges room     there is room, both lists have numbered places, and each product is a record that stands in one of them
--   StandsAt stairs edges t p         p is the first place of t in stairs, or in edges where t does not stand in stairs
--   Placed k stairs edges out         the place at i in out is that of the product of x_k and the monomial of stairs at place i
--   PlaceOf n S E t p                 p is a place of t in S, or in E where t does not stand in S
--   ProductsPlacedIn n k S E          the products of x_k and the monomials of S can be placed in S and E, and the places are theirs
--   ProductsPlaced                    the products of a staircase monomial and a variable can be placed in the staircase and its border,
--                                     and the places are those of the products
-- Used by: the call that places the products; the matrices of the variables hold such places.
use Rattle.std.specs.Prelude.{◌≡◌, ℕ, ◌<◌, ◌≤◌, ◌⊎◌, List, map, length, Some, None, slice_index_or}
use Rattle.std.specs.List.{ContainsAt as Has}
use Rattle.order.specs.declared.monomial.Monomial.{Monomial}
use Rattle.order.specs.Monomials as record_of
use Rattle.order.specs.Monomials.{raised}
use Rattle.order.specs.Laws.{Comparison}
use Rattle.algebra.specs.Monomial.{Mono, one, times, var, Among}
use Rattle.algebra.specs.Records.{flat, before_by}
use Rattle.algebra.specs.Border.{border}
use Rattle.linear.specs.declared.step.Place.{Place}
use Rattle.linear.specs.declared.step.Place.TheVariants.{Stair, Border}
use Rattle.staircase.specs.Search.{FirstPlace}
use Rattle.staircase.specs.Stairs.{Leading, stairs_of}

abbrev pub numbered : ℕ
numbered = 256

abbrev pub ProductAt : ℕ → List Monomial → ℕ → Monomial → Type 0
ProductAt k stairs i t = raised k (slice_index_or stairs i record_of.one) ≡ Some t

pub record Placeable (k : ℕ) (stairs edges : List Monomial) (room : ℕ) : Type 0 where
  pub enough : length stairs ≤ room
  pub few_stairs : length stairs ≤ numbered
  pub few_edges : length edges ≤ numbered
  pub stand : (i : ℕ) → i < length stairs → (t : Monomial) × ProductAt k stairs i t × (Has stairs t ⊎ Has edges t)

abbrev pub StandsAt : List Monomial → List Monomial → Monomial → Place → Type 0
StandsAt stairs edges t (Stair p) = FirstPlace stairs t (Some p)
StandsAt stairs edges t (Border c) = FirstPlace stairs t None × FirstPlace edges t (Some c)

abbrev pub Placed : ℕ → List Monomial → List Monomial → List Place → Type 0
Placed k stairs edges out = (i : ℕ) → i < length stairs → (t : Monomial) × ProductAt k stairs i t × StandsAt stairs edges t (slice_index_or out i (Stair 0))

abbrev pub PlaceOf : (n : ℕ) → List (Mono n) → List (Mono n) → Mono n → Place → Type 0
PlaceOf n S E t (Stair p) = (p < length S) × (slice_index_or S p (one n) ≡ t)
PlaceOf n S E t (Border c) = (Among n t S → ⊥) × (c < length E) × (slice_index_or E c (one n) ≡ t)

pub record ProductsPlacedIn (n k : ℕ) (S E : List (Mono n)) : Type 0 where
  pub placeable : (room : ℕ) → length S ≤ room → length S ≤ numbered → length E ≤ numbered → Placeable k (map (flat n) S) (map (flat n) E) room
  pub places : (out : List Place) → Placed k (map (flat n) S) (map (flat n) E) out → (i : ℕ) → i < length S → PlaceOf n S E (times n (var n k) (slice_index_or S i (one n))) (slice_index_or out i (Stair 0))

abbrev pub ProductsPlaced : Type 0
ProductsPlaced = (cmp : Comparison) (n : ℕ) (leads : List Monomial) → Leading n leads → (k : ℕ) → k < n → ProductsPlacedIn n k (stairs_of cmp n leads) (border n (before_by cmp n) (stairs_of cmp n leads))
