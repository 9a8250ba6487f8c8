-- The places of the products of each variable.
--   places_at l k                     the places of the products with x_k
--   Wide l                            there are 48 for each variable
--   AllPlaceable n stairs edges      the products of the first n variables have places
--   AllPlaced n stairs edges l       and these are in l
--   PlacesFound n stairs edges r     r is a list with them
-- Used by: the making of the tables.
use Rattle.std.specs.Prelude.{◌≡◌, ℕ, ◌<◌, List, [], length, Result, IsOkAnd, slice_index_or}
use Rattle.std.specs.List.{All}
use Rattle.order.specs.declared.monomial.Monomial.{Monomial}
use Rattle.order.specs.Monomials.{variables}
use Rattle.linear.specs.declared.step.Place.{Place}
use Rattle.tables.specs.declared.products.Products.{Products}
use Rattle.staircase.specs.Places.{Placeable, Placed}

abbrev pub places_at : List Products → ℕ → List Place
places_at l k = (slice_index_or l k (record { places = [] })).places

abbrev pub Wide : List Products → Type 0
Wide l = (length l ≡ variables) × All (λ p. length p.places ≡ 48) l

abbrev pub AllPlaceable : ℕ → List Monomial → List Monomial → Type 0
AllPlaceable n stairs edges = (k : ℕ) → k < n → Placeable k stairs edges 48

abbrev pub AllPlaced : ℕ → List Monomial → List Monomial → List Products → Type 0
AllPlaced n stairs edges l = (k : ℕ) → k < n → Placed k stairs edges (places_at l k)

abbrev pub PlacesFound : {E : Type 0} → ℕ → List Monomial → List Monomial → Result (List Products) E → Type 0
PlacesFound n stairs edges r = IsOkAnd r (AllPlaced n stairs edges)
