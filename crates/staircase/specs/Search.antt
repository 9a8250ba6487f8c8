-- Where a monomial stands in a list.
--   FirstPlace l m r    r is the first place of l at which m stands, or none where it stands at no place
-- Used by: the staircase, the border and the places of the products.
use Rattle.std.specs.Prelude.{◌≡◌, ℕ, ◌<◌, ◌≢◌, List, length, Some, None, Option, slice_index_or}
use Rattle.order.specs.declared.monomial.Monomial.{Monomial}
use Rattle.order.specs.Monomials.{one}

abbrev pub FirstPlace : List Monomial → Monomial → Option ℕ → Type 0
FirstPlace l m None = (j : ℕ) → j < length l → slice_index_or l j one ≢ m
FirstPlace l m (Some i) = (i < length l) × (slice_index_or l i one ≡ m) × ((j : ℕ) → j < i → slice_index_or l j one ≢ m)
