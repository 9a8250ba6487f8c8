-- The matrix of a multiplication as places and border columns hold it, and its product with words.
--   Place                                     of the code: the product of the variable and a staircase monomial stands in the staircase or in the border
--   Within d room stride p                    what stands at the place is there: one of d staircase places, or d words of a column that begins each stride words
--   Fits d places room stride words rows      there are d places, each within, d words to read and d rows to write
--   entry m columns stride p j                the word in row j of the column at a place: that of a unit vector, or of a border column
--   row_words m places columns stride v j n   row j of the matrix times v, over its first n columns
--   product_words m d places columns stride v the matrix of d rows and columns times v
--   matrix m laws places columns stride j i   the element in row j and column i
--   Stepped m d places columns stride v out   the first d words of out are that product, elements, and those of the matrix applied to v
-- Used by: the matrix step.
use Rattle.std.specs.Prelude.{◌≡◌, ℕ, ◌+◌, ◌*◌, ◌<◌, ◌≤◌, cond, List, map, length, take, ◌==◌, slice_index, slice_index_or}
use Rattle.std.specs.List.{range_with_len}
use Rattle.field.specs.Meaning.{FieldMeaning, FieldLaws}
use Rattle.algebra.specs.Vector.{apply}
use Rattle.algebra.specs.Elements.{Elem, Elems, field_of, el, read}
use Rattle.linear.specs.Words.{sum_words}
use Rattle.linear.specs.declared.step.Place.{Place}
use Rattle.linear.specs.declared.step.Place.TheVariants.{Stair, Border}

abbrev pub Within : ℕ → ℕ → ℕ → Place → Type 0
Within d room stride (Stair p) = p < d
Within d room stride (Border c) = c * stride + d ≤ room

pub record Fits (d : ℕ) (places : List Place) (room stride words rows : ℕ) : Type 0 where
  pub enough_places : d ≤ length places
  pub enough_words : d ≤ words
  pub enough_rows : d ≤ rows
  pub within : (i : ℕ) → i < d → Within d room stride (slice_index_or places i (Stair 0))

abbrev pub entry : FieldMeaning → List ℕ → ℕ → Place → ℕ → ℕ
entry m columns stride (Stair p) j = cond (p == j) m.one m.zero
entry m columns stride (Border c) j = slice_index columns (c * stride + j)

abbrev pub row_words : FieldMeaning → List Place → List ℕ → ℕ → List ℕ → ℕ → ℕ → ℕ
row_words m places columns stride v j n = sum_words m n (λ i. m.mul (entry m columns stride (slice_index_or places i (Stair 0)) j) (slice_index v i))

abbrev pub product_words : FieldMeaning → ℕ → List Place → List ℕ → ℕ → List ℕ → List ℕ
product_words m d places columns stride v = map (λ j. row_words m places columns stride v j d) (range_with_len 0 d)

abbrev pub matrix : (m : FieldMeaning) → FieldLaws m → List Place → List ℕ → ℕ → ℕ → ℕ → Elem m
matrix m laws places columns stride j i = el m laws (entry m columns stride (slice_index_or places i (Stair 0)) j)

pub record Stepped (m : FieldMeaning) (d : ℕ) (places : List Place) (columns : List ℕ) (stride : ℕ) (v out : List ℕ) : Type 0 where
  pub product : take d out ≡ product_words m d places columns stride v
  pub elements : Elems m (take d out)
  pub applied : (laws : FieldLaws m) (j : ℕ) → j < d → read m laws out j ≡ apply (field_of m laws) d (matrix m laws places columns stride) (read m laws v) j
