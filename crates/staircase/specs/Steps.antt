-- The second rule over words: a matrix step that reads the columns made so far.
--   OnceEach n S                              no monomial of S stands at two places
--   ColumnsHold m n S E tab columns stride    the columns are those of the table: column b, from word b × stride on, is that of the border
--                                             monomial at place b, and zero where the table has none
--   StepsReplace                              where the columns hold the table and the places are those of the products with x_k, the matrix
--                                             step of a form is that form with every staircase monomial m replaced by the form of x_k m
--   ColumnMore                                a column more, written at its place, holds the table with one monomial more
--   ColumnsNone                               columns of zeros hold the empty table
--   StepKnown                                 what is known where column `to` comes from column `from` by x_k
--   Steppable                                 the two columns and the step of d words lie within what is lent
--   ColumnStepped                             then the columns after hold the table with the form by the second rule added
-- Used by: whatever makes the columns of the border one after the other.
use Rattle.std.specs.Prelude.{◌≡◌, ℕ, ◌+◌, ◌*◌, ◌<◌, ◌≤◌, List, [], ◌∷◌, length, take, drop, slice_index, slice_index_or}
use Rattle.std.proofs.Math.Seq.{paste}
use Rattle.field.specs.Meaning.{FieldMeaning}
use Rattle.algebra.specs.Monomial.{Mono, one, times, var, Among}
use Rattle.algebra.specs.NormalForm.{Table, look, form, replaced}
use Rattle.algebra.specs.Elements.{Elems}
use Rattle.algebra.specs.Words.{words}
use Rattle.linear.specs.Step.{Fits, product_words}
use Rattle.linear.specs.declared.step.Place.{Place}
use Rattle.linear.specs.declared.step.Place.TheVariants.{Stair}
use Rattle.staircase.specs.Places.{PlaceOf}

abbrev pub OnceEach : (n : ℕ) → List (Mono n) → Type 0
OnceEach n S = (i j : ℕ) → i < length S → j < length S → slice_index_or S i (one n) ≡ slice_index_or S j (one n) → i ≡ j

module _ (m : FieldMeaning) (n : ℕ) (S E : List (Mono n)) where
  abbrev pub ColumnsHold : Table ℕ n → List ℕ → ℕ → Type 0
  ColumnsHold tab columns stride = (b j : ℕ) → b < length E → j < length S → slice_index columns (b * stride + j) ≡ slice_index_or (look n tab (slice_index_or E b (one n))) j m.zero

abbrev pub StepsReplace : Type 0
StepsReplace = (m : FieldMeaning) (n : ℕ) (S E : List (Mono n)) (tab : Table ℕ n) (columns : List ℕ) (stride : ℕ) → OnceEach n S → ColumnsHold m n S E tab columns stride
    → (k : ℕ) (places : List Place) → ((i : ℕ) → i < length S → PlaceOf n S E (times n (var n k) (slice_index_or S i (one n))) (slice_index_or places i (Stair 0)))
    → (v u : List ℕ) → ((i : ℕ) → i < length S → slice_index v i ≡ slice_index_or u i m.zero)
    → product_words m (length S) places columns stride v ≡ replaced (words m) n S tab k u

abbrev pub ColumnMore : Type 0
ColumnMore = (m : FieldMeaning) (n : ℕ) (S E : List (Mono n)) (tab : Table ℕ n) (columns : List ℕ) (stride : ℕ) → OnceEach n E → ColumnsHold m n S E tab columns stride
    → length S ≤ stride → (at : ℕ) → at < length E → at * stride + length S ≤ length columns → (col : List ℕ) → length col ≡ length S
    → ColumnsHold m n S E ((slice_index_or E at (one n), col) ∷ tab) (paste columns (at * stride) col (length S)) stride

abbrev pub ColumnsNone : Type 0
ColumnsNone = (m : FieldMeaning) (n : ℕ) (S E : List (Mono n)) (columns : List ℕ) (stride : ℕ) → ((b j : ℕ) → b < length E → j < length S → slice_index columns (b * stride + j) ≡ m.zero) → ColumnsHold m n S E [] columns stride

pub record StepKnown (m : FieldMeaning) (n : ℕ) (S E : List (Mono n)) (tab : Table ℕ n) (k : ℕ) (places : List Place) (columns : List ℕ) (stride from to : ℕ) : Type 0 where
  pub once_stairs : OnceEach n S
  pub once_edges : OnceEach n E
  pub holds : ColumnsHold m n S E tab columns stride
  pub short : length S ≤ stride
  pub products : (i : ℕ) → i < length S → PlaceOf n S E (times n (var n k) (slice_index_or S i (one n))) (slice_index_or places i (Stair 0))
  pub from_in : from < length E
  pub from_out : Among n (slice_index_or E from (one n)) S → ⊥
  pub to_in : to < length E
  pub elements : Elems m (take (length S) (drop (from * stride) columns))

pub record Steppable (d : ℕ) (places : List Place) (room stride from to rows : ℕ) : Type 0 where
  pub from_there : from * stride + d ≤ room
  pub to_there : to * stride + d ≤ room
  pub fits : Fits d places room stride d rows

abbrev pub ColumnStepped : FieldMeaning → ℕ → List Place → List ℕ → ℕ → ℕ → ℕ → List ℕ → Type 0
ColumnStepped m d places columns stride from to after = (n : ℕ) (S E : List (Mono n)) (tab : Table ℕ n) (k : ℕ) → length S ≡ d → StepKnown m n S E tab k places columns stride from to
    → ColumnsHold m n S E ((slice_index_or E to (one n), replaced (words m) n S tab k (form (words m) n S tab (slice_index_or E from (one n)))) ∷ tab) after stride
