-- Vectors of words, and the powers of the multiplication matrices that tables hold.
--   width                       how many words a vector has, of which the first count
--   Stands m d xs f             the first d words of xs are those of the vector f
--   StandsAt m d a xs f        the d words of xs from word a on are
--   map_of m laws t k           the matrix of x_k that the tables t hold, at a vector
--   unit m laws                 the unit vector of place 0, that of the monomial 1
--   power m laws t k f j        that matrix put to the vector f j times
--   measure m laws t k r f j    the sum of r_i times coordinate i of that power
--   OnlyUnready t n r           r refuses only tables in which a step of the first n variables does not fit
--   Vectors m laws t k vectors  the words hold the powers of x_k at the unit vector, each a width after the one before, and are all elements
-- Used by: the loops over Krylov vectors, sequences and right-hand sides, and all methods that take steps.
use Rattle.std.specs.Prelude.{◌≡◌, ℕ, ◌+◌, ◌*◌, ◌<◌, List, Result, OnErr, slice_index}
use Rattle.field.specs.Meaning.{FieldMeaning, FieldLaws}
use Rattle.algebra.specs.Vector.{basis, apply, krylov}
use Rattle.algebra.specs.Elements.{Elem, Elems, field_of, read}
use Rattle.linear.specs.Hankel.{measured}
use Rattle.tables.specs.Holds.{stair_count, entry_of, Ready}
use Rattle.tables.specs.declared.tables.Tables.{Tables}

abbrev pub width : ℕ
width = 48

abbrev pub OnlyUnready : {A E : Type 0} → Tables → ℕ → Result A E → Type 0
OnlyUnready t n r = OnErr r (Ready t n → ⊥)

abbrev pub StandsAt : (m : FieldMeaning) → ℕ → ℕ → List ℕ → (ℕ → Elem m) → Type 0
StandsAt m d a xs f = (j : ℕ) → j < d → slice_index xs (a + j) ≡ (f j).0

abbrev pub Stands : (m : FieldMeaning) → ℕ → List ℕ → (ℕ → Elem m) → Type 0
Stands m d xs f = (j : ℕ) → j < d → slice_index xs j ≡ (f j).0

module _ (m : FieldMeaning) (laws : FieldLaws m) where
  abbrev pub unit : ℕ → Elem m
  unit = basis (field_of m laws) 0

  module _ (t : Tables) (k : ℕ) where
    abbrev pub map_of : (ℕ → Elem m) → ℕ → Elem m
    map_of = apply (field_of m laws) (stair_count t) (entry_of m laws t k)

    abbrev pub power : (ℕ → Elem m) → ℕ → ℕ → Elem m
    power = krylov (field_of m laws) map_of

    abbrev pub measure : List ℕ → (ℕ → Elem m) → ℕ → Elem m
    measure r f = measured (field_of m laws) (stair_count t) map_of f (read m laws r)

    pub record Vectors (vectors : List ℕ) : Type 0 where
      pub elements : Elems m vectors
      pub stand : (j : ℕ) → j < stair_count t → StandsAt m (stair_count t) (j * width) vectors (power unit j)
