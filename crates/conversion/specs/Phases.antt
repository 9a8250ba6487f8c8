-- What the phases of a conversion in x_k with the vector r leave, over the matrices that the tables hold.
--   Half m laws t k r sequence vector     the first half of the sequence, and the power after those measured
--   Whole m laws t k r sequence           both halves of the sequence
--   ShapeAsked .. n sequence vector a      the answer a to question 24: with a yes the powers are independent, and half of the sequence stands
--   RowsAsked .. n sequence connection a   the answer a to question 25: with a yes the sequence stands, and its monic recurrence
--   RowsWritten .. n connection out a      the words out are the rows
-- Used by: the methods of Work. A no is promised only of tables that are ready for n variables.
use Rattle.std.specs.Prelude.{ℕ, ◌+◌, ◌*◌, ◌<◌, List, Ok, Err, Result, slice_index}
use Rattle.field.specs.Meaning.{FieldMeaning, FieldLaws}
use Rattle.algebra.specs.Vector.{Independent}
use Rattle.algebra.specs.Elements.{field_of}
use Rattle.linear.specs.Hankel.{hankel}
use Rattle.tables.specs.Holds.{stair_count, Ready}
use Rattle.tables.specs.declared.tables.Tables.{Tables}
use Rattle.polynomials.specs.declared.fault.JobFault.{JobFault}
use Rattle.conversion.specs.Powers.{Stands, map_of, unit, power, measure}
use Rattle.conversion.specs.Asked.{HasNoShape, FullLength, ShortLength}
use Rattle.conversion.specs.Rows.{Row}

module _ (m : FieldMeaning) (laws : FieldLaws m) (t : Tables) (k : ℕ) (r : List ℕ) where
  pub record Half (sequence vector : List ℕ) : Type 0 where
    pub measured : Stands m (stair_count t) sequence (measure m laws t k r (unit m laws))
    pub next : Stands m (stair_count t) vector (power m laws t k (unit m laws) (stair_count t))

  abbrev pub Whole : List ℕ → Type 0
  Whole sequence = Stands m (stair_count t + stair_count t) sequence (measure m laws t k r (unit m laws))

  abbrev pub ShapeAsked : {A : Type 0} → ℕ → List ℕ → List ℕ → Result A JobFault → Type 0
  ShapeAsked n sequence vector (Ok a) = Independent (field_of m laws) (stair_count t) (stair_count t) (power m laws t k (unit m laws)) × Half sequence vector
  ShapeAsked n sequence vector (Err f) = Ready t n → HasNoShape m laws (stair_count t) (power m laws t k (unit m laws)) f

  abbrev pub RowsAsked : {A : Type 0} → ℕ → List ℕ → List ℕ → Result A JobFault → Type 0
  RowsAsked n sequence connection (Ok a) = FullLength m laws (stair_count t) (measure m laws t k r (unit m laws)) connection × Whole sequence
  RowsAsked n sequence connection (Err f) = Ready t n → ShortLength m laws (stair_count t) (measure m laws t k r (unit m laws)) f

  abbrev pub RowsWritten : {A : Type 0} → ℕ → List ℕ → List ℕ → Result A JobFault → Type 0
  RowsWritten n connection out (Ok a) = (i : ℕ) → i < n → Row m laws (stair_count t) (hankel (field_of m laws) (measure m laws t k r (unit m laws))) connection (measure m laws t k r (map_of m laws t i (unit m laws))) i k (λ l. slice_index out (i * stair_count t + l))
  RowsWritten n connection out (Err f) = ⊥
