-- Polynomials at the matrices that tables hold, put to the unit vector of the monomial 1.
--   acts m laws t n a f         the matrices of n variables put to the vector f, each as often as the record a has its variable
--   value_of m laws t n terms   the value of the polynomial of the code's terms
-- Used by: the loops of a reduction. Over the matrices of a job they are act and value, of crate algebra.
use Rattle.std.specs.Prelude.{ℕ, List}
use Rattle.field.specs.Meaning.{FieldMeaning, FieldLaws}
use Rattle.order.specs.declared.monomial.Monomial.{Monomial}
use Rattle.algebra.specs.Elements.{Elem, field_of}
use Rattle.algebra.specs.Records.{nested}
use Rattle.algebra.specs.Evaluation.{act, evaluate}
use Rattle.runs.specs.Generators.{over_elements}
use Rattle.staircase.specs.declared.rules.Term.{Term}
use Rattle.polynomials.specs.Held.{terms_of}
use Rattle.tables.specs.declared.tables.Tables.{Tables}
use Rattle.conversion.specs.Powers.{map_of, unit}

module _ (m : FieldMeaning) (laws : FieldLaws m) (t : Tables) (n : ℕ) where
  abbrev pub acts : Monomial → (ℕ → Elem m) → ℕ → Elem m
  acts a f = act (field_of m laws) n (map_of m laws t) (nested n a) f

  abbrev pub value_of : List Term → ℕ → Elem m
  value_of terms = evaluate (field_of m laws) n (map_of m laws t) (unit m laws) (over_elements m laws n (terms_of terms))
