-- The agreement of the matrices that tables hold.
--   product_entry m laws t k l j i    the element in row j and column i of the product of the matrices of x_k and x_l
--   ProductColumn m t k l i r        where the steps fit, r is words of which the first are column i of that product
--   CommuteAt m laws t k l i         column i of the product is the same in the other order
--   Commute m laws t k l              each column is
--   StepsFit t k l                   the steps of both variables fit
--   DecidesCommuteAt m t k l i b     then b tells whether column i is the same in both orders
--   DecidesCommute m t k l b         then b tells whether each column is
--   DecidesCommuteBefore m t l b     where the steps fit, b tells whether the matrix of x_l commutes with that of each variable before it
-- Used by: the last question of Close.
use Rattle.std.specs.Prelude.{◌≡◌, ℕ, ◌<◌, ◌≤◌, Bool, T, ◌↔◌, List, take, Result, IsOkAnd}
use Rattle.field.specs.Meaning.{FieldMeaning, FieldLaws}
use Rattle.order.specs.Monomials.{variables}
use Rattle.algebra.specs.Vector.{sum}
use Rattle.algebra.specs.Elements.{Elem, Elems, field_of, read}
use Rattle.tables.specs.declared.tables.Tables.{Tables}
use Rattle.tables.specs.Holds.{stair_count, entry_of, Ready}

module _ (m : FieldMeaning) (laws : FieldLaws m) (t : Tables) (k l : ℕ) where
  abbrev pub product_entry : ℕ → ℕ → Elem m
  product_entry j i = sum (field_of m laws) (stair_count t) (λ r. (field_of m laws).◌⊗◌ (entry_of m laws t k j r) (entry_of m laws t l r i))

module _ (m : FieldMeaning) (laws : FieldLaws m) (t : Tables) (k l : ℕ) where
  abbrev pub CommuteAt : ℕ → Type 0
  CommuteAt i = (j : ℕ) → j < stair_count t → product_entry m laws t k l j i ≡ product_entry m laws t l k j i

  abbrev pub Commute : Type 0
  Commute = (i : ℕ) → i < stair_count t → CommuteAt i

abbrev pub StepsFit : Tables → ℕ → ℕ → Type 0
StepsFit t k l = (n : ℕ) × (n ≤ variables) × (k < n) × (l < n) × Ready t n

abbrev pub ProductColumn : {E : Type 0} → FieldMeaning → Tables → ℕ → ℕ → ℕ → Result (List ℕ) E → Type 0
ProductColumn m t k l i r = StepsFit t k l → i < stair_count t
    → IsOkAnd r (λ out. Elems m (take (stair_count t) out) × ((laws : FieldLaws m) (j : ℕ) → j < stair_count t → read m laws out j ≡ product_entry m laws t k l j i))

pub record DecidesCommuteAt (m : FieldMeaning) (t : Tables) (k l i : ℕ) (b : Bool) : Type 0 where
  pub tells : (laws : FieldLaws m) → StepsFit t k l → T b ↔ CommuteAt m laws t k l i

pub record DecidesCommute (m : FieldMeaning) (t : Tables) (k l : ℕ) (b : Bool) : Type 0 where
  pub tells : (laws : FieldLaws m) → StepsFit t k l → T b ↔ Commute m laws t k l

pub record DecidesCommuteBefore (m : FieldMeaning) (t : Tables) (l : ℕ) (b : Bool) : Type 0 where
  pub tells : (laws : FieldLaws m) (n : ℕ) → n ≤ variables → l < n → Ready t n → T b ↔ ((k : ℕ) → k < l → Commute m laws t k l)
