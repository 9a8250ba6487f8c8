-- The rows that Convert writes, each by its words.
--   Solves m laws d v b w      the words w are elements, and combine the rows v of a table to b
--   Row m laws d v c b i k w   the words w of row i: where i is k those of the polynomial c read backwards from place d, elsewhere a solution
-- Used by: the functions that write rows.
use Rattle.std.specs.Prelude.{◌≡◌, ℕ, ◌-◌, ◌<◌, T, ◌≢◌, List, slice_index}
use Rattle.field.specs.Meaning.{FieldMeaning, FieldLaws}
use Rattle.algebra.specs.Vector.{Combines}
use Rattle.algebra.specs.Elements.{Elem, field_of, el}

module _ (m : FieldMeaning) (laws : FieldLaws m) (d : ℕ) (v : ℕ → ℕ → Elem m) where
  pub record Solves (b : ℕ → Elem m) (w : ℕ → ℕ) : Type 0 where
    pub elements : (l : ℕ) → l < d → T (m.elem (w l))
    pub combines : Combines (field_of m laws) d d (λ l. el m laws (w l)) v b

  pub record Row (c : List ℕ) (b : ℕ → Elem m) (i k : ℕ) (w : ℕ → ℕ) : Type 0 where
    pub backwards : i ≡ k → (l : ℕ) → l < d → w l ≡ slice_index c (d - l)
    pub solves : i ≢ k → Solves b w
