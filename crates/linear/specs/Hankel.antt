-- The Hankel table of a sequence, and what it tells of the Krylov vectors that the sequence measures.
--   hankel s i j              the word in row i and column j of the table: s (i + j)
--   measured D T e r j        the sequence: r times the Krylov vector T^j e, over D coordinates
--   Table D T e               what the table of that sequence tells, in five parts:
--     length_decides          with D independent Krylov vectors, the rows are independent exactly where the least recurrence length of the first 2D words is D
--     some_vector             with D independent Krylov vectors, some r has a table of independent rows
--     vectors_free            where the rows are independent, so are the Krylov vectors
--     rows_are_coordinates    where the rows are independent, h solves the table against r T^j w exactly where h has the coordinates of w along the Krylov vectors
--     monic_is_relation       where the rows are independent, a monic recurrence of length D of the sequence is one of the Krylov vectors, and the other way round
--   Tables                    this holds of every linear map over every lawful field
-- Used by: the last questions of a change of basis, and its rows.
use Rattle.std.specs.Prelude.{◌≡◌, ℕ, ◌+◌, ◌<◌, ◌↔◌}
use Rattle.field.specs.Meaning.{FieldMeaning, FieldLaws}
use Rattle.algebra.specs.Field.{Field}
use Rattle.algebra.specs.Vector.{sum, dot, Combines, Independent, LinearMap, krylov, Least}
use Rattle.algebra.specs.Elements.{Elem, field_of}
use Rattle.linear.specs.Recurrence.{Recurs}

module _ {K : Type 0} (F : Field K) where
  abbrev pub hankel : (ℕ → K) → ℕ → ℕ → K
  hankel s i j = s (i + j)

  abbrev pub measured : ℕ → ((ℕ → K) → ℕ → K) → (ℕ → K) → (ℕ → K) → ℕ → K
  measured D T e r j = dot F D r (krylov F T e j)

  pub record Table (D : ℕ) (T : (ℕ → K) → ℕ → K) (e : ℕ → K) : Type 0 where
    pub length_decides : Independent F D D (krylov F T e) → (r : ℕ → K) (l : ℕ) → Least (Recurs F (measured D T e r) (D + D)) l → Independent F D D (hankel (measured D T e r)) ↔ (l ≡ D)
    pub some_vector : Independent F D D (krylov F T e) → (r : ℕ → K) × Independent F D D (hankel (measured D T e r))
    pub vectors_free : (r : ℕ → K) → Independent F D D (hankel (measured D T e r)) → Independent F D D (krylov F T e)
    pub rows_are_coordinates : (r : ℕ → K) → Independent F D D (hankel (measured D T e r)) → (w h : ℕ → K) → ((j : ℕ) → j < D → sum F D (λ l. F.◌⊗◌ (h l) (measured D T e r (l + j))) ≡ measured D T w r j) ↔ Combines F D D h (krylov F T e) w
    pub monic_is_relation : (r : ℕ → K) → Independent F D D (hankel (measured D T e r)) → (g : ℕ → K) → ((j : ℕ) → j < D → F.◌⊕◌ (sum F D (λ l. F.◌⊗◌ (g l) (measured D T e r (l + j)))) (measured D T e r (D + j)) ≡ F.zer) ↔ ((i : ℕ) → i < D → F.◌⊕◌ (sum F D (λ l. F.◌⊗◌ (g l) (krylov F T e l i))) (krylov F T e D i) ≡ F.zer)

abbrev pub Tables : Type 0
Tables = (m : FieldMeaning) (laws : FieldLaws m) (D : ℕ) (T : (ℕ → Elem m) → ℕ → Elem m) → LinearMap (field_of m laws) D T → (e : ℕ → Elem m) → Table (field_of m laws) D T e
