-- Convert: a basis shaped in x_k, from the sequence that a vector measures.
--   sequence m laws cmp n ps k r j        s_j: the sum of r_i times coordinate i of T_k^j e, where e is the column of the monomial 1
--   sequence_from m laws cmp n ps k r v j the same with another vector v for e
--   FreeTable m laws cmp n ps k r        the rows of the table s_(i+j), for i and j below D, are linearly independent
--   Rows m laws cmp n ps k r rows         row k holds the monic recurrence of length D of the sequence, and row i solves the table against r T_k^j T_i e
--   row m laws d out i l                  the word at place l of row i, where rows of d words stand one after the other
--   Written m laws cmp n ps k r out       the words out are n rows of D elements that are such
--   shaped_basis m laws cmp n ps k out    the basis shaped in x_k that the words out hold
--   shape_ask m laws cmp n ps k           the question 24: has some basis shaped in x_k the ideal; its place is the least degree of a member in x_k alone
--   table_ask m laws cmp n ps k r         the question 25: are the rows of the table independent; its place is the least recurrence length of the 2D words
--   vector_asks m laws cmp n ps k r room  the questions 20 to 25
--   convert_asks m laws cmp j k r room    the questions of Convert with the words r and room for so many words, x_k counted from 1
-- Used by: Convert. That the basis generates the ideal is a theorem: same_ideal, in Whole.
use Rattle.std.specs.Prelude.{◌≡◌, ℕ, pred, ◌+◌, ◌*◌, ◌<◌, ◌≤◌, T, ◌≢◌, List, [], ◌∷◌, length, slice_index}
use Rattle.field.specs.Meaning.{FieldMeaning, FieldLaws}
use Rattle.order.specs.Laws.{Comparison}
use Rattle.algebra.specs.Field.{Field}
use Rattle.algebra.specs.Vector.{sum, basis, apply, Independent, Least}
use Rattle.algebra.specs.Elements.{Elem, Elems, field_of, read}
use Rattle.algebra.specs.Polynomial.{Poly}
use Rattle.algebra.specs.Shape.{shaped, HasShape, LeastAlone}
use Rattle.linear.specs.Recurrence.{Recurs}
use Rattle.linear.specs.Hankel.{hankel, measured}
use Rattle.runs.specs.Question.{Question, single, each}
use Rattle.runs.specs.Job.{Term, Job, closed}
use Rattle.runs.specs.Generators.{generators, D, Tk}

module _ (m : FieldMeaning) (laws : FieldLaws m) where
  abbrev pub row : ℕ → List ℕ → ℕ → ℕ → Elem m
  row d out i l = read m laws out (i * d + l)

  module _ (cmp : Comparison) (n : ℕ) (ps : List (List Term)) where
    abbrev F : Field (Elem m)
    F = field_of m laws

    open F use {zer, ◌⊕◌, ◌⊗◌}

    infixl 65 ◌⊕◌
    infixl 70 ◌⊗◌
    abbrev d : ℕ
    d = D m laws cmp n ps

    -- T_k at a vector
    abbrev step : ℕ → (ℕ → Elem m) → ℕ → Elem m
    step k v = apply F d (Tk m laws cmp n ps k) v

    -- the column of the monomial 1
    abbrev e : ℕ → Elem m
    e = basis F 0

    abbrev pub sequence_from : ℕ → List ℕ → (ℕ → Elem m) → ℕ → Elem m
    sequence_from k r v j = measured F d (step k) v (read m laws r) j

    abbrev pub sequence : ℕ → List ℕ → ℕ → Elem m
    sequence k r j = sequence_from k r e j

    abbrev pub FreeTable : ℕ → List ℕ → Type 0
    FreeTable k r = Independent F d d (hankel F (sequence k r))

    pub record Rows (k : ℕ) (r : List ℕ) (rows : ℕ → ℕ → Elem m) : Type 0 where
      pub recurrence : (j : ℕ) → j < d → sum F d (λ l. rows k l ⊗ sequence k r (l + j)) ⊕ sequence k r (d + j) ≡ zer
      pub solution : (i : ℕ) → i < n → i ≢ k → (j : ℕ) → j < d → sum F d (λ l. rows i l ⊗ sequence k r (l + j)) ≡ sequence_from k r (step i e) j

    pub record Written (k : ℕ) (r out : List ℕ) : Type 0 where
      pub size : length out ≡ n * d
      pub elements : Elems m out
      pub rows : Rows (pred k) r (row d out)

    abbrev pub shaped_basis : ℕ → List ℕ → List (Poly (Elem m) n)
    shaped_basis k out = shaped F n (pred k) d (row d out) n

    abbrev pub shape_ask : ℕ → Question
    shape_ask k = record { number = 24; line = 0; yes = HasShape F n (generators m laws n ps) d (pred k); place = LeastAlone F n (generators m laws n ps) (pred k) }

    abbrev pub table_ask : ℕ → List ℕ → Question
    table_ask k r = record { number = 25; line = 0; yes = FreeTable (pred k) r; place = Least (Recurs F (sequence (pred k) r) (d + d)) }

    abbrev pub vector_asks : ℕ → List ℕ → ℕ → List Question
    vector_asks k r room =
        single 20 0 ((1 ≤ k) × (k ≤ n))
        ∷ single 21 0 (length r ≡ d)
        ∷ each 22 0 (length r) (λ i. T (m.elem (slice_index r i)))
        ∷ single 23 0 (n * d ≤ room)
        ∷ shape_ask k
        ∷ table_ask k r
        ∷ []

abbrev pub convert_asks : (m : FieldMeaning) → FieldLaws m → Comparison → Job → ℕ → List ℕ → ℕ → List Question
convert_asks m laws cmp j k r room = single 19 0 (j.stage ≡ closed) ∷ vector_asks m laws cmp j.n j.polynomials k r room
