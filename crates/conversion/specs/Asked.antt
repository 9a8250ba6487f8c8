-- What the questions of Convert find, over the words that are worked with.
--   vector_words_asks m d n k r room  the questions 20 to 23 of a job of n variables and d staircase monomials
--   HasNoShape m laws d v f             the fault f has the least place, below d, whose vector of v depends on those before it
--   ShapeFound m laws d v a          the answer a to question 24 of the vectors v: they are independent, or a is such a fault
--   Monic m laws d s c                the words c, read backwards from place d, are the elements of a monic recurrence of length d of the sequence s
--   FullLength m laws d s c          the least length of a recurrence of the first 2d words of s is d, and c is such a one
--   ShortLength m laws d s f         the fault f has that least length, and it is not d
--   LengthFound m laws d s c a       the answer a to question 25 of those words: one or the other
-- Used by: the functions that put these questions. What the answers mean for a job is in Convert of runs.
use Rattle.std.specs.Prelude.{◌≡◌, ℕ, ◌+◌, ◌-◌, ◌*◌, ◌<◌, ◌≤◌, T, ◌≢◌, List, [], ◌∷◌, length, Ok, Err, Result, slice_index}
use Rattle.field.specs.Meaning.{FieldMeaning, FieldLaws}
use Rattle.algebra.specs.Vector.{sum, Independent, Least, Degree}
use Rattle.algebra.specs.Elements.{Elem, field_of, el}
use Rattle.linear.specs.Recurrence.{Recurs}
use Rattle.runs.specs.Question.{Question, single, each}
use Rattle.polynomials.specs.declared.fault.JobFault.{JobFault}
use Rattle.polynomials.specs.declared.fault.JobFault.TheVariants.{NoShape, DependentRows}

abbrev pub vector_words_asks : FieldMeaning → ℕ → ℕ → ℕ → List ℕ → ℕ → List Question
vector_words_asks m d n k r room =
    single 20 0 ((1 ≤ k) × (k ≤ n))
    ∷ single 21 0 (length r ≡ d)
    ∷ each 22 0 (length r) (λ i. T (m.elem (slice_index r i)))
    ∷ single 23 0 (n * d ≤ room)
    ∷ []

module _ (m : FieldMeaning) (laws : FieldLaws m) (d : ℕ) where
  abbrev pub HasNoShape : (ℕ → ℕ → Elem m) → JobFault → Type 0
  HasNoShape v f = (j : ℕ) × (f ≡ NoShape j) × (j < d) × Degree (field_of m laws) d v j

  abbrev pub ShapeFound : {A : Type 0} → (ℕ → ℕ → Elem m) → Result A JobFault → Type 0
  ShapeFound v (Ok a) = Independent (field_of m laws) d d v
  ShapeFound v (Err f) = HasNoShape v f

  pub record Monic (s : ℕ → Elem m) (c : List ℕ) : Type 0 where
    pub elements : (i : ℕ) → i ≤ d → T (m.elem (slice_index c i))
    pub recurs : (j : ℕ) → j < d → (field_of m laws).◌⊕◌ (sum (field_of m laws) d (λ i. (field_of m laws).◌⊗◌ (el m laws (slice_index c (d - i))) (s (i + j)))) (s (d + j)) ≡ (field_of m laws).zer

  abbrev pub FullLength : (ℕ → Elem m) → List ℕ → Type 0
  FullLength s c = Least (Recurs (field_of m laws) s (d + d)) d × Monic s c

  abbrev pub ShortLength : (ℕ → Elem m) → JobFault → Type 0
  ShortLength s f = (l : ℕ) × (f ≡ DependentRows l) × (l ≢ d) × Least (Recurs (field_of m laws) s (d + d)) l

  abbrev pub LengthFound : {A : Type 0} → (ℕ → Elem m) → List ℕ → Result A JobFault → Type 0
  LengthFound s c (Ok a) = FullLength s c
  LengthFound s c (Err f) = ShortLength s f
