-- Sums of words, by the total operations of a field's meaning: a word that is no element counts as zero in a product.
--   sum_words m n f      f 0 + .. + f (n - 1)
--   dot_words m xs ys    the products of the words at one place in both lists, summed
--   DotOf m xs ys w     w is the word of the dot product of the elements that xs and ys stand for
--   added m w xs ys      ys with w times each word of xs added at its place, over the length that both have
-- Used by: the kernels over words.
use Rattle.std.specs.Prelude.{◌≡◌, ℕ, zero, suc, min, List, [], ◌∷◌, length, slice_index}
use Rattle.field.specs.Meaning.{FieldMeaning, FieldLaws}
use Rattle.algebra.specs.Vector.{dot}
use Rattle.algebra.specs.Elements.{field_of, read}

abbrev pub sum_words : FieldMeaning → ℕ → (ℕ → ℕ) → ℕ
sum_words m zero f = m.zero
sum_words m (suc n) f = m.add (sum_words m n f) (f n)

abbrev pub dot_words : FieldMeaning → List ℕ → List ℕ → ℕ
dot_words m xs ys = sum_words m (min (length xs) (length ys)) (λ i. m.mul (slice_index xs i) (slice_index ys i))

abbrev pub DotOf : FieldMeaning → List ℕ → List ℕ → ℕ → Type 0
DotOf m xs ys w = (laws : FieldLaws m) → w ≡ (dot (field_of m laws) (min (length xs) (length ys)) (read m laws xs) (read m laws ys)).0

abbrev pub added : FieldMeaning → ℕ → List ℕ → List ℕ → List ℕ
added m w [] ys = ys
added m w (x ∷ xs) [] = []
added m w (x ∷ xs) (y ∷ ys) = m.add y (m.mul w x) ∷ added m w xs ys
