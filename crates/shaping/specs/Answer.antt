-- The answer of the program to every input.
--   rows d n w              the words w, in n lines of d words
--   basis_lines n d k w     a line of 0, n, d and k, then n rows of d words
--   Refuses qs out          out is the line of the first of the questions qs that gets a no
--   Told qs P out           where each of the questions qs gets a yes, P out; otherwise out is the line of the first that gets a no
--   Shaped .. out           over a field and an order: out has the basis that Convert writes
--   Shapes .. out           the same, the questions of the basis and the request asked first
--   ShapesAny bs out        the same over the field and the order that the first line of bs names, whatever proves the laws of the field
--   Answer bs out           out is what the program prints for the input bs
--   OneAnswer               to each input it prints one thing, and to each it prints something
--   Prints bs end out new   the answer to bs stands at the front of out, which is otherwise as it was, and end is its length
-- Used by: the contract of answer_to.
use Rattle.std.specs.Prelude.{◌≡◌, ℕ, zero, suc, ◌⊎◌, List, [], ◌∷◌, ◌++◌, take, drop, length, Some, Option}
use Rattle.column.specs.Line.{line}
use Rattle.column.specs.Place.{put}
use Rattle.field.specs.Meaning.{FieldMeaning, FieldLaws}
use Rattle.order.specs.Laws.{Comparison}
use Rattle.runs.specs.Question.{Question, AllYes, Refused}
use Rattle.runs.specs.Text.{text_polynomials, header_n}
use Rattle.runs.specs.Writing.{field_code, order_code}
use Rattle.runs.specs.Generators.{D}
use Rattle.runs.specs.Convert.{Written}
use Rattle.shaping.specs.Faults.{refusal}
use Rattle.shaping.specs.Questions.{field_by, order_by, header_asks, request, variable, vector, basis_asks}

abbrev pub rows : ℕ → ℕ → List ℕ → List ℕ
rows d zero w = []
rows d (suc n) w = line (take d w) ++ rows d n (drop d w)

abbrev pub basis_lines : ℕ → ℕ → ℕ → List ℕ → List ℕ
basis_lines n d k w = line (0 ∷ n ∷ d ∷ k ∷ []) ++ rows d n w

abbrev pub Refuses : List Question → List ℕ → Type 0
Refuses qs out = (number : ℕ) × (l : ℕ) × (place : ℕ) × Refused qs number l place × (out ≡ refusal number l place)

abbrev pub Told : List Question → (List ℕ → Type 0) → List ℕ → Type 0
Told qs P out = Refuses qs out ⊎ (AllYes qs × P out)

module _ (m : FieldMeaning) (laws : FieldLaws m) (cmp : Comparison) (n : ℕ) (bs : List ℕ) where
  pub record Shaped (out : List ℕ) : Type 0 where
    pub words : List ℕ
    pub written : Written m laws cmp n (text_polynomials n bs) (variable (request n bs)) (vector (request n bs)) words
    pub lines : out ≡ basis_lines n (D m laws cmp n (text_polynomials n bs)) (variable (request n bs)) words

  abbrev pub Shapes : List ℕ → Type 0
  Shapes = Told (basis_asks m laws cmp n bs) Shaped

abbrev pub ShapesAny : List ℕ → List ℕ → Type 0
ShapesAny bs out = (laws : FieldLaws (field_by (field_code bs))) → Shapes (field_by (field_code bs)) laws (order_by (order_code bs) (header_n bs)) (header_n bs) bs out

abbrev pub Answer : List ℕ → List ℕ → Type 0
Answer bs = Told (header_asks bs) (ShapesAny bs)

abbrev pub OneAnswer : Type 0
OneAnswer = (bs : List ℕ) → (out : List ℕ) × Answer bs out × ((other : List ℕ) → Answer bs other → other ≡ out)

abbrev pub Prints : List ℕ → Option ℕ → List ℕ → List ℕ → Type 0
Prints bs end out new = (written : List ℕ) × Answer bs written × (end ≡ Some (length written)) × (new ≡ put out 0 written)
