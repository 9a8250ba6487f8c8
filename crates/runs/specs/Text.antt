-- What a basis text holds, and Fill: `bs` is the text from the place where a part of it begins.
--   words c bs                     the words of the line of c columns that bs begins with; zeros where it does not read
--   next c bs                      what follows that line
--   term ws                        the term of a line's words: a coefficient, then the exponents, 0 past the last
--   terms c k bs                   the terms of k lines of c columns
--   past_terms c k bs              what follows them
--   term_count bs                  the number in the line that a polynomial begins with
--   polynomial n bs                the terms of the polynomial of n variables that bs begins with
--   past n bs                      what follows it
--   polynomials n k bs             k polynomials, one after the other
--   past_all n k bs                what follows them
--   header_n, header_count bs      the number of variables and the count of polynomials that the first line gives
--   text_polynomials n bs          the polynomials of a text, read in n variables
--   text_length n bs               the number of its bytes, up to the end of its last polynomial
--   Numbers c bs                   bs begins with the line of some c words: each column is a number
--   line_asks line c bs            the questions 26 and 27 of the line of c columns that bs begins with; their place is the line
--   lines_asks line c k bs         those of k such lines, the first of them being this line
--   polynomial_asks line j bs      the questions of one polynomial, whose count stands in this line, to a job that holds those before it
--   polynomials_asks line j k bs   those of k polynomials, one after the other
--   fill_asks j bs                 the questions of Fill
-- Used by: Fill. The codes of field and order are not compared. Theorems on whole texts: in Writing.
use Rattle.std.specs.Prelude.{◌≡◌, ℕ, zero, suc, ◌+◌, ◌-◌, List, [], ◌∷◌, ◌++◌, length, drop, replicate, slice_index}
use Rattle.std.specs.Result.{result_unwrap_or}
use Rattle.std.specs.List.{AllByRecursion}
use Rattle.column.specs.Column.{Word}
use Rattle.column.specs.Line.{line, line_length, Begins, EndsAfter, reading_line}
use Rattle.field.specs.Meaning.{FieldMeaning}
use Rattle.order.specs.Monomials.{monomial}
use Rattle.order.specs.Laws.{Comparison}
use Rattle.runs.specs.Question.{Question, single}
use Rattle.runs.specs.Job.{Term, Job, opened, holding}
use Rattle.runs.specs.Enter.{room_asks, terms_asks}

unfoldable pub words : ℕ → List ℕ → List ℕ
words c bs = result_unwrap_or (reading_line c bs) (replicate c 0)

abbrev pub next : ℕ → List ℕ → List ℕ
next c bs = drop (line_length c) bs

abbrev pub term : List ℕ → Term
term ws = (slice_index ws 0, monomial (λ k. slice_index ws (suc k)))

abbrev pub terms : ℕ → ℕ → List ℕ → List Term
terms c zero bs = []
terms c (suc k) bs = term (words c bs) ∷ terms c k (next c bs)

abbrev pub past_terms : ℕ → ℕ → List ℕ → List ℕ
past_terms c zero bs = bs
past_terms c (suc k) bs = past_terms c k (next c bs)

abbrev pub term_count : List ℕ → ℕ
term_count bs = slice_index (words 1 bs) 0

abbrev pub polynomial : ℕ → List ℕ → List Term
polynomial n bs = terms (suc n) (term_count bs) (next 1 bs)

abbrev pub past : ℕ → List ℕ → List ℕ
past n bs = past_terms (suc n) (term_count bs) (next 1 bs)

abbrev pub polynomials : ℕ → ℕ → List ℕ → List (List Term)
polynomials n zero bs = []
polynomials n (suc k) bs = polynomial n bs ∷ polynomials n k (past n bs)

abbrev pub past_all : ℕ → ℕ → List ℕ → List ℕ
past_all n zero bs = bs
past_all n (suc k) bs = past_all n k (past n bs)

abbrev pub header_n : List ℕ → ℕ
header_n bs = slice_index (words 4 bs) 2

abbrev pub header_count : List ℕ → ℕ
header_count bs = slice_index (words 4 bs) 3

abbrev pub text_polynomials : ℕ → List ℕ → List (List Term)
text_polynomials n bs = polynomials n (header_count bs) (next 4 bs)

abbrev pub text_length : ℕ → List ℕ → ℕ
text_length n bs = length bs - length (past_all n (header_count bs) (next 4 bs))

abbrev pub Numbers : ℕ → List ℕ → Type 0
Numbers c bs = (ws : List ℕ) × (length ws ≡ c) × AllByRecursion Word ws × Begins bs (line ws)

abbrev pub line_asks : ℕ → ℕ → List ℕ → List Question
line_asks l c bs =
    record { number = 26; line = l; yes = EndsAfter c bs; place = λ p. p ≡ l }
    ∷ record { number = 27; line = l; yes = Numbers c bs; place = λ p. p ≡ l }
    ∷ []

abbrev pub lines_asks : ℕ → ℕ → ℕ → List ℕ → List Question
lines_asks l c zero bs = []
lines_asks l c (suc k) bs = line_asks l c bs ++ lines_asks (suc l) c k (next c bs)

module _ (m : FieldMeaning) (cmp : Comparison) where
  abbrev pub polynomial_asks : ℕ → Job → List ℕ → List Question
  polynomial_asks l j bs =
      line_asks l 1 bs
      ++ (room_asks l j (term_count bs)
      ++ (lines_asks (suc l) (suc j.n) (term_count bs) (next 1 bs)
      ++ terms_asks m cmp j.n l (polynomial j.n bs)))

  abbrev pub polynomials_asks : ℕ → Job → ℕ → List ℕ → List Question
  polynomials_asks l j zero bs = []
  polynomials_asks l j (suc k) bs = polynomial_asks l j bs ++ polynomials_asks (l + (1 + term_count bs)) (holding j (polynomial j.n bs ∷ [])) k (past j.n bs)

  abbrev pub fill_asks : Job → List ℕ → List Question
  fill_asks j bs =
      single 28 0 ((j.stage ≡ opened) × (j.polynomials ≡ []))
      ∷ (line_asks 1 4 bs
      ++ (single 29 1 (header_n bs ≡ j.n)
      ∷ polynomials_asks 2 j (header_count bs) (next 4 bs)))
