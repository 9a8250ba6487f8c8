-- What a basis text holds, read from its bytes on: `bs` is the text from the place where a part begins.
--   words c bs           the words of the line of c columns that bs begins with, zeros where it does not read
--   next c bs            what follows that line
--   terms c k bs         the words of k lines of c columns: terms of a coefficient and c - 1 exponents
--   after_lines c k bs   what follows k lines of c columns
--   term_count bs        the number in the line that a polynomial begins with
--   polynomial n bs      the terms of the polynomial in n variables that bs begins with
--   after n bs           what follows that polynomial
--   polynomials n k bs   k polynomials, one after the other
--   after_all n k bs     what follows them
--   lines_all n k bs     how many lines they have
-- Used by: the answer of the program.
use Rattle.std.specs.Prelude.{ℕ, zero, suc, ◌+◌, List, [], ◌∷◌, drop, replicate, slice_index}
use Rattle.std.specs.Result.{result_unwrap_or}
use Rattle.column.specs.Line.{line_length, reading_line}
use Rattle.evaluation.specs.Evaluation.{Term}

unfoldable pub words : ℕ → List ℕ → List ℕ
words c bs = result_unwrap_or (reading_line c bs) (replicate c 0)

unfoldable pub next : ℕ → List ℕ → List ℕ
next c bs = drop (line_length c) bs

unfoldable pub terms : ℕ → ℕ → List ℕ → List Term
terms c zero bs = []
terms c (suc k) bs = words c bs ∷ terms c k (next c bs)

unfoldable pub after_lines : ℕ → ℕ → List ℕ → List ℕ
after_lines c zero bs = bs
after_lines c (suc k) bs = after_lines c k (next c bs)

unfoldable pub term_count : List ℕ → ℕ
term_count bs = slice_index (words 1 bs) 0

unfoldable pub polynomial : ℕ → List ℕ → List Term
polynomial n bs = terms (n + 1) (term_count bs) (next 1 bs)

unfoldable pub after : ℕ → List ℕ → List ℕ
after n bs = after_lines (n + 1) (term_count bs) (next 1 bs)

unfoldable pub polynomials : ℕ → ℕ → List ℕ → List (List Term)
polynomials n zero bs = []
polynomials n (suc k) bs = polynomial n bs ∷ polynomials n k (after n bs)

unfoldable pub after_all : ℕ → ℕ → List ℕ → List ℕ
after_all n zero bs = bs
after_all n (suc k) bs = after_all n k (after n bs)

unfoldable pub lines_all : ℕ → ℕ → List ℕ → ℕ
lines_all n zero bs = 0
lines_all n (suc k) bs = 1 + term_count bs + lines_all n k (after n bs)
