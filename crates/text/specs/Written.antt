-- How a basis text stands in the bytes that a caller lends, and that it reads back.
--   Wrote short text old new r               there is room: r is the length of the text, which stands at the front of new, the bytes after it being as they
--                                            were; or there is none, r is the fault short, and new is as it was
--   ReadsBack m laws cmp j written size     Fill, of a new job of as many variables as j, whatever follows the bytes written, accepts them, answers size
--                                            and enters the polynomials of j
--   Words p                                  the coefficients of p are words
--   AllWords ps                             those of each of ps are
--   term_words n t                           the words of the line of the term t: its coefficient, then n exponents
--   sizes size xs                            the sizes of the members of xs together
--   term_size n t                            how many bytes the line of the term t has
--   terms_size n p                           how many bytes the lines of the terms of p have
--   polynomial_size n p                      how many bytes the text of p has
--   text_size n ps                           how many bytes the basis text of ps has
-- Used by: Write; all but Wrote and ReadsBack are inner.
use Rattle.std.specs.Prelude.{◌≡◌, ℕ, suc, ◌+◌, ◌*◌, ◌<◌, List, [], ◌∷◌, ◌++◌, length, drop, Ok, Err, Result}
use Rattle.std.specs.List.{AllByRecursion}
use Rattle.column.specs.Column.{Word}
use Rattle.column.specs.Line.{line_length}
use Rattle.field.specs.Meaning.{FieldMeaning, FieldLaws}
use Rattle.order.specs.Laws.{Comparison}
use Rattle.runs.specs.Job.{Term, Job, new}
use Rattle.runs.specs.Text.{text_polynomials}
use Rattle.runs.specs.Call.{fill, accepted, Answers}
use Rattle.runs.specs.Writing.{exponents}

abbrev pub Wrote : {E : Type 0} → E → List ℕ → List ℕ → List ℕ → Result ℕ E → Type 0
Wrote short text old new (Ok size) = (size ≡ length text) × (new ≡ text ++ drop size old)
Wrote short text old new (Err f) = (f ≡ short) × (length old < length text) × (new ≡ old)

pub record ReadsBack (m : FieldMeaning) (laws : FieldLaws m) (cmp : Comparison) (j : Job) (written : List ℕ) (size : ℕ) : Type 0 where
  pub answers : (rest : List ℕ) → Answers m laws cmp (new j.n) (fill (written ++ rest)) (accepted (size ∷ []))
  pub enters : (rest : List ℕ) → text_polynomials j.n (written ++ rest) ≡ j.polynomials

abbrev pub Words : List Term → Type 0
Words p = AllByRecursion (λ t. Word t.0) p

abbrev pub AllWords : List (List Term) → Type 0
AllWords ps = AllByRecursion Words ps

abbrev pub term_words : ℕ → Term → List ℕ
term_words n t = t.0 ∷ exponents n t.1

abbrev pub sizes : {X : Type 0} → (X → ℕ) → List X → ℕ
sizes size [] = 0
sizes size (x ∷ xs) = size x + sizes size xs

abbrev pub term_size : ℕ → Term → ℕ
term_size n t = line_length (suc n)

abbrev pub terms_size : ℕ → List Term → ℕ
terms_size n p = length p * line_length (suc n)

abbrev pub polynomial_size : ℕ → List Term → ℕ
polynomial_size n p = 12 + terms_size n p

abbrev pub text_size : ℕ → List (List Term) → ℕ
text_size n ps = 45 + sizes (polynomial_size n) ps
