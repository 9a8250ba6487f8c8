-- How a basis text is written, and what Fill makes of whole texts.
--   exponents n t               the exponents of the first n variables of the monomial t
--   term_line n t               the line of a term: its coefficient, then n exponents
--   polynomial_text n p         the line with the number of terms, then a line for each term
--   basis_text f o n ps         the header with the field code f, the order code o, n and the number of polynomials, then the polynomials
--   field_code, order_code bs   the codes in the header of a text
--   WrittenText n bytes out    the bytes are the basis text of the polynomials that they hold and something left, and out is its length
--   TextsWritten               a text that Fill accepts is the basis text of the polynomials that it enters, as long as Fill answers
--   ReadBack m laws cmp j f o rest   Fill, of a new job, accepts the basis text of the polynomials of j, whatever follows it; it answers its length
--                               and enters those polynomials
--   TextsReadBack             so it is for a sound job whose coefficients are words, and codes that are
--   enterings ps                the events of an accepted Enter for each of the polynomials
--   TextsEnter                 an accepted Fill does what Enter does for each polynomial of the text, one after the other, all of them accepted
-- Used by: the writer of texts, and its round trips. It says in whole texts what Fill reads line by line.
use Rattle.std.specs.Prelude.{◌≡◌, ℕ, ◌≤◌, List, [], ◌∷◌, ◌++◌, map, length, slice_index}
use Rattle.std.specs.List.{flat_map, AllByRecursion}
use Rattle.column.specs.Column.{Word}
use Rattle.column.specs.Line.{line}
use Rattle.field.specs.Meaning.{FieldMeaning, FieldLaws}
use Rattle.order.specs.declared.monomial.Monomial.{Monomial}
use Rattle.order.specs.Monomials.{variables, exponent}
use Rattle.order.specs.Laws.{Comparison}
use Rattle.algebra.specs.Lists.{build}
use Rattle.runs.specs.Job.{Term, Job, new}
use Rattle.runs.specs.Text.{words, text_polynomials}
use Rattle.runs.specs.Call.{enter, fill, accepted, Answers, after}
use Rattle.runs.specs.Run.{Event, event, ends, Follows}
use Rattle.runs.specs.Sound.{Sound}

abbrev pub exponents : ℕ → Monomial → List ℕ
exponents n t = build n (exponent t)

abbrev pub term_line : ℕ → Term → List ℕ
term_line n t = line (t.0 ∷ exponents n t.1)

abbrev pub polynomial_text : ℕ → List Term → List ℕ
polynomial_text n p = line (length p ∷ []) ++ flat_map (term_line n) p

abbrev pub basis_text : ℕ → ℕ → ℕ → List (List Term) → List ℕ
basis_text f o n ps = line (f ∷ o ∷ n ∷ length ps ∷ []) ++ flat_map (polynomial_text n) ps

abbrev pub field_code : List ℕ → ℕ
field_code bs = slice_index (words 4 bs) 0

abbrev pub order_code : List ℕ → ℕ
order_code bs = slice_index (words 4 bs) 1

pub record WrittenText (n : ℕ) (bytes out : List ℕ) : Type 0 where
  pub left : List ℕ
  pub text : bytes ≡ basis_text (field_code bytes) (order_code bytes) n (text_polynomials n bytes) ++ left
  pub size : out ≡ length (basis_text (field_code bytes) (order_code bytes) n (text_polynomials n bytes)) ∷ []

abbrev pub TextsWritten : Type 0
TextsWritten = (m : FieldMeaning) (laws : FieldLaws m) (cmp : Comparison) (j : Job) → j.n ≤ variables → (bytes out : List ℕ) → Answers m laws cmp j (fill bytes) (accepted out) → WrittenText j.n bytes out

pub record ReadBack (m : FieldMeaning) (laws : FieldLaws m) (cmp : Comparison) (j : Job) (f o : ℕ) (rest : List ℕ) : Type 0 where
  pub answers : Answers m laws cmp (new j.n) (fill (basis_text f o j.n j.polynomials ++ rest)) (accepted (length (basis_text f o j.n j.polynomials) ∷ []))
  pub enters : text_polynomials j.n (basis_text f o j.n j.polynomials ++ rest) ≡ j.polynomials

abbrev pub TextsReadBack : Type 0
TextsReadBack = (m : FieldMeaning) (laws : FieldLaws m) (cmp : Comparison) (j : Job) → Sound m laws cmp j → AllByRecursion (AllByRecursion (λ t. Word t.0)) j.polynomials
    → (f o : ℕ) → Word f → Word o → (rest : List ℕ) → ReadBack m laws cmp j f o rest

abbrev pub enterings : List (List Term) → List Event
enterings ps = map (λ (p : List Term). event (enter p) (accepted [])) ps

abbrev pub TextsEnter : Type 0
TextsEnter = (m : FieldMeaning) (laws : FieldLaws m) (cmp : Comparison) (j : Job) (bytes out : List ℕ) → Answers m laws cmp j (fill bytes) (accepted out)
    → Follows m laws cmp j (enterings (text_polynomials j.n bytes)) × (ends j (enterings (text_polynomials j.n bytes)) ≡ after j (fill bytes) (accepted out))
