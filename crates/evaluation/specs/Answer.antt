-- The answer of the program to every text: the values of the polynomials at the point, or the first question that gets a no.
--   Refusal             none where a question gets a yes, otherwise the fault that it gives
--   then q r            the question q, and r where q gets a yes
--   at_place f o        the fault f at a place, if there is one
--   first_no t xs       the place, from 1, of the first of xs that fails the test t; first_no_from counts from another number
--   unread r l          the fault of line l, by what reading it gave
--   asks_line           does the line of c columns read, being line l
--   asks_lines          do k lines of c columns read, the first of them being line l
--   coefficient_stands  the coefficient of a term is an element other than zero
--   exponents_stand     the first n exponents of a term are at most 48
--   asks_terms          the questions of the terms of a polynomial whose count stands in line l
--   asks_polynomial     the questions of one polynomial, whose first line is line l
--   asks_polynomials    those of k polynomials, one after the other
--   asks_point          does the line of the point read, and is each of its words an element
--   asks_over           is the text over
--   asks_basis          the questions of the polynomials, the point and the end
--   outcome_over        the answer over the field m: values or a fault
--   one_to_four w       w is from 1 to 4
--   outcome_with        the same, the order code and the number of variables asked first
--   outcome_by          the same, the field found by its code first
--   outcome_from        the same, by what reading the header gave
--   outcome             the answer to a whole text: values or a fault
--   value_lines vs      a line for each of the values vs
--   printed o           a line for each value, or the line of the refusal
--   answer              the bytes that the program prints
-- The order of the questions is the order of the lines below.
use Rattle.std.specs.Prelude.{ℕ, zero, suc, ◌+◌, Bool, true, cond, ◌&&◌, List, [], ◌∷◌, map, length, Some, None, Ok, Err, Option, Result, ◌==◌, nat_le, slice_index}
use Rattle.std.specs.List.{flat_map}
use Rattle.column.specs.declared.line.LineFault.{LineFault}
use Rattle.column.specs.Line.{line, reading_line}
use Rattle.field.specs.Meaning.{FieldMeaning, total, nonzero_element}
use Rattle.field.specs.Bytes.{bytes}
use Rattle.field.specs.Residues.{residues}
use Rattle.field.specs.Faults.{residue_of}
use Rattle.evaluation.specs.declared.fault.ProbeFault.{ProbeFault}
use Rattle.evaluation.specs.declared.fault.ProbeFault.TheVariants.{TooLong, Line, Field, OrderCode, Variables, NoTerm, Coefficient, Exponent, Point, NotOver}
use Rattle.evaluation.specs.Evaluation.{Term, value}
use Rattle.evaluation.specs.Faults.{report_of}
use Rattle.evaluation.specs.Basis.{words, next, term_count, polynomial, after, polynomials, after_all, lines_all}

abbrev pub Refusal : Type 0
Refusal = Option ProbeFault

-- the first question, and the second where the first gets a yes
abbrev pub then : Refusal → Refusal → Refusal
then None s = s
then (Some e) s = Some e

-- a fault about one place of many
abbrev pub at_place : (ℕ → ProbeFault) → Option ℕ → Refusal
at_place f None = None
at_place f (Some p) = Some (f p)

unfoldable pub first_no_from : {A : Type 0} → ℕ → (A → Bool) → List A → Option ℕ
first_no_from p t [] = None
first_no_from p t (x ∷ xs) = cond (t x) (first_no_from (p + 1) t xs) (Some p)

abbrev pub first_no : {A : Type 0} → (A → Bool) → List A → Option ℕ
first_no t xs = first_no_from 1 t xs

-- what reading line l gave
abbrev pub unread : Result (List ℕ) LineFault → ℕ → Refusal
unread (Ok ws) l = None
unread (Err e) l = Some (Line e l)

abbrev pub asks_line : ℕ → List ℕ → ℕ → Refusal
asks_line c bs l = unread (reading_line c bs) l

unfoldable pub asks_lines : ℕ → ℕ → List ℕ → ℕ → Refusal
asks_lines c zero bs l = None
asks_lines c (suc k) bs l = then (asks_line c bs l) (asks_lines c k (next c bs) (l + 1))

abbrev pub coefficient_stands : FieldMeaning → Term → Bool
coefficient_stands m t = nonzero_element m (slice_index t 0)

unfoldable pub exponents_stand : ℕ → Term → Bool
exponents_stand zero t = true
exponents_stand (suc i) t = exponents_stand i t && nat_le (slice_index t (suc i)) 48

unfoldable pub asks_terms : FieldMeaning → ℕ → List Term → ℕ → Refusal
asks_terms m n ts l = then (at_place (Coefficient l) (first_no (coefficient_stands m) ts)) (at_place (Exponent l) (first_no (exponents_stand n) ts))

unfoldable pub asks_polynomial : FieldMeaning → ℕ → List ℕ → ℕ → Refusal
asks_polynomial m n bs l =
    then (asks_line 1 bs l)
    (then (cond (term_count bs == 0) (Some (NoTerm l)) None)
    (then (asks_lines (n + 1) (term_count bs) (next 1 bs) (l + 1))
    (asks_terms m n (polynomial n bs) l)))

unfoldable pub asks_polynomials : FieldMeaning → ℕ → ℕ → List ℕ → ℕ → Refusal
asks_polynomials m n zero bs l = None
asks_polynomials m n (suc k) bs l = then (asks_polynomial m n bs l) (asks_polynomials m n k (after n bs) (l + (1 + term_count bs)))

unfoldable pub asks_point : FieldMeaning → ℕ → List ℕ → ℕ → Refusal
asks_point m n bs l = then (asks_line n bs l) (at_place (Point l) (first_no m.elem (words n bs)))

abbrev pub asks_over : List ℕ → Refusal
asks_over [] = None
asks_over (b ∷ bs) = Some NotOver

-- the values at the point x of k polynomials
abbrev pub values_at : FieldMeaning → ℕ → List ℕ → ℕ → List ℕ → List ℕ
values_at m n x k bs = map (value m n x) (polynomials n k bs)

-- of k polynomials in n variables, which begin with bs in line 2
module _ (m : FieldMeaning) (n k : ℕ) (bs : List ℕ) where
  abbrev pub asks_basis : Refusal
  asks_basis =
      then (asks_polynomials m n k bs 2)
      (then (asks_point m n (after_all n k bs) (2 + lines_all n k bs))
      (asks_over (next n (after_all n k bs))))

  abbrev pub values : List ℕ
  values = values_at m n (words n (after_all n k bs)) k bs

-- the answer where no question gets a no
abbrev pub unless : {A : Type 0} → Refusal → A → Result A ProbeFault
unless None v = Ok v
unless (Some e) v = Err e

unfoldable pub outcome_over : FieldMeaning → ℕ → ℕ → List ℕ → Result (List ℕ) ProbeFault
outcome_over m n k bs = unless (asks_basis m n k bs) (values m n k bs)

-- order codes and numbers of variables are from 1 to 4
abbrev pub one_to_four : ℕ → Bool
one_to_four w = nat_le 1 w && nat_le w 4

-- over the field m: the order code o, then the number n of variables, then the basis
unfoldable pub outcome_with : FieldMeaning → ℕ → ℕ → ℕ → List ℕ → Result (List ℕ) ProbeFault
outcome_with m o n k bs = cond (one_to_four o) (cond (one_to_four n) (outcome_over m n k bs) (Err Variables)) (Err OrderCode)

-- over the field with the code c: bytes for 0, otherwise the residues modulo c
unfoldable pub outcome_by : ℕ → ℕ → ℕ → ℕ → List ℕ → Result (List ℕ) ProbeFault
outcome_by c o n k bs = cond (c == 0) (outcome_with (total bytes) o n k bs) (elim (residue_of c) [ Ok p ↦ outcome_with (total (residues p)) o n k bs | Err e ↦ Err (Field e) ])

-- by what reading the header gave
abbrev pub outcome_from : Result (List ℕ) LineFault → List ℕ → Result (List ℕ) ProbeFault
outcome_from (Ok h) bs = outcome_by (slice_index h 0) (slice_index h 1) (slice_index h 2) (slice_index h 3) bs
outcome_from (Err e) bs = Err (Line e 1)

unfoldable pub outcome : List ℕ → Result (List ℕ) ProbeFault
outcome text = cond (nat_le (length text) 8192) (outcome_from (reading_line 4 text) (next 4 text)) (Err TooLong)

abbrev pub value_lines : List ℕ → List ℕ
value_lines vs = flat_map (λ v. line (v ∷ [])) vs

abbrev pub printed : Result (List ℕ) ProbeFault → List ℕ
printed (Ok vs) = value_lines vs
printed (Err e) = line (report_of e)

unfoldable pub answer : List ℕ → List ℕ
answer text = printed (outcome text)
