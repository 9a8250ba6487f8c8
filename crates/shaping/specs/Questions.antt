-- What a text and its request hold, and the questions that they are asked, in their order. `bs` is the whole input.
--   most_bytes              how many bytes an input has at most
--   most_words              room for the words of every basis: four rows of as many words as a staircase has monomials at most
--   field_by c              the field with the code c: bytes for 0, otherwise the residues modulo c
--   reversed cmp n          the order cmp with the variables 1 to n reversed, where n is from 1 to 4
--   order_by o n            the order with the code o: DRL, LEX, and the same two reversed
--   in_line l qs            the questions qs, a no to which is about line l
--   residue_asks c          the questions 1 and 2, of the residues modulo c
--   field_asks c            those of the field with the code c: bytes are asked nothing
--   code_asks o n           the questions of the order code o and the number n of variables
--   header_asks bs          the questions before the basis: the length, the first line, the field, the order code and the number of variables
--   job_of n bs             the job of n variables that holds the polynomials of the basis text
--   request n bs            what follows the basis text: a line of the variable and the number of words, then a line for each word
--   request_line n bs       the number of its first line: one more than there are bytes 10 before it
--   variable qs             the number of the variable that the request qs asks for
--   count qs                how many words it has
--   column c qs             the words of c lines of one word each
--   vector qs               the words of the request
--   request_asks l n d qs   the questions of the request qs, whose first line is line l, for n variables and d words: that line, 20 and 21, the lines of the words, and 30
--   basis_asks              all questions of a basis text and a request, over a field and an order
-- Some questions come where they can only get a yes: 26 and 27 of line 1, 20 and 21 the second time, and 28, 29, 5, 19 and 23.
-- Used by: the answer of the program.
use Rattle.std.specs.Prelude.{◌≡◌, ℕ, zero, suc, ◌≤◌, cond, T, List, [], ◌∷◌, ◌++◌, map, length, take, drop, Some, None, ◌==◌, slice_index}
use Rattle.std.specs.List.{count_by}
use Rattle.field.specs.Meaning.{FieldMeaning, FieldLaws, total}
use Rattle.field.specs.Bytes.{bytes}
use Rattle.field.specs.Residues.{residues}
use Rattle.field.specs.Primes.{listed}
use Rattle.order.specs.Laws.{Comparison}
use Rattle.order.specs.Orders.{drl, lex}
use Rattle.order.specs.Renumberings.{renumbers}
use Rattle.order.specs.Rearrangements.{reversal}
use Rattle.runs.specs.Question.{Question, single}
use Rattle.runs.specs.Job.{Job, new, holding, shut}
use Rattle.runs.specs.Text.{words, next, past_terms, text_polynomials, text_length, header_n, line_asks, lines_asks, fill_asks}
use Rattle.runs.specs.Writing.{field_code, order_code}
use Rattle.runs.specs.Run.{open_asks}
use Rattle.runs.specs.Generators.{D}
use Rattle.runs.specs.Close.{close_asks}
use Rattle.runs.specs.Convert.{convert_asks}

abbrev pub most_bytes : ℕ
most_bytes = 8192

abbrev pub most_words : ℕ
most_words = 192

abbrev pub field_by : ℕ → FieldMeaning
field_by c = cond (c == 0) (total bytes) (total (residues c))

abbrev pub reversed : Comparison → ℕ → Comparison
reversed cmp n = elim (reversal n) [ Some s ↦ renumbers cmp s | None ↦ cmp ]

abbrev pub order_by : ℕ → ℕ → Comparison
order_by o n = cond (o == 1) drl (cond (o == 2) lex (cond (o == 3) (reversed drl n) (reversed lex n)))

abbrev pub in_line : ℕ → List Question → List Question
in_line l qs = map (λ q. record { number = q.number; line = l; yes = q.yes; place = q.place }) qs

abbrev pub residue_asks : ℕ → List Question
residue_asks c = single 1 1 ((2 ≤ c) × (c ≤ 2147483647)) ∷ single 2 1 (T (listed c)) ∷ []

abbrev pub field_asks : ℕ → List Question
field_asks c = cond (c == 0) [] (residue_asks c)

abbrev pub code_asks : ℕ → ℕ → List Question
code_asks o n = single 31 1 ((1 ≤ o) × (o ≤ 4)) ∷ in_line 1 (open_asks n)

abbrev pub header_asks : List ℕ → List Question
header_asks bs =
    single 32 0 (length bs ≤ most_bytes)
    ∷ (line_asks 1 4 bs
    ++ (field_asks (field_code bs)
    ++ code_asks (order_code bs) (header_n bs)))

abbrev pub job_of : ℕ → List ℕ → Job
job_of n bs = holding (new n) (text_polynomials n bs)

abbrev pub request : ℕ → List ℕ → List ℕ
request n bs = drop (text_length n bs) bs

abbrev pub request_line : ℕ → List ℕ → ℕ
request_line n bs = suc (count_by (λ b. b == 10) (take (text_length n bs) bs))

abbrev pub variable : List ℕ → ℕ
variable qs = slice_index (words 2 qs) 0

abbrev pub count : List ℕ → ℕ
count qs = slice_index (words 2 qs) 1

abbrev pub column : ℕ → List ℕ → List ℕ
column zero qs = []
column (suc c) qs = slice_index (words 1 qs) 0 ∷ column c (next 1 qs)

abbrev pub vector : List ℕ → List ℕ
vector qs = column (count qs) (next 2 qs)

abbrev pub request_asks : ℕ → ℕ → ℕ → List ℕ → List Question
request_asks l n d qs =
    line_asks l 2 qs
    ++ (single 20 l ((1 ≤ variable qs) × (variable qs ≤ n))
    ∷ single 21 l (count qs ≡ d)
    ∷ (lines_asks (suc l) 1 (count qs) (next 2 qs)
    ++ (single 30 0 (past_terms 1 (count qs) (next 2 qs) ≡ []) ∷ [])))

abbrev pub basis_asks : (m : FieldMeaning) → FieldLaws m → Comparison → ℕ → List ℕ → List Question
basis_asks m laws cmp n bs =
    fill_asks m cmp (new n) bs
    ++ (close_asks m laws cmp (job_of n bs)
    ++ (request_asks (request_line n bs) n (D m laws cmp n (text_polynomials n bs)) (request n bs)
    ++ in_line (request_line n bs) (convert_asks m laws cmp (shut (job_of n bs)) (variable (request n bs)) (vector (request n bs)) most_words)))
