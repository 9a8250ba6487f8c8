-- What the program refuses: number, layer, line and place.
--   number_of e    the number of the refusal
--   layer_at k     the layer of the number k: 1 field, 2 job, 3 text, 4 program
--   line_of e      the line of the text that the refusal is about, 0 where it is about none
--   place_of e     the term, word or line that the refusal names, otherwise 0
--   report_of e    the four numbers that a refusal prints: number, layer, line, place
-- Used by: the answer of the program, and ProbeFault::report.
use Rattle.std.specs.Prelude.{ℕ, cond, List, [], ◌∷◌, nat_le}
use Rattle.column.specs.declared.line.LineFault.TheVariants.{WrongLength, NotANumber}
use Rattle.field.specs.Faults as field
use Rattle.evaluation.specs.declared.fault.ProbeFault.{ProbeFault}
use Rattle.evaluation.specs.declared.fault.ProbeFault.TheVariants.{TooLong, Line, Field, OrderCode, Variables, NoTerm, Coefficient, Exponent, Point, NotOver}

abbrev pub number_of : ProbeFault → ℕ
number_of TooLong = 32
number_of (Line WrongLength l) = 26
number_of (Line NotANumber l) = 27
number_of (Field e) = field.number_of e
number_of OrderCode = 31
number_of Variables = 4
number_of (NoTerm l) = 7
number_of (Coefficient l t) = 9
number_of (Exponent l t) = 10
number_of (Point l w) = 22
number_of NotOver = 30

abbrev pub layer_at : ℕ → ℕ
layer_at k = cond (nat_le k 2) 1 (cond (nat_le k 25) 2 (cond (nat_le k 29) 3 4))

abbrev pub line_of : ProbeFault → ℕ
line_of TooLong = 0
line_of (Line e l) = l
line_of (Field e) = 1
line_of OrderCode = 1
line_of Variables = 1
line_of (NoTerm l) = l
line_of (Coefficient l t) = l
line_of (Exponent l t) = l
line_of (Point l w) = l
line_of NotOver = 0

abbrev pub place_of : ProbeFault → ℕ
place_of TooLong = 0
place_of (Line e l) = l
place_of (Field e) = field.place_of e
place_of OrderCode = 0
place_of Variables = 0
place_of (NoTerm l) = 0
place_of (Coefficient l t) = t
place_of (Exponent l t) = t
place_of (Point l w) = w
place_of NotOver = 0

abbrev pub report_of : ProbeFault → List ℕ
report_of e = number_of e ∷ layer_at (number_of e) ∷ line_of e ∷ place_of e ∷ []
