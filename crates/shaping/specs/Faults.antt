-- What the program refuses: number, layer, line and place.
--   number_of e      the number of the refusal
--   layer_at k       the layer of the number k: 1 field, 2 job, 3 text, 4 program
--   line_of e        the line of the text that the refusal is about, 0 where it is about none
--   place_of e       the place that the refusal names, otherwise 0
--   refusal          the line of a refusal: number, layer, line, place
-- Used by: the answer of the program, and the methods of ShapeFault.
use Rattle.std.specs.Prelude.{ℕ, cond, List, [], ◌∷◌, nat_le}
use Rattle.column.specs.Line.{line}
use Rattle.field.specs.Faults as field
use Rattle.text.specs.Faults as text
use Rattle.shaping.specs.declared.fault.ShapeFault.{ShapeFault}
use Rattle.shaping.specs.declared.fault.ShapeFault.TheVariants.{TooLong, Field, OrderCode, Text, NotOver}

abbrev pub number_of : ShapeFault → ℕ
number_of TooLong = 32
number_of (Field e) = field.number_of e
number_of OrderCode = 31
number_of (Text e) = text.number_of e
number_of NotOver = 30

abbrev pub layer_at : ℕ → ℕ
layer_at k = cond (nat_le k 2) 1 (cond (nat_le k 25) 2 (cond (nat_le k 29) 3 4))

abbrev pub line_of : ShapeFault → ℕ
line_of TooLong = 0
line_of (Field e) = 1
line_of OrderCode = 1
line_of (Text e) = text.line_of e
line_of NotOver = 0

abbrev pub place_of : ShapeFault → ℕ
place_of TooLong = 0
place_of (Field e) = field.place_of e
place_of OrderCode = 0
place_of (Text e) = text.place_of e
place_of NotOver = 0

abbrev pub refusal : ℕ → ℕ → ℕ → List ℕ
refusal number l place = line (number ∷ layer_at number ∷ l ∷ place ∷ [])
