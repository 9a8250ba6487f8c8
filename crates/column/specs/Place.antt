-- Bytes written at a place of a buffer.
--   room out at ys     the buffer has room for ys from the place at on
--   put out at ys      the buffer with ys at the place at, every other byte as it was
--   placed out at ys   the same where there is room, otherwise the buffer as it was
--   after out at ys    the place after ys, or None where there is no room
-- Used by: write_column and write_line.
use Rattle.std.specs.Prelude.{ℕ, ◌+◌, Bool, cond, List, ◌++◌, length, take, drop, Option, nat_le}
use Rattle.std.specs.Bool.{then_some}

abbrev pub room : List ℕ → ℕ → List ℕ → Bool
room out at ys = nat_le (at + length ys) (length out)

unfoldable pub put : List ℕ → ℕ → List ℕ → List ℕ
put out at ys = take at out ++ (ys ++ drop (at + length ys) out)

abbrev pub placed : List ℕ → ℕ → List ℕ → List ℕ
placed out at ys = cond (room out at ys) (put out at ys) out

abbrev pub after : List ℕ → ℕ → List ℕ → Option ℕ
after out at ys = then_some (room out at ys) (at + length ys)
