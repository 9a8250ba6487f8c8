-- One number in eleven bytes.
--   Word w             w is a number that a column can hold: at most 4294967295
--   column w           blanks, then the decimal digits of w: eleven bytes
--   Reads bs o         o is the number whose column bs is, or None where bs is the column of no number
--   shown_after n bs   the number that the digits of bs write after those of n, a blank in front counting as nothing
--   shown bs           the number that the digits of bs write: the only one whose column bs can be
--   reading bs         the number whose column bs is, if there is one
-- Used by: read_column, write_column, and lines. Theorems: in Laws.
use Rattle.std.specs.Prelude.{◌≡◌, ℕ, ◌+◌, ◌-◌, ◌*◌, ◌≤◌, ◌&&◌, List, [], ◌∷◌, ◌++◌, length, replicate, Some, None, decimal, Option, ◌≢◌, nat_le}
use Rattle.std.specs.Bool.{then_some}
use Rattle.std.specs.Str.{bytes_eq}

abbrev pub Word : ℕ → Type 0
Word w = w ≤ 4294967295

unfoldable pub column : ℕ → List ℕ
column w = replicate (11 - length (decimal w)) 32 ++ decimal w

abbrev pub Reads : List ℕ → Option ℕ → Type 0
Reads bs (Some w) = (bs ≡ column w) × Word w
Reads bs None = (w : ℕ) → Word w → bs ≢ column w

abbrev pub shown_after : ℕ → List ℕ → ℕ
shown_after n [] = n
shown_after n (b ∷ bs) = shown_after (n * 10 + (b - 48)) bs

abbrev pub shown : List ℕ → ℕ
shown bs = shown_after 0 bs

unfoldable pub reading : List ℕ → Option ℕ
reading bs = then_some (bytes_eq bs (column (shown bs)) && nat_le (shown bs) 4294967295) (shown bs)
