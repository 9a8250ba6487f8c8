-- What the first bytes of a column come to, byte by byte. Inner: the loop of read_column cites it, and no public contract.
--   digit b       the decimal digit that b is, if it is one
--   longer n b    the number that the byte b makes after the digits of n, if a column goes on so
--   step o b      what the bytes come to with one more: o is their number, or None where they are blanks; None is the answer where no column goes on so
--   then f b      the same after bytes of which a column may not go on
--   front bs      what the bytes come to
--   found f       the number, if there is one
-- Theorem, in Fronts: front bs is the number w exactly where bs is blanks and then the digits of w.
use Rattle.std.specs.Prelude.{ℕ, ◌+◌, ◌-◌, ◌*◌, cond, ◌&&◌, List, Some, None, fold, option_and_then, Option, ◌==◌, nat_le, nat_lt}
use Rattle.std.specs.Bool.{then_some}
use Rattle.std.specs.Option.{option_map}

abbrev pub digit : ℕ → Option ℕ
digit b = then_some (nat_le 48 b && nat_le b 57) (b - 48)

abbrev pub longer : ℕ → ℕ → Option ℕ
longer n b = then_some (nat_le 48 b && nat_le b 57 && nat_lt 0 n && nat_le (n * 10 + (b - 48)) 4294967295) (n * 10 + (b - 48))

abbrev pub step : Option ℕ → ℕ → Option (Option ℕ)
step None b = cond (b == 32) (Some None) (option_map Some (digit b))
step (Some n) b = option_map Some (longer n b)

abbrev pub then : Option (Option ℕ) → ℕ → Option (Option ℕ)
then f b = option_and_then (λ o. step o b) f

abbrev pub front : List ℕ → Option (Option ℕ)
front bs = fold then (Some None) bs

abbrev pub found : Option (Option ℕ) → Option ℕ
found f = option_and_then (λ o. o) f
