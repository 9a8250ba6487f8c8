use Rattle.std.proofs.Common.{◌≡◌, ℕ, ◌+◌, ◌<◌, ◌≤◌, length, get_or}
use Rattle.linear.proofs.elimination.rows.opposites.Given as goal

abbrev pub invariant-loop-word : goal.invariant-loop-word
invariant-loop-word g l =
    ((j : ℕ) → j < l.word-index → get_or l.out j 0 ≡ (g.F.Field.meaning l.field).neg (get_or l.row (l.start + j) 0))
    × ((j : ℕ) → l.word-index ≤ j → j < length l.out → get_or l.out j 0 ≡ get_or l.row (l.start + j) 0)
