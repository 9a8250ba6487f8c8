use Rattle.std.proofs.Common.{◌≡◌, ℕ, ◌<◌, ◌≤◌, length, get_or}
use Rattle.linear.proofs.elimination.rows.keep.Given as goal

abbrev pub invariant-loop-word : goal.invariant-loop-word
invariant-loop-word g l =
    ((j : ℕ) → j < l.word-index → get_or l.front j 0 ≡ (g.F.Field.meaning l.field).mul l.q (get_or l.words j 0))
    × ((j : ℕ) → l.word-index ≤ j → j < length l.front → get_or l.front j 0 ≡ get_or l.words j 0)
