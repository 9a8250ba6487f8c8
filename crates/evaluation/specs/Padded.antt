-- Words of a line in an array of five.
--   padded c ws     the c words ws, and zeros behind them up to five
--   terms_of s      the terms of the lines that s has left
--   terms_left s    the same, each padded
-- Used by: the walk over terms. Inner: no public contract cites it.
use Rattle.std.specs.Prelude.{ℕ, ◌+◌, ◌-◌, List, ◌++◌, map, drop, replicate}
use Rattle.evaluation.specs.Basis.{terms}
use Rattle.evaluation.specs.Evaluation.{Term}
use Rattle.evaluation.specs.declared.terms.Terms.{Terms}

abbrev pub padded : ℕ → List ℕ → List ℕ
padded c ws = ws ++ replicate (5 - c) 0

abbrev pub terms_of : Terms → List Term
terms_of s = terms (s.n + 1) s.left (drop s.lines.at s.lines.text.now)

abbrev pub terms_left : Terms → List (List ℕ)
terms_left s = map (padded (s.n + 1)) (terms_of s)
