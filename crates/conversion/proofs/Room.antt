-- An echelon has room for an elimination.
use Rattle.std.proofs.Common.{◌≡◌, ℕ, ◌+◌, ◌-◌, ◌*◌, ◌≤◌, true, arith}
use Rattle.std.proofs.lemmas.Bool.{le-leb, and_from}
use Rattle.linear.specs.Elimination.{pitch, roomy, fits}

pub is_roomy : (d n rows : ℕ) → d + n ≤ pitch → n ≤ rows → roomy d n rows ≡ true
is_roomy d n rows a b = and_from _ _ (and_from _ _ (le-leb d pitch (omega arith)) (le-leb n (pitch - d) (omega arith))) (le-leb n rows b)

pub it_fits : (d n stride s rows : ℕ) → d + n ≤ pitch → n ≤ rows → stride ≤ pitch → n * stride - stride + d ≤ s → fits d n stride s rows ≡ true
it_fits d n stride s rows a b c e = and_from _ _ (is_roomy d n rows a b) (and_from _ _ (le-leb stride pitch c) (le-leb (n * stride - stride + d) s e))
