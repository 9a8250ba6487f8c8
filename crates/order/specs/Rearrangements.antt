-- Rearrangements of the variables, and monomials with their exponents moved.
--   place s k            the number, from 1, of the place that s names for the variable of index k; 0 past the last variable
--   rearrangement f      the rearrangement that names the places f 0, f 1, ..
--   in_range p           whether p is the number of a place
--   fresh s k            whether the place of the variable of index k differs from those of the variables before
--   rearranges s         whether s is a rearrangement: every place is in range, and no two are the same
--   arriving n s m p     the exponent in m of the variable, among the first n, that goes to place p; 0 where none does
--   moved s m            the monomial m with each exponent moved to the place that s names for it
--   reversal n           variables 1 to n in reverse, and the rest stay; for n of 1 to 4
-- In Claims: Moves, that exponent i arrives at the place named for i, and Reverses, that a reversal is a rearrangement.
use Rattle.std.specs.Prelude.{ℕ, zero, suc, ◌-◌, Bool, cond, not, ◌&&◌, Some, None, Option, ◌==◌, nat_le, nat_lt}
use Rattle.order.specs.declared.monomial.Monomial.{Monomial}
use Rattle.order.specs.declared.rearrangement.Rearrangement.{Rearrangement}
use Rattle.order.specs.Monomials.{variables, exponent, monomial, every}

unfoldable pub place : Rearrangement → ℕ → ℕ
place s k = cond (k == 0) s.first (cond (k == 1) s.second (cond (k == 2) s.third (cond (k == 3) s.fourth 0)))

unfoldable pub rearrangement : (ℕ → ℕ) → Rearrangement
rearrangement f = record { first = f 0; second = f 1; third = f 2; fourth = f 3 }

unfoldable pub fresh : Rearrangement → ℕ → Bool
fresh s k = every k (λ j. not (place s j == place s k))

abbrev pub in_range : ℕ → Bool
in_range p = nat_le 1 p && nat_le p variables

unfoldable pub rearranges : Rearrangement → Bool
rearranges s = every variables (λ k. fresh s k && in_range (place s k))

unfoldable pub arriving : ℕ → Rearrangement → Monomial → ℕ → ℕ
arriving zero s m p = 0
arriving (suc n) s m p = cond (place s n == p) (exponent m n) (arriving n s m p)

unfoldable pub moved : Rearrangement → Monomial → Monomial
moved s m = monomial (λ j. arriving variables s m (suc j))

unfoldable pub reversal : ℕ → Option Rearrangement
reversal n = cond (nat_le 1 n && nat_le n variables) (Some (rearrangement (λ k. cond (nat_lt k n) (n - k) (suc k)))) None
