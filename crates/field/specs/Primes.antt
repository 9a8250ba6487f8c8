-- The primes that a residue field may have.
--   primes     the list of them
--   among n l  n is in the list l
--   listed n   n is one of the primes
-- Used by: the invariant of Residue. That each is a prime is a computed test, in Primality.
use Rattle.std.specs.Prelude.{ℕ, Bool, false, ◌||◌, List, [], ◌∷◌, ◌==◌}

abbrev pub among : ℕ → List ℕ → Bool
among n [] = false
among n (x ∷ xs) = n == x || among n xs

abbrev pub primes : List ℕ
primes = 2 ∷ 3 ∷ 5 ∷ 7 ∷ 23 ∷ 251 ∷ 257 ∷ 32003 ∷ 65521 ∷ 2147483647 ∷ []

unfoldable pub listed : ℕ → Bool
listed n = among n primes
