-- What a job holds.
--   Term               a coefficient, by its word, and a monomial
--   Stage              a job is open until an accepted Close, then closed
--   Job                the number n of variables, the polynomials entered, first to last, and the stage
--   new n              a new job of n variables; a place that was never opened is new 1
--   holding j ps       the job j with the polynomials ps entered after those it holds
--   shut j             the job j, closed
--   terms_held ps      how many terms the polynomials have together
--   coefficient_at, monomial_at p i     the coefficient and the monomial of the term at place i of the polynomial p
--   most_polynomials, most_terms        how many polynomials a job holds at most, and how many terms together
--   most_exponent, most_stairs          the largest exponent of a term, and the largest number of staircase monomials
-- Used by: every call. Its field and its order are no part of it: no call changes them.
use Rattle.std.specs.Prelude.{ℕ, ◌+◌, List, [], ◌∷◌, ◌++◌, length, slice_index_or}
use Rattle.order.specs.declared.monomial.Monomial.{Monomial}
use Rattle.order.specs.Monomials.{one}

abbrev pub Term : Type 0
Term = ℕ × Monomial

pub data Stage : Type 0 where
  opened closed : Stage

pub record Job : Type 0 where
  pub n : ℕ
  pub polynomials : List (List Term)
  pub stage : Stage

abbrev pub new : ℕ → Job
new n = record { n = n; polynomials = []; stage = opened }

abbrev pub holding : Job → List (List Term) → Job
holding j ps = record { n = j.n; polynomials = j.polynomials ++ ps; stage = j.stage }

abbrev pub shut : Job → Job
shut j = record { n = j.n; polynomials = j.polynomials; stage = closed }

abbrev pub terms_held : List (List Term) → ℕ
terms_held [] = 0
terms_held (p ∷ ps) = length p + terms_held ps

abbrev pub coefficient_at : List Term → ℕ → ℕ
coefficient_at p i = (slice_index_or p i (0, one)).0

abbrev pub monomial_at : List Term → ℕ → Monomial
monomial_at p i = (slice_index_or p i (0, one)).1

abbrev pub most_polynomials : ℕ
most_polynomials = 48

abbrev pub most_terms : ℕ
most_terms = 1024

abbrev pub most_exponent : ℕ
most_exponent = 48

abbrev pub most_stairs : ℕ
most_stairs = 48
