-- The questions put to the terms of a polynomial p, each by itself.
--   elements_ask m line p      9: is each coefficient an element
--   nonzero_ask m line p       9: is each coefficient an element other than zero
--   exponents_ask n line p     10: are the exponents at most the largest, and 0 past variable n
--   falling_ask cmp line p     11: is each term less than the one before it
--   monic_ask m line p         12: is the first coefficient one
-- Used by: the functions that put them. Enter asks the last four, Reduce the first and 10.
use Rattle.std.specs.Prelude.{◌≡◌, ℕ, T, ◌≢◌, List, length}
use Rattle.field.specs.Meaning.{FieldMeaning}
use Rattle.order.specs.Laws.{Comparison}
use Rattle.runs.specs.Question.{Question, single, each}
use Rattle.runs.specs.Job.{Term, coefficient_at, monomial_at}
use Rattle.runs.specs.Enter.{InRange, Falls}

abbrev pub elements_ask : FieldMeaning → ℕ → List Term → Question
elements_ask m line p = each 9 line (length p) (λ i. T (m.elem (coefficient_at p i)))

abbrev pub nonzero_ask : FieldMeaning → ℕ → List Term → Question
nonzero_ask m line p = each 9 line (length p) (λ i. T (m.elem (coefficient_at p i)) × (coefficient_at p i ≢ m.zero))

abbrev pub exponents_ask : ℕ → ℕ → List Term → Question
exponents_ask n line p = each 10 line (length p) (λ i. InRange n (monomial_at p i))

abbrev pub falling_ask : Comparison → ℕ → List Term → Question
falling_ask cmp line p = each 11 line (length p) (Falls cmp p)

abbrev pub monic_ask : FieldMeaning → ℕ → List Term → Question
monic_ask m line p = single 12 line (coefficient_at p 0 ≡ m.one)
