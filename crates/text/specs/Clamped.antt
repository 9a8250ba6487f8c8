-- Terms whose exponents fit a record of the code.
--   clamped_exponent e    e, or the largest exponent of a record where e passes it
--   clamped t             the term t with each exponent clamped
--   clamped_terms p       each term of p clamped
-- Used by: the reader of term lines. A line may hold an exponent that no record holds; both it and the largest of a record are out of range, so
-- that the questions put to the terms are answered as they are for the clamped ones. Theorems: in the proofs, Clamping.
use Rattle.std.specs.Prelude.{ℕ, min, List, map}
use Rattle.order.specs.Monomials.{largest, exponent, monomial}
use Rattle.runs.specs.Job.{Term}

abbrev pub clamped_exponent : ℕ → ℕ
clamped_exponent e = min e largest

abbrev pub clamped : Term → Term
clamped t = (t.0, monomial (λ k. clamped_exponent (exponent t.1 k)))

abbrev pub clamped_terms : List Term → List Term
clamped_terms p = map clamped p
