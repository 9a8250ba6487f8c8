-- Reduce: the combination of staircase monomials that a polynomial is congruent to.
--   Reduced m laws cmp n ps p out      the words out are D elements, whose combination of the staircase differs from p by a member of the ideal
--   reduce_asks m laws cmp j p room    the questions of Reduce with room for so many words
-- Used by: Reduce. That there is one such combination is a theorem: OneAnswer, in Whole.
use Rattle.std.specs.Prelude.{◌≡◌, ℕ, ◌≤◌, T, List, [], ◌∷◌, length}
use Rattle.field.specs.Meaning.{FieldMeaning, FieldLaws}
use Rattle.order.specs.Laws.{Comparison}
use Rattle.algebra.specs.Elements.{Elems, field_of, read}
use Rattle.algebra.specs.Polynomial.{combination}
use Rattle.algebra.specs.Ideal.{Congruent}
use Rattle.runs.specs.Question.{Question, single, each}
use Rattle.runs.specs.Job.{Term, Job, closed, coefficient_at, monomial_at}
use Rattle.runs.specs.Enter.{InRange}
use Rattle.runs.specs.Generators.{over_elements, generators, D, stair_at}

pub record Reduced (m : FieldMeaning) (laws : FieldLaws m) (cmp : Comparison) (n : ℕ) (ps : List (List Term)) (p : List Term) (out : List ℕ) : Type 0 where
  pub size : length out ≡ D m laws cmp n ps
  pub elements : Elems m out
  pub congruent : Congruent (field_of m laws) n (generators m laws n ps) (over_elements m laws n p) (combination (D m laws cmp n ps) (stair_at m laws cmp n ps) (read m laws out))

abbrev pub reduce_asks : (m : FieldMeaning) → FieldLaws m → Comparison → Job → List Term → ℕ → List Question
reduce_asks m laws cmp j p room =
    single 19 0 (j.stage ≡ closed)
    ∷ each 9 0 (length p) (λ i. T (m.elem (coefficient_at p i)))
    ∷ each 10 0 (length p) (λ i. InRange j.n (monomial_at p i))
    ∷ single 23 0 (D m laws cmp j.n j.polynomials ≤ room)
    ∷ []
