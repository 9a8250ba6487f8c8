-- The polynomials of a job as mathematics has them: over the elements of the field, in the monomials of n variables.
--   in_variables n p               the terms of p with their monomials as monomials of n variables
--   over_elements m laws n p       the polynomial p over the elements of the field
--   generators m laws n ps         the polynomials ps so: those whose ideal the job is about
--   D m laws cmp n ps              the number of monomials in their staircase
--   stair_at m laws cmp n ps i     the monomial at place i of it, in increasing order
--   Tk m laws cmp n ps k           the multiplication matrix of x_k, counted from 0
-- Used by: Close, Convert, Reduce, and what runs promise. Staircase, border, normal forms and matrices are those of crate algebra.
use Rattle.std.specs.Prelude.{ℕ, List, map}
use Rattle.field.specs.Meaning.{FieldMeaning, FieldLaws}
use Rattle.order.specs.Laws.{Comparison}
use Rattle.algebra.specs.Elements.{Elem, field_of, el}
use Rattle.algebra.specs.Monomial.{Mono}
use Rattle.algebra.specs.Polynomial.{Poly}
use Rattle.algebra.specs.Records.{nested, before_by}
use Rattle.algebra.specs.Basis.{dim, stair}
use Rattle.algebra.specs.Matrices.{matrices}
use Rattle.algebra.specs.Words.{elements}
use Rattle.runs.specs.Job.{Term}

abbrev pub in_variables : (n : ℕ) → List Term → Poly ℕ n
in_variables n p = map (λ (t : Term). (t.0, nested n t.1)) p

module _ (m : FieldMeaning) (laws : FieldLaws m) where
  abbrev pub over_elements : (n : ℕ) → List Term → Poly (Elem m) n
  over_elements n p = map (λ (t : ℕ × Mono n). (el m laws t.0, t.1)) (in_variables n p)

  abbrev pub generators : (n : ℕ) → List (List Term) → List (Poly (Elem m) n)
  generators n ps = elements m laws n (map (in_variables n) ps)

  module _ (cmp : Comparison) (n : ℕ) (ps : List (List Term)) where
    abbrev pub D : ℕ
    D = dim n (before_by cmp n) (generators n ps)

    abbrev pub stair_at : ℕ → Mono n
    stair_at = stair n (before_by cmp n) (generators n ps)

    abbrev pub Tk : ℕ → ℕ → ℕ → Elem m
    Tk = matrices (field_of m laws) n (before_by cmp n) (generators n ps)
