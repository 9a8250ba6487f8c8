-- The value of a polynomial at the matrices that tables hold is what it reduces to.
use Rattle.std.proofs.Common.{◌≡◌, ℕ, ◌<◌, ◌≤◌, List, length, take, sym, refl, ◌∙◌, subst, arith}
use Rattle.std.proofs.lemmas.List.{length-take-le}
use Rattle.field.specs.Meaning.{FieldMeaning, FieldLaws}
use Rattle.order.specs.Laws.{Comparison, OrderLaws}
use Rattle.algebra.specs.Field.{Field}
use Rattle.algebra.specs.Elements.{Elem, field_of, read}
use Rattle.algebra.specs.Vector.{apply}
use Rattle.algebra.specs.Polynomial.{Poly}
use Rattle.algebra.specs.Ideal.{Congruent}
use Rattle.algebra.specs.Records.{before_by}
use Rattle.algebra.specs.Matrices.{value}
use Rattle.algebra.proofs.Polynomials.{combination_ext}
use Rattle.algebra.proofs.Matrices.{congruences}
use Rattle.runs.specs.Job as job
use Rattle.runs.specs.Generators.{over_elements, generators, D, stair_at, Tk}
use Rattle.runs.specs.Reduce.{Reduced}
use Rattle.runs.specs.Sound.{Sound}
use Rattle.runs.proofs.Entered.{order_of, closed_passed}
use Rattle.staircase.specs.declared.rules.Term.{Term}
use Rattle.polynomials.specs.Held.{terms_of}
use Rattle.tables.specs.declared.tables.Tables.{Tables}
use Rattle.tables.specs.Holds.{stair_count, Holds}
use Rattle.conversion.specs.Powers.{Stands, map_of, unit}
use Rattle.conversion.specs.Values.{value_of}
use Rattle.conversion.specs.Answer.{closed_job}
use Rattle.conversion.proofs.Standing.{front_elems, front_reads}
use Rattle.conversion.proofs.Evaluating.{evaluate_along}
use Rattle.conversion.proofs.Converting.{map_is}

module _ (m : FieldMeaning) (laws : FieldLaws m) (cmp : Comparison) (O : OrderLaws cmp) (n : ℕ) (ps : List (List job.Term)) (S : Sound m laws cmp (closed_job n ps)) (t : Tables) (H : Holds m laws cmp n ps t) (terms : List Term) where
  abbrev F : Field (Elem m)
  F = field_of m laws

  abbrev L : List (Poly (Elem m) n)
  L = generators m laws n ps

  abbrev p : Poly (Elem m) n
  p = over_elements m laws n (terms_of terms)

  value_is : (j : ℕ) → j < stair_count t → value_of m laws t n terms j ≡ value F n (before_by cmp n) L p j
  value_is j l = evaluate_along F (stair_count t) n (map_of m laws t) (λ k. apply F (D m laws cmp n ps) (Tk m laws cmp n ps k)) (map_is m laws cmp O n ps S t H) (unit m laws) p j l

  pub reduced : (sum : List ℕ) → stair_count t ≤ length sum → Stands m (stair_count t) sum (value_of m laws t n terms) → Reduced m laws cmp n ps (terms_of terms) (take (stair_count t) sum)
  reduced sum long stand = record {
    size = length-take-le (stair_count t) sum long ∙ H.size;
    elements = front_elems m laws (stair_count t) sum (value_of m laws t n terms) long stand;
    congruent = subst (Congruent F n L p)
        (combination_ext F (stair_at m laws cmp n ps) (D m laws cmp n ps) (value F n (before_by cmp n) L p) (read m laws (take (stair_count t) sum)) (λ i l.
        let b : i < stair_count t = omega (arith, H.size) in
        sym (front_reads m laws (stair_count t) (stair_count t) sum (value_of m laws t n terms) (omega arith) long stand i b ∙ value_is i b)))
        ((congruences F n (before_by cmp n) (order_of m laws cmp O (closed_job n ps) S) L (closed_passed m laws cmp O (closed_job n ps) S refl)).polynomial p);
  }
