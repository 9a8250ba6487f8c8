-- The rows of a table, taken and solved.
use Rattle.std.proofs.Common.{◌≡◌, ℕ, ◌<◌, T, List, Ok, Err, Result, length, get_or, sym, ap, ◌∙◌, subst, arith}
use Rattle.field.specs.Meaning.{FieldMeaning, FieldLaws}
use Rattle.algebra.specs.Vector.{Independent}
use Rattle.algebra.specs.Elements.{Elem, field_of, el}
use Rattle.algebra.proofs.Sums as sums
use Rattle.algebra.proofs.Span.{no_combination}
use Rattle.linear.specs.Elimination.{Table, Eliminated, Solved}
use Rattle.linear.specs.declared.elimination.EliminateFault.{EliminateFault}
use Rattle.linear.specs.declared.elimination.EliminateFault.TheVariants.{NoRoom, Depends as First}
use Rattle.linear.specs.declared.elimination.SolveFault.{SolveFault}
use Rattle.linear.specs.declared.elimination.SolveFault.TheVariants.{NoRoom as Unasked, Outside}
use Rattle.linear.proofs.Reading.{read_at}
use Rattle.conversion.specs.Powers.{Stands}
use Rattle.conversion.specs.Rows.{Solves, Row}
use Rattle.conversion.proofs.Standing.{stands_read}

module _ (m : FieldMeaning) (laws : FieldLaws m) (d : ℕ) (v : ℕ → ℕ → Elem m) where
  -- independent rows are all taken
  pub all_taken : {A : Type 0} (table : List (List ℕ)) (pivots row : List ℕ) (a : Result A EliminateFault) → Independent (field_of m laws) d d v → Eliminated m laws d d v table pivots row a → Table m laws d d v table pivots
  all_taken table pivots row (Ok _) h x = x.1
  all_taken table pivots row (Err (First j)) h x = absurd (omega (arith, x.0, no_combination (field_of m laws) d d j v h x.1.0.0 x.1.0.1))
  all_taken table pivots row (Err NoRoom) h x = absurd x

  -- and then every right-hand side is solved
  pub solved_row : {A : Type 0} (b : ℕ → Elem m) (side out : List ℕ) (a : Result A SolveFault) → length side ≡ d → length out ≡ d → Stands m d side b → Solved m laws (length side) d v side out a → Solves m laws d v b (λ l. get_or out l 0)
  solved_row b side out (Ok _) e e' s x = record {
    elements = λ l h. x.0 l (omega arith);
    combines = λ j h.
        sym (stands_read m laws d side b (omega arith) s j h)
        ∙ x.1 j (omega arith)
        ∙ sums.sum_ext (field_of m laws) d _ _ (λ l p. ap (λ (y : Elem m). (field_of m laws).◌⊗◌ y (v l j)) (read_at m laws out l (omega arith)));
  }
  solved_row b side out (Err Outside) e e' s x = absurd (x.0 (sym e))
  solved_row b side out (Err Unasked) e e' s x = absurd x

  -- a row by other words that are the same
  pub row_along : (c : List ℕ) (b : ℕ → Elem m) (i k : ℕ) (w u : ℕ → ℕ) → ((l : ℕ) → l < d → u l ≡ w l) → Row m laws d v c b i k w → Row m laws d v c b i k u
  row_along c b i k w u e r = record {
    backwards = λ q l h. e l h ∙ r.backwards q l h;
    solves = λ ne.
        let z = r.solves ne in
        record {
          elements = λ l h. subst (λ (x : ℕ). T (m.elem x)) (sym (e l h)) (z.elements l h);
          combines = λ j h. z.combines j h ∙ sums.sum_ext (field_of m laws) d _ _ (λ l p. ap (λ (x : ℕ). (field_of m laws).◌⊗◌ (el m laws x) (v l j)) (sym (e l p)));
        };
  }

-- a row over another table that agrees in its first d rows and columns
pub row_over : (m : FieldMeaning) (laws : FieldLaws m) (d : ℕ) (v u : ℕ → ℕ → Elem m) → ((l j : ℕ) → l < d → j < d → v l j ≡ u l j) → (c : List ℕ) (b : ℕ → Elem m) (i k : ℕ) (w : ℕ → ℕ) → Row m laws d v c b i k w → Row m laws d u c b i k w
row_over m laws d v u e c b i k w r = record {
  backwards = r.backwards;
  solves = λ ne.
      let z = r.solves ne in
      record { elements = z.elements; combines = λ j h. z.combines j h ∙ sums.sum_ext (field_of m laws) d _ _ (λ l p. ap (λ (x : Elem m). (field_of m laws).◌⊗◌ (el m laws (w l)) x) (e l j p h)) };
}
