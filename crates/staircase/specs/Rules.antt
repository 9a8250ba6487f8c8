-- The two rules by which the columns of the border are made, over the code's terms, places and words.
--   poly_of n terms                       the polynomial of the code's terms
--   opposite_words m rest stairs          the opposites of the coefficients that the staircase monomials have in the rest of a polynomial
--   OppositesRule                         where a monomial leads a polynomial with that rest, they are its normal form by the first rule
-- Used by: the calls that make the columns of the border.
use Rattle.std.specs.Prelude.{◌≡◌, ℕ, ◌≤◌, List, map, length, slice_index_or}
use Rattle.std.specs.List.{AllByRecursion}
use Rattle.field.specs.Meaning.{FieldMeaning}
use Rattle.order.specs.declared.monomial.Monomial.{Monomial}
use Rattle.order.specs.Monomials as record_of
use Rattle.order.specs.Monomials.{variables}
use Rattle.algebra.specs.Lists.{build}
use Rattle.algebra.specs.Monomial.{Mono}
use Rattle.algebra.specs.Polynomial.{Poly}
use Rattle.algebra.specs.Records.{nested, flat, Within}
use Rattle.algebra.specs.NormalForm.{coefficient, rest_of, opposite}
use Rattle.algebra.specs.Words.{words}
use Rattle.staircase.specs.declared.rules.Term.{Term}

abbrev pub poly_of : (n : ℕ) → List Term → Poly ℕ n
poly_of n terms = map (λ (t : Term). (t.coefficient, nested n t.monomial)) terms

abbrev pub opposite_words : FieldMeaning → List Term → List Monomial → List ℕ
opposite_words m rest stairs = build (length stairs) (λ j. m.neg (coefficient (words m) variables (poly_of variables rest) (nested variables (slice_index_or stairs j record_of.one))))

abbrev pub OppositesRule : Type 0
OppositesRule = (m : FieldMeaning) (n : ℕ) → n ≤ variables → (S : List (Mono n)) (L : List (Poly ℕ n)) (t : Mono n) (rest : List Term) → AllByRecursion (λ x. Within n x.monomial) rest → rest_of n L t ≡ poly_of n rest
    → opposite_words m rest (map (flat n) S) ≡ opposite (words m) n S L t
