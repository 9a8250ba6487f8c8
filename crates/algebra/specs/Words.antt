-- The tables over the words of a field, as a program holds them, are those over its elements.
--   words m                        the arithmetic of the words
--   ElementTerms m n W            every coefficient of the polynomials W of words is an element
--   elements m laws n W            those polynomials over the elements
--   WordsAgree m laws n before W  leading monomials, tables and matrices over words are the words of those over elements
--   WordsHold                     so they are for every lawful field
-- Used by: the calls that work over words.
use Rattle.std.specs.Prelude.{◌≡◌, ℕ, Bool, T, List, map}
use Rattle.std.specs.List.{AllByRecursion}
use Rattle.field.specs.Meaning.{FieldMeaning, FieldLaws}
use Rattle.algebra.specs.Elements.{Elem, field_of, el}
use Rattle.algebra.specs.Monomial.{Mono}
use Rattle.algebra.specs.Polynomial.{Poly}
use Rattle.algebra.specs.NormalForm.{Arithmetic, arith_of}
use Rattle.algebra.specs.Basis.{leads, table}
use Rattle.algebra.specs.Matrices.{multiplication}

abbrev pub words : FieldMeaning → Arithmetic ℕ
words m = record { zer = m.zero; one = m.one; add = m.add; mul = m.mul; neg = m.neg }

abbrev pub ElementTerms : FieldMeaning → (n : ℕ) → List (Poly ℕ n) → Type 0
ElementTerms m n W = AllByRecursion (AllByRecursion (λ t. T (m.elem t.0))) W

module _ (m : FieldMeaning) (laws : FieldLaws m) (n : ℕ) where
  abbrev pub elements : List (Poly ℕ n) → List (Poly (Elem m) n)
  elements W = map (λ (p : Poly ℕ n). map (λ (t : ℕ × Mono n). (el m laws t.0, t.1)) p) W

  pub record WordsAgree (before : Mono n → Mono n → Bool) (W : List (Poly ℕ n)) : Type 0 where
    pub same_leads : leads n W ≡ leads n (elements W)
    pub same_table : table (words m) n before W ≡ map (λ (e : Mono n × List (Elem m)). (e.0, map (λ (x : Elem m). x.0) e.1)) (table (arith_of (field_of m laws)) n before (elements W))
    pub same_matrices : (k j i : ℕ) → multiplication (words m) n before W k j i ≡ (multiplication (arith_of (field_of m laws)) n before (elements W) k j i).0

abbrev pub WordsHold : Type 0
WordsHold = (m : FieldMeaning) (laws : FieldLaws m) (n : ℕ) (before : Mono n → Mono n → Bool) (W : List (Poly ℕ n)) → ElementTerms m n W → WordsAgree m laws n before W
