-- The columns of the border, made one after the other by the two rules.
--   no_term                       the term 0
--   LedBy p t                    the first term of p has the monomial t
--   FirstLed ps t r              r is the first place of ps whose polynomial is led by t, or none where none is
--   StandsBelow edges t k p      the quotient of t by x_k stands first at place p of edges
--   NothingBelow edges t k       x_k does not divide t, or the quotient does not stand in edges
--   BelowBy edges t k r          r has the variable k, and the place of the quotient of t by it; or that does not stand in edges
--   LowestBelow n edges t r      r has the lowest of n variables whose quotient stands in edges, and its place; or none has
--   ElementForms m n tab         every word of a normal form in the table is an element
--   polys_of n ps                 the polynomials of the code's terms
--   ColumnsKnown                 what is known where columns are made: the code's lists are the staircase S, the border E and the places of the products;
--                                 nothing stands twice in S or in E, and nothing of E in S; the terms of the polynomials ps have n variables; and a border
--                                 monomial that leads none of them has a border monomial below it
--   ColumnSteppedBelow          then, where the columns before hold a table and the border monomial at place c leads no polynomial, r is no refusal and the columns
--                                 after hold the table with its normal form by the second rule added
--   ColumnAdded                  then, where the columns before hold a table, r is no refusal and those after hold it with the normal form of that monomial added
--   ColumnsMade                  then r is no refusal and the columns after hold the table of all border monomials
-- Used by: the making of the columns.
use Rattle.std.specs.Prelude.{◌≡◌, ℕ, ◌<◌, ◌≤◌, false, T, List, [], ◌∷◌, map, length, get_or, Some, None, Option, MatchOption, Result, IsOk, slice_index_or}
use Rattle.std.specs.List.{AllByRecursion}
use Rattle.field.specs.Meaning.{FieldMeaning}
use Rattle.order.specs.declared.monomial.Monomial.{Monomial}
use Rattle.order.specs.Monomials as record_of
use Rattle.order.specs.Monomials.{variables, lowered}
use Rattle.algebra.specs.Lists.{any}
use Rattle.algebra.specs.Monomial.{Mono, one, times, var, equal, exponent, lower, Among}
use Rattle.algebra.specs.Polynomial.{Poly}
use Rattle.algebra.specs.Records.{flat, Within}
use Rattle.algebra.specs.NormalForm.{Table, lead, look, lowest, form, replaced, column, fill}
use Rattle.algebra.specs.Words.{words}
use Rattle.tables.specs.declared.products.Products.{Products}
use Rattle.linear.specs.declared.step.Place.TheVariants.{Stair}
use Rattle.staircase.specs.declared.rules.Term.{Term}
use Rattle.staircase.specs.Search.{FirstPlace}
use Rattle.staircase.specs.Rules.{poly_of}
use Rattle.staircase.specs.Places.{PlaceOf}
use Rattle.staircase.specs.Steps.{OnceEach, ColumnsHold}
use Rattle.tables.specs.declared.below.Below.{Below}
use Rattle.tables.specs.Products.{places_at}

abbrev pub no_term : Term
no_term = record { coefficient = 0; monomial = record_of.one }

abbrev pub LedBy : List Term → Monomial → Type 0
LedBy p t = (0 < length p) × ((get_or p 0 no_term).monomial ≡ t)

abbrev pub FirstLed : List (List Term) → Monomial → Option ℕ → Type 0
FirstLed ps t (Some i) = (i < length ps) × LedBy (slice_index_or ps i []) t × ((j : ℕ) → j < i → LedBy (slice_index_or ps j []) t → ⊥)
FirstLed ps t None = (j : ℕ) → j < length ps → LedBy (slice_index_or ps j []) t → ⊥

abbrev pub StandsBelow : List Monomial → Monomial → ℕ → ℕ → Type 0
StandsBelow edges t k p = (u : Monomial) × (lowered k t ≡ Some u) × FirstPlace edges u (Some p)

abbrev pub NothingBelow : List Monomial → Monomial → ℕ → Type 0
NothingBelow edges t k = (u : Monomial) → lowered k t ≡ Some u → FirstPlace edges u None

abbrev pub BelowBy : List Monomial → Monomial → ℕ → Option Below → Type 0
BelowBy edges t k r = MatchOption r (NothingBelow edges t k) (λ b. (b.variable ≡ k) × StandsBelow edges t k b.place)

abbrev pub LowestBelow : ℕ → List Monomial → Monomial → Option Below → Type 0
LowestBelow n edges t (Some b) = (b.variable < n) × StandsBelow edges t b.variable b.place × ((j : ℕ) → j < b.variable → NothingBelow edges t j)
LowestBelow n edges t None = (j : ℕ) → j < n → NothingBelow edges t j

abbrev pub ElementForms : (m : FieldMeaning) (n : ℕ) → Table ℕ n → Type 0
ElementForms m n tab = (t : Mono n) (j : ℕ) → T (m.elem (slice_index_or (look n tab t) j m.zero))

abbrev pub polys_of : (n : ℕ) → List (List Term) → List (Poly ℕ n)
polys_of n ps = map (poly_of n) ps

pub record ColumnsKnown (n : ℕ) (S E : List (Mono n)) (ps : List (List Term)) (stairs edges : List Monomial) (places : List Products) : Type 0 where
  pub few : n ≤ variables
  pub terms : AllByRecursion (λ p. (0 < length p) × AllByRecursion (λ t. Within n t.monomial) p) ps
  pub stairs_are : stairs ≡ map (flat n) S
  pub edges_are : edges ≡ map (flat n) E
  pub short : length S ≤ 48
  pub once_stairs : OnceEach n S
  pub once_edges : OnceEach n E
  pub outside : (i : ℕ) → i < length E → Among n (slice_index_or E i (one n)) S → ⊥
  pub products : (k : ℕ) → k < n → (i : ℕ) → i < length S → PlaceOf n S E (times n (var n k) (slice_index_or S i (one n))) (slice_index_or (places_at places k) i (Stair 0))
  pub below : (i : ℕ) → i < length E → any (λ p. equal n (lead n p) (slice_index_or E i (one n))) (polys_of n ps) ≡ false
      → (lowest n E (slice_index_or E i (one n)) < n) × (1 ≤ exponent n (slice_index_or E i (one n)) (lowest n E (slice_index_or E i (one n)))) × Among n (lower n (lowest n E (slice_index_or E i (one n))) (slice_index_or E i (one n))) E

abbrev pub ColumnSteppedBelow : {A E : Type 0} → FieldMeaning → ℕ → ℕ → List Monomial → List Products → ℕ → List ℕ → List ℕ → Result A E → Type 0
ColumnSteppedBelow m n d edges places c before after r = (ps : List (List Term)) (stairs : List Monomial) (S E : List (Mono n)) (tab : Table ℕ n) → ColumnsKnown n S E ps stairs edges places → length S ≡ d
    → ElementForms m n tab → ColumnsHold m n S E tab before 48 → any (λ p. equal n (lead n p) (slice_index_or E c (one n))) (polys_of n ps) ≡ false
    → IsOk r × ColumnsHold m n S E ((slice_index_or E c (one n), replaced (words m) n S tab (lowest n E (slice_index_or E c (one n))) (form (words m) n S tab (lower n (lowest n E (slice_index_or E c (one n))) (slice_index_or E c (one n))))) ∷ tab) after 48

abbrev pub ColumnAdded : {A E : Type 0} → FieldMeaning → ℕ → List (List Term) → List Monomial → List Monomial → List Products → ℕ → List ℕ → List ℕ → Result A E → Type 0
ColumnAdded m n ps stairs edges places c before after r = (S E : List (Mono n)) (tab : Table ℕ n) → ColumnsKnown n S E ps stairs edges places → ElementForms m n tab → ColumnsHold m n S E tab before 48
    → IsOk r × ColumnsHold m n S E ((slice_index_or E c (one n), column (words m) n S E (polys_of n ps) tab (slice_index_or E c (one n))) ∷ tab) after 48

abbrev pub ColumnsMade : {A E : Type 0} → FieldMeaning → ℕ → List (List Term) → List Monomial → List Monomial → List Products → List ℕ → Result A E → Type 0
ColumnsMade m n ps stairs edges places after r = (S E : List (Mono n)) → ColumnsKnown n S E ps stairs edges places
    → IsOk r × ColumnsHold m n S E (fill (words m) n S E (polys_of n ps) E []) after 48
