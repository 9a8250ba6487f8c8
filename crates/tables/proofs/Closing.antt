-- Polynomials that got a yes to the questions before the last: what is known where their columns are made, and that places and columns then hold
-- their multiplication matrices.
use Rattle.std.proofs.Common.{◌≡◌, ℕ, ◌<◌, ◌≤◌, Bool, true, false, cond, T, List, [], ◌∷◌, map, length, get_or, Ok, Err, Result, sym, refl, ap, ◌∙◌, subst, ap₂, arith}
use mathlib.Core.Bool.{false≢true}
use lib.ListN.{length-map}
use Rattle.std.specs.List.{AllByRecursion}
use Rattle.std.specs.Result.{IsOkAnd}
use Rattle.std.proofs.lemmas.List.{get_or-map}
use Rattle.std.proofs.ByRecursion.{All-map, All-get_or, All-from_get_or, All-weaker}
use Rattle.arrayvec.specs.ArrayVec.{ArrayVec}
use Rattle.field.specs.Meaning.{FieldMeaning, FieldLaws}
use Rattle.order.specs.declared.monomial.Monomial.{Monomial}
use Rattle.order.specs.Monomials as record_of
use Rattle.order.specs.Laws.{Comparison, OrderLaws}
use Rattle.algebra.specs.Field.{Field}
use Rattle.algebra.specs.Elements.{Elem, field_of, el}
use Rattle.algebra.specs.Lists.{any}
use Rattle.algebra.specs.Monomial.{Mono, one, times, var, equal, exponent, lower, Among}
use Rattle.algebra.specs.Polynomial.{Poly}
use Rattle.algebra.specs.Order.{Small, Ordered}
use Rattle.algebra.specs.Staircase.{Bounded, staircase}
use Rattle.algebra.specs.Border.{border}
use Rattle.algebra.specs.Records.{nested, flat, Within, before_by}
use Rattle.algebra.specs.NormalForm.{lead, lowest, form, fill}
use Rattle.algebra.specs.Basis.{leads, stairs, edges}
use Rattle.algebra.specs.Words.{words, ElementTerms, WordsAgree}
use Rattle.algebra.proofs.Elements.{el_elem}
use Rattle.algebra.proofs.Monomials as monos
use Rattle.algebra.proofs.Records as records
use Rattle.algebra.proofs.Border as borders
use Rattle.algebra.proofs.Rules as rules
use Rattle.algebra.proofs.Words.{words_agree}
use Rattle.tables.specs.declared.products.Products.{Products}
use Rattle.linear.specs.declared.step.Place.TheVariants.{Stair}
use Rattle.linear.specs.Step.{Fits, entry}
use Rattle.staircase.specs.declared.rules.Term as code
use Rattle.staircase.specs.Stairs.{Leading, stairs_of}
use Rattle.staircase.specs.Edges.{Raisable, edges_of, BorderAnswer}
use Rattle.staircase.specs.Places.{PlaceOf, ProductsPlacedIn}
use Rattle.staircase.specs.Rules.{poly_of}
use Rattle.staircase.specs.Steps.{ColumnsHold, OnceEach}
use Rattle.staircase.proofs.Bordered.{stairs_raisable}
use Rattle.staircase.proofs.Increasing as lists
use Rattle.staircase.proofs.Placing.{products_placed}
use Rattle.staircase.proofs.Replacing.{entry_form}
use Rattle.runs.specs.Job.{Term, new}
use Rattle.runs.specs.Generators.{in_variables, generators, Tk}
use Rattle.runs.proofs.Entered.{Fine, fine_all}
use Rattle.polynomials.specs.Held.{terms_of}
use Rattle.polynomials.specs.Leads.{leads_of}
use Rattle.polynomials.proofs.LeadMonomials.{within, leads_nested, leads_within, stairs_same}
use Rattle.tables.specs.Products.{places_at, Wide, AllPlaceable, AllPlaced}
use Rattle.tables.specs.Columns.{polys_of, ColumnsKnown}
use Rattle.tables.specs.Filling.{Closable, MatricesIn}
use Rattle.tables.proofs.Edges.{border_length, rising_once}
use Rattle.tables.proofs.Forms.{places_fit}

-- ---- the code's terms and a job's

poly_held : (n : ℕ) (p : List code.Term) → poly_of n p ≡ in_variables n (terms_of p)
poly_held n [] = refl
poly_held n (t ∷ p) = ap (λ (q : Poly ℕ n). (t.coefficient, nested n t.monomial) ∷ q) (poly_held n p)

polys_held : (n : ℕ) (es : List (List code.Term)) → polys_of n es ≡ map (in_variables n) (map terms_of es)
polys_held n [] = refl
polys_held n (p ∷ es) = ap₂ (λ (x : Poly ℕ n) (y : List (Poly ℕ n)). x ∷ y) (poly_held n p) (polys_held n es)

any_lead : {K : Type 0} (n : ℕ) (L : List (Poly K n)) (t : Mono n) → any (λ p. equal n (lead n p) t) L ≡ any (λ l. equal n l t) (leads n L)
any_lead n [] t = refl
any_lead n (p ∷ L) t = ap (λ b. cond (equal n (lead n p) t) true b) (any_lead n L t)

module _ (m : FieldMeaning) (cmp : Comparison) (n : ℕ) where
  terms_within : (p : List code.Term) → Fine m cmp n (terms_of p) → (0 < length p) × AllByRecursion (λ t. Within n t.monomial) p
  terms_within p f =
      let len : length (terms_of p) ≡ length p = length-map p (λ (t : code.Term). (t.coefficient, t.monomial)) in
      let none : code.Term = record { coefficient = 0; monomial = record_of.one } in (
        omega (arith, f.some, len),
        All-from_get_or (λ t. Within n t.monomial) p none (λ i l.
            subst (λ (x : Term). Within n x.1) (get_or-map (λ (t : code.Term). (t.coefficient, t.monomial)) p i none (0, record_of.one) l) (within n _ (f.ranges i (omega (arith, len))))),
      )

  all_terms_within : (es : List (List code.Term)) → AllByRecursion (Fine m cmp n) (map terms_of es) → AllByRecursion (λ p. (0 < length p) × AllByRecursion (λ t. Within n t.monomial) p) es
  all_terms_within [] fs = tt
  all_terms_within (p ∷ es) fs = (terms_within p fs.0, all_terms_within es fs.1)

  element_terms : (ps : List (List Term)) → AllByRecursion (Fine m cmp n) ps → ElementTerms m n (map (in_variables n) ps)
  element_terms [] fs = tt
  element_terms (p ∷ ps) fs = (All-map (λ t. T (m.elem t.0)) _ p (All-from_get_or (λ t. T (m.elem t.0)) p (0, record_of.one) (λ i l. (fs.0.elems i l).0)), element_terms ps fs.1)

module _ (m : FieldMeaning) (laws : FieldLaws m) (cmp : Comparison) (O : OrderLaws cmp) (n : ℕ) (es : List (List code.Term)) (C : Closable m laws cmp n (map terms_of es)) where
  abbrev ps : List (List Term)
  ps = map terms_of es

  abbrev before : Mono n → Mono n → Bool
  before = before_by cmp n

  abbrev F : Field (Elem m)
  F = field_of m laws

  abbrev W : List (Poly ℕ n)
  W = map (in_variables n) ps

  abbrev L : List (Poly (Elem m) n)
  L = generators m laws n ps

  abbrev S : List (Mono n)
  S = stairs n before L

  abbrev E : List (Mono n)
  E = edges n before L

  fines : AllByRecursion (Fine m cmp n) ps
  fines = fine_all m cmp (new n) ps C.entered

  ordered : Ordered n before
  ordered = records.ordered n C.few cmp O

  agree : WordsAgree m laws n before W
  agree = words_agree m laws n before W (element_terms m cmp n ps fines)

  leading : Leading n (leads_of ps)
  leading = record { few = C.few; within = leads_within n C.few m cmp ps fines; bounded = subst (Bounded n) (sym (leads_nested n C.few m laws ps)) C.passed.bounded }

  same_stairs : stairs_of cmp n (leads_of ps) ≡ S
  same_stairs = stairs_same m laws cmp n C.few ps

  pub raisable : Raisable n (map (flat n) S)
  raisable = subst (λ (s : List (Mono n)). Raisable n (map (flat n) s)) same_stairs (stairs_raisable cmp n (leads_of ps) leading).0

  pub edges_are : edges_of cmp n (map (flat n) S) ≡ E
  edges_are = ap (border n before) (lists.nested_flat n C.few S)

  pub edges_few : length E ≤ 192
  edges_few = border_length n before S C.few C.short

  -- what `border` answers is the border
  pub edges_found : {X : Type 0} (stairs : List Monomial) → stairs ≡ map (flat n) S → (r : Result (ArrayVec Monomial) X) → (Raisable n stairs → BorderAnswer cmp n stairs 192 r) → IsOkAnd r (λ edges. edges.items ≡ map (flat n) E)
  edges_found stairs is r found = found_of r (subst (λ (s : List Monomial). Raisable n s → BorderAnswer cmp n s 192 r) is found raisable)
    where
      found_of : {X : Type 0} (r : Result (ArrayVec Monomial) X) → BorderAnswer cmp n (map (flat n) S) 192 r → IsOkAnd r (λ edges. edges.items ≡ map (flat n) E)
      found_of (Ok v) a = a ∙ ap (map (flat n)) edges_are
      found_of (Err e) a = absurd (omega (arith, a, ap length edges_are, edges_few))

  placed_in : (k : ℕ) → k < n → ProductsPlacedIn n k S E
  placed_in k kn = subst (λ (s : List (Mono n)). ProductsPlacedIn n k s (border n before s)) same_stairs (products_placed cmp n (leads_of ps) leading k kn)

  pub placeable : AllPlaceable n (map (flat n) S) (map (flat n) E)
  placeable k kn = (placed_in k kn).placeable 48 C.short (omega (arith, C.short)) (omega (arith, edges_few))

  edge_all : AllByRecursion (borders.Edge n S) E
  edge_all = borders.edge_to n before S

  edge_small : (t : Mono n) → borders.Edge n S t → Small n t
  edge_small = rules.edge_small F n before ordered L C.passed

  once_stairs : OnceEach n S
  once_stairs = rules.distinct F n before ordered L C.passed

  is_lead : (t : Mono n) → any (λ p. equal n (lead n p) t) (polys_of n es) ≡ any (λ p. equal n (lead n p) t) L
  is_lead t = ap (λ (X : List (Poly ℕ n)). any (λ p. equal n (lead n p) t) X) (polys_held n es) ∙ any_lead n W t ∙ ap (any (λ l. equal n l t)) agree.same_leads ∙ sym (any_lead n L t)

  edge_at : (i : ℕ) → i < length E → borders.Edge n S (get_or E i (one n))
  edge_at i l = All-get_or (borders.Edge n S) E i (one n) l edge_all

  below : (i : ℕ) → i < length E → any (λ p. equal n (lead n p) (get_or E i (one n))) (polys_of n es) ≡ false
      → (lowest n E (get_or E i (one n)) < n) × (1 ≤ exponent n (get_or E i (one n)) (lowest n E (get_or E i (one n)))) × Among n (lower n (lowest n E (get_or E i (one n))) (get_or E i (one n))) E
  below i l no_lead =
      let t = get_or E i (one n) in
      let x = rules.lowest_is F n before ordered L C.passed t (edge_at i l) (sym (is_lead t) ∙ no_lead) in
      (x.0, x.1, monos.has_among n _ E (borders.edge_from n before S _ x.2))

  module _ (places : List Products) (placed : AllPlaced n (map (flat n) S) (map (flat n) E) places) where
    products : (k : ℕ) → k < n → (i : ℕ) → i < length S → PlaceOf n S E (times n (var n k) (get_or S i (one n))) (get_or (places_at places k) i (Stair 0))
    products k kn = (placed_in k kn).places (places_at places k) (placed k kn)

    pub known : ColumnsKnown n S E es (map (flat n) S) (map (flat n) E) places
    known = record {
      few = C.few;
      terms = all_terms_within m cmp n es fines;
      stairs_are = refl;
      edges_are = refl;
      short = C.short;
      once_stairs = once_stairs;
      once_edges = rising_once n before ordered E (All-weaker (borders.Edge n S) (Small n) edge_small E edge_all) (borders.edge_rising n before S ordered edge_small);
      outside = λ i l a. false≢true (sym (edge_at i l).out ∙ monos.among_has n _ S a);
      products = products;
      below = below;
    }

    module _ (columns : List ℕ) (hold : ColumnsHold m n S E (fill (words m) n S E (polys_of n es) E []) columns 48) where
      -- the entry of a matrix over words, by the list of leading monomials
      abbrev entry-by : ℕ → ℕ → ℕ → List (Mono n) → ℕ
      entry-by k j i ls = get_or (form (words m) n (staircase n before ls) (fill (words m) n (staircase n before ls) (border n before (staircase n before ls)) W (border n before (staircase n before ls)) []) (times n (var n k) (get_or (staircase n before ls) i (one n)))) j m.zero

      entry-is : (k j i : ℕ) → k < n → j < length S → i < length S → entry m columns 48 (get_or (places_at places k) i (Stair 0)) j ≡ (Tk m laws cmp n ps k j i).0
      entry-is k j i kn hj hi =
          entry_form m n S E (fill (words m) n S E (polys_of n es) E []) columns 48 once_stairs hold (times n (var n k) (get_or S i (one n))) (get_or (places_at places k) i (Stair 0)) (products k kn i hi) j hj
          ∙ ap (λ (X : List (Poly ℕ n)). get_or (form (words m) n S (fill (words m) n S E X E []) (times n (var n k) (get_or S i (one n)))) j m.zero) (polys_held n es)
          ∙ ap (entry-by k j i) (sym agree.same_leads)
          ∙ agree.same_matrices k j i

      pub matrices : Wide places → length columns ≡ 9216 → MatricesIn m laws cmp n ps (length S) places columns
      matrices wide many-columns = record {
        ready = λ k kn. subst (λ (room : ℕ). Fits (length S) (places_at places k) room 48 (length S) (length S)) (sym many-columns) (places_fit n S E C.short edges_few k places (wide.1 k _ (omega (arith, wide.0, C.few))) (products k kn) (length S) (omega arith));
        entries = λ k j i kn hj hi. ap (el m laws) (entry-is k j i kn hj hi) ∙ el_elem m laws (Tk m laws cmp n ps k j i);
      }

  -- over lists that are the staircase and the border
  module _ (stairs edges : List Monomial) (stairs_is : stairs ≡ map (flat n) S) (edges_is : edges ≡ map (flat n) E) where
    pub all_placeable : AllPlaceable n stairs edges
    all_placeable = subst (λ (s : List Monomial). AllPlaceable n s edges) (sym stairs_is) (subst (AllPlaceable n (map (flat n) S)) (sym edges_is) placeable)

    pub all_placed : (places : List Products) → AllPlaced n stairs edges places → AllPlaced n (map (flat n) S) (map (flat n) E) places
    all_placed places x = subst (λ (s : List Monomial). AllPlaced n s (map (flat n) E) places) stairs_is (subst (λ (e : List Monomial). AllPlaced n stairs e places) edges_is x)

    pub all_known : (places : List Products) → AllPlaced n (map (flat n) S) (map (flat n) E) places → ColumnsKnown n S E es stairs edges places
    all_known places x = subst (λ (s : List Monomial). ColumnsKnown n S E es s edges places) (sym stairs_is) (subst (λ (e : List Monomial). ColumnsKnown n S E es (map (flat n) S) e places) (sym edges_is) (known places x))
