-- The table of normal forms one border monomial at a time: each column is made by its rule, and every word is an element.
use Rattle.std.proofs.Common.{◌≡◌, ℕ, zero, suc, ◌+◌, ◌*◌, ◌<◌, ◌≤◌, Bool, true, false, cond, T, List, [], ◌∷◌, ◌++◌, length, get_or, take, drop, Some, None, sym, refl, ap, ◌∙◌, subst, ap₂, arith, length-drop}
use lib.ListN.{length-map}
use lib.Seq.{paste}
use Rattle.std.specs.List.{AllByRecursion}
use Rattle.std.proofs.lemmas.List.{take_more, take_all, length-take-le, get_or-take, get_or-drop}
use Rattle.std.proofs.ByRecursion.{All-get_or, All-drop}
use Rattle.field.specs.Meaning.{FieldMeaning, FieldLaws, FieldTotal}
use Rattle.order.specs.declared.monomial.Monomial.{Monomial}
use Rattle.order.specs.Monomials as record_of
use Rattle.algebra.specs.Lists.{any, build}
use Rattle.algebra.specs.Monomial.{Mono, one, times, var, equal, exponent, lower, Among}
use Rattle.algebra.specs.Polynomial.{Poly}
use Rattle.algebra.specs.Records.{nested, flat, Within}
use Rattle.algebra.specs.NormalForm.{Table, total, lead, rest_of, look, form, lowest, opposite, replaced, column, fill}
use Rattle.algebra.specs.Words.{words}
use Rattle.linear.specs.declared.step.Place.{Place}
use Rattle.tables.specs.declared.products.Products.{Products}
use Rattle.linear.specs.declared.step.Place.TheVariants.{Stair, Border}
use Rattle.linear.specs.Step as step
use Rattle.linear.proofs.Columns as linear
use Rattle.staircase.specs.declared.rules.Term.{Term}
use Rattle.staircase.specs.Rules.{poly_of, opposite_words}
use Rattle.staircase.specs.Places.{PlaceOf}
use Rattle.staircase.specs.Steps.{ColumnsHold, Steppable, ColumnStepped}
use Rattle.staircase.proofs.Opposites.{length_build, opposites_rule}
use Rattle.staircase.proofs.Replacing.{column_more}
use Rattle.tables.specs.declared.below.Below.{Below}
use Rattle.tables.specs.Products.{places_at, Wide}
use Rattle.tables.specs.Columns.{FirstLed, LowestBelow, ElementForms, polys_of, ColumnsKnown}
use Rattle.tables.proofs.RuleOf as rule

-- ---- every word of the table is an element

module _ (m : FieldMeaning) (laws : FieldLaws m) (out : FieldTotal m) where
  neg_elem : (a : ℕ) → T (m.elem (m.neg a))
  neg_elem a = go (m.elem a) refl
    where
      go : (b : Bool) → m.elem a ≡ b → T (m.elem (m.neg a))
      go true e = laws.neg_in a (subst T (sym e) tt)
      go false e = subst (λ (w : ℕ). T (m.elem w)) (sym (out.neg_out a e)) laws.zero_in

  total_elem : (d : ℕ) (f : ℕ → ℕ) → T (m.elem (total (words m) d f))
  total_elem zero f = laws.zero_in
  total_elem (suc d) f = linear.add_elem m laws out (total (words m) d f) (f d)

  build_elem : (d : ℕ) (f : ℕ → ℕ) → ((i : ℕ) → T (m.elem (f i))) → (j : ℕ) → T (m.elem (get_or (build d f) j m.zero))
  build_elem zero f h j = laws.zero_in
  build_elem (suc d) f h zero = h 0
  build_elem (suc d) f h (suc j) = build_elem d (λ i. f (suc i)) (λ i. h (suc i)) j

  module _ (n : ℕ) (S E : List (Mono n)) (L : List (Poly ℕ n)) where
    abbrev column_of : Table ℕ n → Mono n → List ℕ
    column_of = column (words m) n S E L

    column_elem : (tab : Table ℕ n) (t : Mono n) (j : ℕ) → T (m.elem (get_or (column_of tab t) j m.zero))
    column_elem tab t j = go (any (λ (p : Poly ℕ n). equal n (lead n p) t) L)
      where
        go : (b : Bool) → T (m.elem (get_or (cond b (opposite (words m) n S L t) (replaced (words m) n S tab (lowest n E t) (form (words m) n S tab (lower n (lowest n E t) t)))) j m.zero))
        go true = build_elem (length S) _ (λ i. neg_elem _) j
        go false = build_elem (length S) _ (λ i. total_elem (length S) _) j

    abbrev filled : List (Mono n) → Table ℕ n → Table ℕ n
    filled = fill (words m) n S E L

    more_forms : (tab : Table ℕ n) (t : Mono n) → ElementForms m n tab → ElementForms m n ((t, column_of tab t) ∷ tab)
    more_forms tab t h u j = go (equal n t u)
      where
        go : (b : Bool) → T (m.elem (get_or (cond b (column_of tab t) (look n tab u)) j m.zero))
        go true = column_elem tab t j
        go false = h u j

    pub fill_forms : (ts : List (Mono n)) (tab : Table ℕ n) → ElementForms m n tab → ElementForms m n (filled ts tab)
    fill_forms [] tab h = h
    fill_forms (t ∷ ts) tab h = fill_forms ts ((t, column_of tab t) ∷ tab) (more_forms tab t h)

    pub no_forms : ElementForms m n []
    no_forms u j = laws.zero_in

-- ---- the table with one border monomial more

module _ (m : FieldMeaning) (n : ℕ) (S E : List (Mono n)) (L : List (Poly ℕ n)) where
  fill_append : (ts us : List (Mono n)) (tab : Table ℕ n) → fill (words m) n S E L (ts ++ us) tab ≡ fill (words m) n S E L us (fill (words m) n S E L ts tab)
  fill_append [] us tab = refl
  fill_append (t ∷ ts) us tab = fill_append ts us ((t, column (words m) n S E L tab t) ∷ tab)

  pub fill_more : (c : ℕ) → c < length E → fill (words m) n S E L (take (c + 1) E) [] ≡ (get_or E c (one n), column (words m) n S E L (fill (words m) n S E L (take c E) []) (get_or E c (one n))) ∷ fill (words m) n S E L (take c E) []
  fill_more c h = ap (λ (ts : List (Mono n)). fill (words m) n S E L ts []) (take_more E c (one n) h) ∙ fill_append (take c E) (get_or E c (one n) ∷ []) []

  pub fill_all : (c : ℕ) → length E ≤ c → fill (words m) n S E L (take c E) [] ≡ fill (words m) n S E L E []
  fill_all c h = ap (λ (ts : List (Mono n)). fill (words m) n S E L ts []) (take_all c E h)

-- ---- places lie within

place_within : (n : ℕ) (S E : List (Mono n)) → length S ≤ 48 → length E ≤ 192 → (u : Mono n) (p : Place) → PlaceOf n S E u p → step.Within (length S) 9216 48 p
place_within n S E short few u (Stair p) h = h.0
place_within n S E short few u (Border c) h = let l : c < length E = h.1 in omega arith

pub places_fit : (n : ℕ) (S E : List (Mono n)) → length S ≤ 48 → length E ≤ 192 → (k : ℕ) (places : List Products) → length (places_at places k) ≡ 48
    → ((i : ℕ) → i < length S → PlaceOf n S E (times n (var n k) (get_or S i (one n))) (get_or (places_at places k) i (Stair 0)))
    → (rows : ℕ) → length S ≤ rows → step.Fits (length S) (places_at places k) 9216 48 (length S) rows
places_fit n S E short few k places room at rows enough = record {
  enough_places = omega arith;
  enough_words = omega arith;
  enough_rows = enough;
  within = λ i h. place_within n S E short few (times n (var n k) (get_or S i (one n))) (get_or (places_at places k) i (Stair 0)) (at i h);
}

-- ---- one column

module _ (m : FieldMeaning) (n : ℕ) (S E : List (Mono n)) (ps : List (List Term)) (stairs edges : List Monomial) (places : List Products) (K : ColumnsKnown n S E ps stairs edges places) where
  abbrev L : List (Poly ℕ n)
  L = polys_of n ps

  pub edge_count : length edges ≡ length E
  edge_count = rule.edge_count n K.few E edges K.edges_are

  pub stair_count : length stairs ≡ length S
  stair_count = ap length K.stairs_are ∙ length-map S (flat n)

  module _ (c : ℕ) (hc : c < length E) where
    abbrev t : Monomial
    t = get_or edges c record_of.one

    abbrev t' : Mono n
    t' = get_or E c (one n)

    within : Within n t
    within = rule.edge_within n K.few E edges K.edges_are c hc

    is : nested n t ≡ t'
    is = rule.edge_nested n K.few E edges K.edges_are c hc

    pub not_led : FirstLed ps t None → any (λ p. equal n (lead n p) t') L ≡ false
    not_led f = subst (λ (x : Mono n). any (λ p. equal n (lead n p) x) L ≡ false) is (rule.not_led n K.few ps K.terms t within f)

    module _ (tab : Table ℕ n) (columns : List ℕ) (hold : ColumnsHold m n S E tab columns 48) where
      by-opposite : any (λ p. equal n (lead n p) t') L ≡ true → column (words m) n S E L tab t' ≡ opposite (words m) n S L t'
      by-opposite e = ap (λ b. cond b (opposite (words m) n S L t') (replaced (words m) n S tab (lowest n E t') (form (words m) n S tab (lower n (lowest n E t') t')))) e

      pub by-replaced : any (λ p. equal n (lead n p) t') L ≡ false → column (words m) n S E L tab t' ≡ replaced (words m) n S tab (lowest n E t') (form (words m) n S tab (lower n (lowest n E t') t'))
      by-replaced e = ap (λ b. cond b (opposite (words m) n S L t') (replaced (words m) n S tab (lowest n E t') (form (words m) n S tab (lower n (lowest n E t') t')))) e

      -- by the first rule
      pub lead-added : (i : ℕ) → FirstLed ps t (Some i) → c * 48 + length S ≤ length columns → (after : List ℕ) → after ≡ paste columns (c * 48) (opposite_words m (drop 1 (get_or ps i [])) stairs) (length stairs)
          → ColumnsHold m n S E ((t', column (words m) n S E L tab t') ∷ tab) after 48
      lead-added i f room after made =
          let x = rule.led n K.few ps K.terms t within i f in
          let led : any (λ p. equal n (lead n p) t') L ≡ true = subst (λ (y : Mono n). any (λ p. equal n (lead n p) y) L ≡ true) is x.0 in
          let rest : rest_of n L t' ≡ poly_of n (drop 1 (get_or ps i [])) = subst (λ (y : Mono n). rest_of n L y ≡ poly_of n (drop 1 (get_or ps i []))) is x.1 in
          let terms = All-get_or (λ p. (0 < length p) × AllByRecursion (λ t. Within n t.monomial) p) ps i [] f.0 K.terms in
          let words_are : opposite_words m (drop 1 (get_or ps i [])) stairs ≡ opposite (words m) n S L t' =
          ap (opposite_words m (drop 1 (get_or ps i []))) K.stairs_are ∙ opposites_rule m n K.few S L t' (drop 1 (get_or ps i [])) (All-drop (λ t. Within n t.monomial) 1 (get_or ps i []) terms.1) rest in
          subst (λ (col : List ℕ). ColumnsHold m n S E ((t', col) ∷ tab) after 48) (sym (by-opposite led))
          (subst (λ (x : List ℕ). ColumnsHold m n S E ((t', opposite (words m) n S L t') ∷ tab) x 48)
          (sym (made ∙ ap₂ (λ (col : List ℕ) (d : ℕ). paste columns (c * 48) col d) words_are stair_count))
          (column_more m n S E tab columns 48 K.once_edges hold K.short c hc room (opposite (words m) n S L t') (length_build (length S) _)))

      -- by the second rule
      module _ (no_lead : any (λ p. equal n (lead n p) t') L ≡ false) where
        abbrev low : ℕ
        low = lowest n E t'

        pub never-none : LowestBelow n edges t None → ⊥
        never-none f =
            let y = subst (λ (u : Mono n). (lowest n E u < n) × (1 ≤ exponent n u (lowest n E u)) × Among n (lower n (lowest n E u) u) E) (sym is) (K.below c hc no_lead) in
            rule.never-none n K.few E edges K.edges_are t within y.0 y.1 y.2 f

        below-is : (b : Below) → LowestBelow n edges t (Some b) → (b.variable ≡ low) × (b.place < length E) × (get_or E b.place (one n) ≡ lower n low t')
        below-is b f =
            let y = subst (λ (u : Mono n). (lowest n E u < n) × (1 ≤ exponent n u (lowest n E u)) × Among n (lower n (lowest n E u) u) E) (sym is) (K.below c hc no_lead) in
            subst (λ (u : Mono n). (b.variable ≡ lowest n E u) × (b.place < length E) × (get_or E b.place (one n) ≡ lower n (lowest n E u) u)) is
            (rule.lowest-found n K.few E edges K.edges_are t within y.0 y.1 y.2 b f)

        module _ (b : Below) (f : LowestBelow n edges t (Some b)) (wide : Wide places) (few_edges : length E ≤ 192) (few-columns : length columns ≡ 9216) where
          pub steppable : Steppable (length S) (places_at places b.variable) (length columns) 48 b.place c 48
          steppable = record {
            from_there = omega (arith, (below-is b f).1, K.short);
            to_there = omega (arith, K.short);
            fits = subst (λ (room : ℕ). step.Fits (length S) (places_at places b.variable) room 48 (length S) 48) (sym few-columns)
                (places_fit n S E K.short few_edges b.variable places (wide.1 b.variable _ (omega (arith, wide.0, f.0, K.few))) (K.products b.variable f.0) 48 K.short);
          }

          pub step_added : ElementForms m n tab → (after : List ℕ) → ColumnStepped m (length S) (places_at places b.variable) columns 48 b.place c after
              → ColumnsHold m n S E ((t', replaced (words m) n S tab low (form (words m) n S tab (lower n low t'))) ∷ tab) after 48
          step_added els after s =
              let x = below-is b f in
              subst (λ (k : ℕ). ColumnsHold m n S E ((t', replaced (words m) n S tab k (form (words m) n S tab (lower n low t'))) ∷ tab) after 48) x.0
              (subst (λ (u : Mono n). ColumnsHold m n S E ((t', replaced (words m) n S tab b.variable (form (words m) n S tab u)) ∷ tab) after 48) x.2
              (s n S E tab b.variable refl (record {
                once_stairs = K.once_stairs;
                once_edges = K.once_edges;
                holds = hold;
                short = K.short;
                products = K.products b.variable f.0;
                from_in = x.1;
                from_out = K.outside b.place x.1;
                to_in = hc;
                elements = λ j l.
                    let q : j < length S = omega (arith, length-take-le (length S) (drop (b.place * 48) columns) (omega (arith, x.1, K.short, length-drop (b.place * 48) columns))) in
                    subst (λ (w : ℕ). T (m.elem w)) (sym (get_or-take (length S) (drop (b.place * 48) columns) j 0 q ∙ get_or-drop (b.place * 48) columns j 0 ∙ hold b.place j x.1 q)) (els (get_or E b.place (one n)) j);
              })))
