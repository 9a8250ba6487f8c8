-- The rule that a border monomial falls under, as the code finds it, is that of the definitions.
use Rattle.std.proofs.Common.{◌≡◌, ℕ, zero, suc, ◌<◌, ◌≤◌, Bool, true, false, cond, ◌&&◌, ltb, leb, List, [], ◌∷◌, map, length, get_or, drop, Some, None, sym, refl, ap, ◌∙◌, subst, ap₂, arith}
use native.Mathlib.Decide.{ℕ_discrete, dec_lt}
use lib.ListN.{length-map}
use Rattle.std.specs.List.{AllByRecursion}
use Rattle.std.proofs.lemmas.List.{get_or-map}
use Rattle.std.proofs.lemmas.Bool.{le-leb, lt-ltb, ltb-true}
use Rattle.order.specs.declared.monomial.Monomial.{Monomial}
use Rattle.order.specs.Monomials as record_of
use Rattle.order.specs.Monomials.{variables, variable, over, lowered}
use Rattle.order.specs.Exponents as exponents
use Rattle.algebra.specs.Lists.{any}
use Rattle.algebra.specs.Monomial.{Mono, one, equal, exponent, lower, Among}
use Rattle.algebra.specs.Records.{nested, flat, Within}
use Rattle.algebra.specs.NormalForm.{lead, rest_of, lowest}
use Rattle.algebra.proofs.Lists as tests
use Rattle.algebra.proofs.Monomials as monos
use Rattle.algebra.proofs.Records as records
use Rattle.staircase.specs.declared.rules.Term.{Term}
use Rattle.staircase.specs.Rules.{poly_of}
use Rattle.staircase.proofs.Increasing as lists
use Rattle.tables.specs.declared.below.Below.{Below}
use Rattle.tables.specs.Columns.{LedBy, FirstLed, StandsBelow, NothingBelow, LowestBelow, polys_of}

-- ---- quotients of records

some_once : (u v : Monomial) → Some u ≡ Some v → u ≡ v
some_once u v e = cc

none_some : (u : Monomial) → None ≡ Some u → ⊥
none_some u e = let z : ◌≡◌ {A = ℕ} 0 1 = cc in omega arith

lowered_is : (k : ℕ) (m : Monomial) → 0 < record_of.exponent m k → lowered k m ≡ Some (over m (variable k))
unfolding lowered
lowered_is k m h = ap (λ (b : Bool). cond b (Some (over m (variable k))) None) (lt-ltb 0 (record_of.exponent m k) h)

lowered_some : (k : ℕ) (m u : Monomial) → lowered k m ≡ Some u → (0 < record_of.exponent m k) × (u ≡ over m (variable k))
unfolding lowered
lowered_some k m u = go (ltb 0 (record_of.exponent m k)) refl
  where
    go : (b : Bool) → ltb 0 (record_of.exponent m k) ≡ b → cond b (Some (over m (variable k))) None ≡ Some u → (0 < record_of.exponent m k) × (u ≡ over m (variable k))
    go true h e = (ltb-true 0 _ h, sym (some_once _ _ e))
    go false h e = absurd (none_some u e)

module _ (n : ℕ) (few : n ≤ variables) where
  over_within : (k : ℕ) (m : Monomial) → Within n m → Within n (over m (variable k))
  over_within k m w j h = exponents.exponent_over m (variable k) j ∙ omega (arith, w j h)

  nested_over : (k : ℕ) → k < n → (m : Monomial) → nested n (over m (variable k)) ≡ lower n k (nested n m)
  nested_over k kn m = monos.ext n _ _ (λ j l. each j l (ℕ_discrete k j))
    where
      each : (j : ℕ) → j < n → Dec (k ≡ j) → exponent n (nested n (over m (variable k))) j ≡ exponent n (lower n k (nested n m)) j
      each j l (yes e) = subst (λ (i : ℕ). exponent n (nested n (over m (variable k))) i ≡ exponent n (lower n k (nested n m)) i) e
          (let a = records.exponent_nested n few (over m (variable k)) k kn in
          let b = records.exponent_nested n few m k kn in
          omega (arith, a, b, exponents.exponent_over m (variable k) k, exponents.exponent_variable k (omega arith) k, exponents.unit_at k, monos.exp_lower n k (nested n m)))
      each j l (no d) =
          let a = records.exponent_nested n few (over m (variable k)) j l in
          let b = records.exponent_nested n few m j l in
          omega (arith, a, b, exponents.exponent_over m (variable k) j, exponents.exponent_variable k (omega arith) j, exponents.unit_off k j d, monos.exp_lower_off n k j d (nested n m))

  -- ---- the polynomial that a monomial leads

  abbrev TermsWithin : List Term → Type 0
  TermsWithin p = (0 < length p) × AllByRecursion (λ t. Within n t.monomial) p

  abbrev is_lead : List (List Term) → Monomial → Bool
  is_lead ps t = any (λ p. equal n (lead n p) (nested n t)) (polys_of n ps)

  led_not : (x : Term) (p : List Term) (t : Monomial) → Within n x.monomial → Within n t → (LedBy (x ∷ p) t → ⊥) → equal n (nested n x.monomial) (nested n t) ≡ false
  led_not x p t v w h = monos.equal_not n _ _ (λ e. h (omega arith, lists.nested_once n few x.monomial t v w e))

  pub led : (ps : List (List Term)) → AllByRecursion TermsWithin ps → (t : Monomial) → Within n t → (i : ℕ) → FirstLed ps t (Some i)
      → (is_lead ps t ≡ true) × (rest_of n (polys_of n ps) (nested n t) ≡ poly_of n (drop 1 (get_or ps i [])))
  led [] oks t w i f = absurd (omega (arith, f.0))
  led ([] ∷ ps) oks t w i f = absurd (omega (arith, oks.0.0))
  led ((x ∷ p) ∷ ps) oks t w zero f =
      let same : equal n (nested n x.monomial) (nested n t) ≡ true = subst (λ (y : Monomial). equal n (nested n x.monomial) (nested n y) ≡ true) f.1.1 (monos.equal_refl n (nested n x.monomial)) in
      (ap (λ b. cond b true (is_lead ps t)) same, ap (λ b. cond b (poly_of n p) (rest_of n (polys_of n ps) (nested n t))) same)
  led ((x ∷ p) ∷ ps) oks t w (suc i) f =
      let other = led_not x p t oks.0.1.0 w (f.2 0 (omega arith)) in
      let ih = led ps oks.1 t w i (omega (arith, f.0), f.1, λ j l. f.2 (suc j) (omega arith)) in
      (ap (λ b. cond b true (is_lead ps t)) other ∙ ih.0, ap (λ b. cond b (poly_of n p) (rest_of n (polys_of n ps) (nested n t))) other ∙ ih.1)

  pub not_led : (ps : List (List Term)) → AllByRecursion TermsWithin ps → (t : Monomial) → Within n t → FirstLed ps t None → is_lead ps t ≡ false
  not_led [] oks t w f = refl
  not_led ([] ∷ ps) oks t w f = absurd (omega (arith, oks.0.0))
  not_led ((x ∷ p) ∷ ps) oks t w f =
      ap (λ b. cond b true (is_lead ps t)) (led_not x p t oks.0.1.0 w (f 0 (omega arith)))
      ∙ not_led ps oks.1 t w (λ j l. f (suc j) (omega arith))

  -- ---- the border monomial below

  module _ (E : List (Mono n)) (edges : List Monomial) (are : edges ≡ map (flat n) E) where
    pub edge_count : length edges ≡ length E
    edge_count = ap length are ∙ length-map E (flat n)

    pub edge_at : (i : ℕ) → i < length E → get_or edges i record_of.one ≡ flat n (get_or E i (one n))
    edge_at i l = ap (λ (x : List Monomial). get_or x i record_of.one) are ∙ get_or-map (flat n) E i (one n) record_of.one l

    pub edge_nested : (i : ℕ) → i < length E → nested n (get_or edges i record_of.one) ≡ get_or E i (one n)
    edge_nested i l = ap (nested n) (edge_at i l) ∙ records.back n few (get_or E i (one n))

    pub edge_within : (i : ℕ) → i < length E → Within n (get_or edges i record_of.one)
    edge_within i l = subst (Within n) (sym (edge_at i l)) ((records.nested_keeps n few).within (get_or E i (one n)))

    module _ (t : Monomial) (w : Within n t) where
      abbrev t' : Mono n
      t' = nested n t

      abbrev low : ℕ
      low = lowest n E t'

      stands : (k p : ℕ) → k < n → StandsBelow edges t k p → (1 ≤ exponent n t' k) × (p < length E) × (get_or E p (one n) ≡ lower n k t')
      stands k p kn (u, e, f) =
          let s = lowered_some k t u e in
          let l : p < length E = omega (arith, f.0, edge_count) in
          (omega (arith, s.0, records.exponent_nested n few t k kn), l, sym (edge_nested p l) ∙ ap (nested n) (f.1 ∙ s.1) ∙ nested_over k kn t)

      nothing : (k : ℕ) → k < n → NothingBelow edges t k → 1 ≤ exponent n t' k → Among n (lower n k t') E → ⊥
      nothing k kn none pos a =
          let u = over t (variable k) in
          none u (lowered_is k t (omega (arith, pos, records.exponent_nested n few t k kn))) a.0 (omega (arith, a.1, edge_count))
          (edge_at a.0 a.1 ∙ ap (flat n) (a.2 ∙ sym (nested_over k kn t)) ∙ records.forth n few u (over_within k t w))

      module _ (kn : low < n) (pos : 1 ≤ exponent n t' low) (a : Among n (lower n low t') E) where
        pub never-none : LowestBelow n edges t None → ⊥
        never-none f = nothing low kn (f low kn) pos a

        pub lowest-found : (b : Below) → LowestBelow n edges t (Some b) → (b.variable ≡ low) × (b.place < length E) × (get_or E b.place (one n) ≡ lower n low t')
        lowest-found b f =
            let s = stands b.variable b.place f.0 f.1 in
            let not-above : low ≤ b.variable = tests.least_first n (λ k. leb 1 (exponent n t' k) && any (equal n (lower n k t')) E) b.variable f.0 (ap₂ ◌&&◌ (le-leb 1 _ s.0) (monos.among_has n _ E (b.place, s.1, s.2))) in
            let is : b.variable ≡ low = go (decide b.variable) not-above in
            (is, s.1, s.2 ∙ ap (λ (k : ℕ). lower n k t') is)
          where
            decide : (k : ℕ) → Dec (low < k)
            decide k = dec_lt low k

            go : Dec (low < b.variable) → low ≤ b.variable → b.variable ≡ low
            go (yes q) l = absurd (nothing low kn (f.2 low q) pos a)
            go (no q) l = omega arith
