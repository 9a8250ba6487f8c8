-- The table filled in increasing order: every border monomial has its normal form, no later entry changes an earlier one, and
-- the finished table keeps the two rules.
use Rattle.std.proofs.Common.{◌≡◌, ℕ, ◌<◌, ◌≤◌, Bool, true, false, cond, ◌&&◌, leb, ◌≢◌, ◌⊎◌, List, [], ◌∷◌, length, get_or, sym, refl, ap, ◌∙◌, subst, ap₂, inl, inr, arith}
use mathlib.Core.Bool.{false≢true}
use Rattle.std.specs.List.{AllByRecursion}
use Rattle.std.proofs.lemmas.Bool.{cases_Bool, le-leb}
use Rattle.algebra.specs.Field.{Field}
use Rattle.algebra.specs.Vector.{basis, apply, Least}
use Rattle.algebra.specs.Lists.{any, build}
use Rattle.algebra.specs.Monomial.{Mono, times, equal, var, exponent, divides, lower, Among}
use Rattle.algebra.specs.Monomial as spec
use Rattle.algebra.specs.Polynomial.{Poly}
use Rattle.algebra.specs.Order.{Small, Ordered, Rising}
use Rattle.algebra.specs.NormalForm.{arith_of, Table, coefficient, look, form, lowest, opposite, replaced, column, fill}
use Rattle.algebra.specs.Basis.{stairs, edges, dim, stair, table, form_at, lead_at, rest_at, Passed, NormalForms}
use Rattle.algebra.proofs.Laws as field
use Rattle.algebra.proofs.Sums as sums
use Rattle.algebra.proofs.Lists as lists
use Rattle.algebra.proofs.Monomials as monos
use Rattle.algebra.proofs.Monomials.{equal_refl, equal_eq, Has}
use Rattle.algebra.proofs.Sorting as sorting
use Rattle.algebra.proofs.Border as borders
use Rattle.algebra.proofs.Rules as rules

module _ {K : Type 0} (F : Field K) (n : ℕ) (before : Mono n → Mono n → Bool) (O : Ordered n before) (L : List (Poly K n)) (Q : Passed F n before L) where
  open F use {zer, one, ◌⊗◌, neg}

  infixl 70 ◌⊗◌
  abbrev S : List (Mono n)
  S = stairs n before L

  abbrev E : List (Mono n)
  E = edges n before L

  abbrev D : ℕ
  D = dim n before L

  abbrev s : ℕ → Mono n
  s = stair n before L

  abbrev X : ℕ → Mono n → Mono n
  X k m = times n (var n k) m

  abbrev Edge : Mono n → Type 0
  Edge = borders.Edge n S

  edge_small : (t : Mono n) → Edge t → Small n t
  edge_small = rules.edge_small F n before O L Q

  edge_rising : Rising n before E
  edge_rising = borders.edge_rising n before S O edge_small

  abbrev entry : List K → ℕ → K
  entry c j = get_or c j zer

  abbrev form_of : Table K n → Mono n → List K
  form_of = form (arith_of F) n S

  abbrev column_of : Table K n → Mono n → List K
  column_of = column (arith_of F) n S E L

  abbrev filled_by : List (Mono n) → Table K n → Table K n
  filled_by = fill (arith_of F) n S E L

  abbrev Right : Mono n → List K → Type 0
  Right = rules.Right F n before O L Q

  abbrev is_lead : Mono n → Bool
  is_lead = rules.is_lead F n before O L Q

  -- every border monomial is still to come or has its normal form
  abbrev Done : List (Mono n) → Table K n → Type 0
  Done ts tab = (u : Mono n) → Edge u → Has n u ts ⊎ Right u (look n tab u)

  older : (t : Mono n) (ts : List (Mono n)) (tab : Table K n) → Rising n before (t ∷ ts) → Edge t → Done (t ∷ ts) tab → (u : Mono n) → Edge u → before u t ≡ true → Right u (look n tab u)
  older t ts tab r et done u e l = go (done u e)
    where
      go : Has n u (t ∷ ts) ⊎ Right u (look n tab u) → Right u (look n tab u)
      go (inl y) = absurd (false≢true (sym (sorting.before-gone n before O t ts r (edge_small t et) u (edge_small u e) l) ∙ y))
      go (inr y) = y

  next : (t : Mono n) (ts : List (Mono n)) (tab : Table K n) → Rising n before (t ∷ ts) → Edge t → Done (t ∷ ts) tab → Done ts ((t, column_of tab t) ∷ tab)
  next t ts tab r et done u e = go (equal n t u) refl (done u e)
    where
      go : (b : Bool) → equal n t u ≡ b → Has n u (t ∷ ts) ⊎ Right u (look n tab u) → Has n u ts ⊎ Right u (cond b (column_of tab t) (look n tab u))
      go true z y = inr (subst (λ (m : Mono n). Right m (column_of tab t)) (equal_eq n t u z) (rules.any_rule F n before O L Q tab t et (older t ts tab r et done)))
      go false z (inl y) = inl (sym (ap (λ b. cond b true (any (equal n u) ts)) (monos.equal_sym n t u z)) ∙ y)
      go false z (inr y) = inr y

  filled : (ts : List (Mono n)) (tab : Table K n) → Rising n before ts → AllByRecursion Edge ts → Done ts tab → (u : Mono n) → Edge u → Right u (look n (filled_by ts tab) u)
  filled [] tab r h done u e = go (done u e)
    where
      go : Has n u [] ⊎ Right u (look n tab u) → Right u (look n tab u)
      go (inl y) = absurd (false≢true y)
      go (inr y) = y
  filled (t ∷ ts) tab r h done u e = filled ts ((t, column_of tab t) ∷ tab) r.1 h.1 (next t ts tab r h.0 done) u e

  abbrev final : Table K n
  final = table (arith_of F) n before L

  start : Done E []
  start u e = inl (borders.edge_from n before S u e)

  pub all_right : (u : Mono n) → Edge u → Right u (look n final u)
  all_right = filled E [] edge_rising (borders.edge_to n before S) start

  -- past D the forms are zero
  abbrev Past : List K → Type 0
  Past c = (j : ℕ) → D ≤ j → entry c j ≡ zer

  column_past : (tab : Table K n) (t : Mono n) → Past (column_of tab t)
  column_past tab t j q = go (is_lead t)
    where
      go : (b : Bool) → entry (cond b (opposite (arith_of F) n S L t) (replaced (arith_of F) n S tab (lowest n E t) (form_of tab (lower n (lowest n E t) t)))) j ≡ zer
      go true = lists.get_d_past D _ zer j q
      go false = lists.get_d_past D _ zer j q

  fill_past : (ts : List (Mono n)) (tab : Table K n) → AllByRecursion (λ e. Past e.1) tab → AllByRecursion (λ e. Past e.1) (filled_by ts tab)
  fill_past [] tab h = h
  fill_past (t ∷ ts) tab h = fill_past ts ((t, column_of tab t) ∷ tab) (column_past tab t, h)

  look_past : (tab : Table K n) → AllByRecursion (λ e. Past e.1) tab → (u : Mono n) → Past (look n tab u)
  look_past [] h u j q = refl
  look_past (e ∷ tab) h u j q = go (equal n e.0 u) (look_past tab h.1 u j q)
    where
      go : (b : Bool) → entry (look n tab u) j ≡ zer → entry (cond b e.1 (look n tab u)) j ≡ zer
      go true y = h.0 j q
      go false y = y

  pub form_past : (u : Mono n) → Past (form_of final u)
  form_past u j q = go (any (equal n u) S)
    where
      go : (b : Bool) → entry (cond b (build D (λ j. cond (equal n (s j) u) one zer)) (look n final u)) j ≡ zer
      go true = lists.get_d_past D _ zer j q
      go false = look_past final (fill_past E [] tt) u j q

  -- a later entry changes no earlier one
  stable : (ts : List (Mono n)) (tab : Table K n) (u : Mono n) → any (equal n u) ts ≡ false → look n (filled_by ts tab) u ≡ look n tab u
  stable [] tab u h = refl
  stable (t ∷ ts) tab u h = go (equal n u t) refl h (stable ts ((t, column_of tab t) ∷ tab) u)
    where
      go : (b : Bool) → equal n u t ≡ b → cond b true (any (equal n u) ts) ≡ false → (any (equal n u) ts ≡ false → look n (filled_by ts ((t, column_of tab t) ∷ tab)) u ≡ look n ((t, column_of tab t) ∷ tab) u) → look n (filled_by ts ((t, column_of tab t) ∷ tab)) u ≡ look n tab u
      go true e h ih = absurd (false≢true (sym h))
      go false e h ih = ih h ∙ ap (λ (b : Bool). cond b (column_of tab t) (look n tab u)) (monos.equal_sym n u t e)

  -- the second rule, as a table has it
  abbrev Second : Table K n → Mono n → Type 0
  Second tab t = (j : ℕ) → j < D → entry (look n tab t) j ≡ apply F D (λ j i. entry (form_of tab (X (lowest n E t) (s i))) j) (entry (form_of tab (lower n (lowest n E t) t))) j

  second_here : (t : Mono n) (ts : List (Mono n)) (tab : Table K n) → Rising n before (t ∷ ts) → (et : Edge t) → Done (t ∷ ts) tab → is_lead t ≡ false → Second (filled_by (t ∷ ts) tab) t
  second_here t ts tab r et done no_lead j q =
      ap (λ (c : List K). entry c j) (stable ts ((t, column_of tab t) ∷ tab) t (sorting.self-gone n before O t ts r (edge_small t et)) ∙ ap (λ (b : Bool). cond b (column_of tab t) (look n tab t)) (equal_refl n t))
      ∙ ap (λ b. entry (cond b (opposite (arith_of F) n S L t) (replaced (arith_of F) n S tab k (form_of tab u))) j) no_lead
      ∙ lists.get_or_build D _ zer j q
      ∙ rules.total_is F n D _
      ∙ sums.sum_ext F D _ _ (λ i l. term i l (right.below i l))
    where
      k : ℕ
      k = lowest n E t

      low-is : (k < n) × (1 ≤ exponent n t k) × Edge (lower n k t)
      low-is = rules.lowest_is F n before O L Q t et no_lead

      u : Mono n
      u = lower n k t

      up : X k u ≡ t
      up = monos.raise_lower n k low-is.0 t low-is.1

      less : before u t ≡ true
      less = subst (λ (m : Mono n). before u m ≡ true) up (O.above k low-is.0 u (subst (Small n) (sym up) (edge_small t et)))

      right : Right u (form_of tab u)
      right = subst (Right u) (sym (rules.form_out F n before O L Q tab u low-is.2.out)) (older t ts tab r et done u low-is.2 less)

      final-form : (m : Mono n) → Small n m → before m t ≡ true → form_of (filled_by (t ∷ ts) tab) m ≡ form_of tab m
      final-form m sm l = ap (λ (c : List K). cond (any (equal n m) S) (build D (λ j. cond (equal n (s j) m) one zer)) c) (stable (t ∷ ts) tab m (sorting.before-gone n before O t ts r (edge_small t et) m sm l))

      same-u : form_of (filled_by (t ∷ ts) tab) u ≡ form_of tab u
      same-u = final-form u (edge_small u low-is.2) less

      term : (i : ℕ) → i < D → (entry (form_of tab u) i ≡ zer) ⊎ (before (s i) u ≡ true) → entry (form_of tab (X k (s i))) j ⊗ entry (form_of tab u) i ≡ entry (form_of (filled_by (t ∷ ts) tab) (X k (s i))) j ⊗ entry (form_of (filled_by (t ∷ ts) tab) u) i
      term i l (inl z) = ap (λ x. entry (form_of tab (X k (s i))) j ⊗ x) z ∙ field.mul_zero F _ ∙ sym (ap (λ x. entry (form_of (filled_by (t ∷ ts) tab) (X k (s i))) j ⊗ x) (ap (λ (c : List K). entry c i) same-u ∙ z) ∙ field.mul_zero F _)
      term i l (inr z) =
          let small = rules.up_small F n before O L Q i l k low-is.0 in
          sym (ap₂ (λ (a b : List K). entry a j ⊗ entry b i)
          (final-form (X k (s i)) small (subst (λ (m : Mono n). before (X k (s i)) m ≡ true) up (O.raised k low-is.0 (s i) u small (subst (Small n) (sym up) (edge_small t et)) z)))
          same-u)

  second_all : (ts : List (Mono n)) (tab : Table K n) → Rising n before ts → AllByRecursion Edge ts → Done ts tab → (u : Mono n) → Has n u ts → is_lead u ≡ false → Second (filled_by ts tab) u
  second_all [] tab r h done u y no_lead = absurd (false≢true y)
  second_all (t ∷ ts) tab r h done u y no_lead = go (equal n u t) refl y (second_all ts ((t, column_of tab t) ∷ tab) r.1 h.1 (next t ts tab r h.0 done) u)
    where
      go : (b : Bool) → equal n u t ≡ b → cond b true (any (equal n u) ts) ≡ true → (Has n u ts → is_lead u ≡ false → Second (filled_by (t ∷ ts) tab) u) → Second (filled_by (t ∷ ts) tab) u
      go true e y ih = subst (λ (m : Mono n). Second (filled_by (t ∷ ts) tab) m) (sym (equal_eq n u t e)) (second_here t ts tab r h.0 done (subst (λ (m : Mono n). is_lead m ≡ false) (equal_eq n u t e) no_lead))
      go false e y ih = ih y no_lead

  -- a leading monomial is in the border
  pub lead_edge : (p : ℕ) → p < length L → Edge (lead_at n L p)
  lead_edge p l = go (monos.mono_split n (lead_of p))
    where
      lead_of : ℕ → Mono n
      lead_of = lead_at n L

      go : (lead_of p ≡ spec.one n) ⊎ ((k : ℕ) × (t : Mono n) × (k < n) × (lead_of p ≡ X k t)) → Edge (lead_of p)
      go (inl e) = absurd (Q.not_one p l e)
      go (inr x) =
          let k = x.0 in
          let kn : k < n = x.2 in
          let u-free : rules.is_free F n before O L Q x.1 ≡ true = rules.free_yes F n before O L Q x.1 (λ q r d.
          let up : divides n (lead_of q) (lead_of p) ≡ true = subst (λ (m : Mono n). divides n (lead_of q) m ≡ true) (sym x.3) (monos.divides_trans n _ _ _ d (monos.divides_raise n k kn x.1)) in
          let d' : divides n (X k x.1) x.1 ≡ true = subst (λ (m : Mono n). divides n m x.1 ≡ true) (ap lead_of (Q.apart q p r l up) ∙ x.3) d in
          omega (arith, monos.divides_to n _ _ d' k kn, monos.exp_raise n k kn x.1)) in
          let y = monos.has_among n x.1 S (rules.stairs_from F n before O L Q x.1 u-free) in
          record { k = k; i = y.0; kn = kn; within = y.1; is = x.3 ∙ ap (X k) (sym y.2); out = out (cases_Bool (any (equal n (lead_of p)) S)) }
        where
          out : (any (equal n (lead_of p)) S ≡ true) ⊎ (any (equal n (lead_of p)) S ≡ false) → any (equal n (lead_of p)) S ≡ false
          out (inl y) = absurd (rules.free_no F n before O L Q (lead_of p) (rules.stairs_to F n before O L Q _ y) p l (monos.divides_self n (lead_of p)))
          out (inr y) = y

  -- what leads nothing fails the test
  no_lead_from : (t : Mono n) → ((p : ℕ) → p < length L → lead_at n L p ≢ t) → is_lead t ≡ false
  no_lead_from t h = go (cases_Bool (is_lead t))
    where
      go : (is_lead t ≡ true) ⊎ (is_lead t ≡ false) → is_lead t ≡ false
      go (inl e) = let x = rules.rest_of_is F n L t e in absurd (h x.0 x.1 x.2)
      go (inr e) = e

  pub normal_forms : NormalForms F n before L
  normal_forms = record { inner = inner; leading = leading; other = other }
    where
      inner : (i : ℕ) → i < D → (j : ℕ) → j < D → form_at F n before L (s i) j ≡ basis F i j
      inner i l j q = rules.form_unit F n before O L Q final i l (s i) refl j q

      leading : (p : ℕ) → p < length L → (j : ℕ) → j < D → form_at F n before L (lead_at n L p) j ≡ neg (coefficient (arith_of F) n (rest_at n L p) (s j))
      leading p l j q = let e = lead_edge p l in ap (λ (c : List K). entry c j) (rules.form_out F n before O L Q final _ e.out) ∙ (all_right _ e).leading p l refl j q

      other : (t : Mono n) → Among n t E → ((p : ℕ) → p < length L → lead_at n L p ≢ t)
          → (k : ℕ) × Least (λ k. (k < n) × (1 ≤ exponent n t k) × Among n (lower n k t) E) k
          × ((j : ℕ) → j < D → form_at F n before L t j ≡ apply F D (λ j i. form_at F n before L (X k (s i)) j) (form_at F n before L (lower n k t)) j)
      other t x h =
          let e = borders.edge_of n before S t (monos.among_has n t E x) in
          let no_lead = no_lead_from t h in
          let y = rules.lowest_is F n before O L Q t e no_lead in (
            lowest n E t,
            (
              (y.0, y.1, monos.has_among n _ E (borders.edge_from n before S _ y.2)),
              λ k z. lists.least_first n (λ k. leb 1 (exponent n t k) && any (equal n (lower n k t)) E) k z.0 (ap₂ ◌&&◌ (le-leb 1 _ z.1) (monos.among_has n _ E z.2)),
            ),
            λ j q. ap (λ (c : List K). entry c j) (rules.form_out F n before O L Q final t e.out) ∙ second_all E [] edge_rising (borders.edge_to n before S) start t (borders.edge_from n before S t e) no_lead j q,
          )
