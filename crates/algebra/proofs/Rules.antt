-- The two rules: where the monomials before a border monomial have their normal forms in the table, the rule that it falls
-- under gives a vector that is congruent to it and uses only staircase monomials before it.
use Rattle.std.proofs.Common.{◌≡◌, ℕ, zero, suc, ◌<◌, ◌≤◌, Bool, true, false, cond, ◌&&◌, leb, ◌⊎◌, List, [], ◌∷◌, length, get_or, sym, refl, ap, ◌∙◌, subst, ap₂, inl, inr, arith}
use mathlib.Core.Bool.{false≢true}
use native.Mathlib.Decide.{ℕ_discrete}
use Rattle.std.specs.List.{AllByRecursion}
use Rattle.std.proofs.ByRecursion.{All-weaker}
use Rattle.std.proofs.lemmas.List.{length-map, get_or-map}
use Rattle.std.proofs.lemmas.Bool.{cases_Bool, leb-true, le-leb, and_parts}
use Rattle.algebra.specs.Field.{Field}
use Rattle.algebra.specs.Vector.{sum, basis, apply}
use Rattle.algebra.specs.Lists.{any, build}
use Rattle.algebra.specs.Monomial.{Mono, times, equal, var, exponent, divides, lower}
use Rattle.algebra.specs.Monomial as spec
use Rattle.algebra.specs.Polynomial.{Poly, coeff, ◌≈◌, combination}
use Rattle.algebra.specs.Order.{Small, Ordered}
use Rattle.algebra.specs.Staircase.{free}
use Rattle.algebra.specs.NormalForm.{arith_of, Table, total, coefficient, lead, rest, rest_of, look, form, lowest, opposite, replaced, column}
use Rattle.algebra.specs.Basis.{leads, stairs, edges, dim, stair, lead_at, rest_at, Passed}
use Rattle.algebra.proofs.Laws as field
use Rattle.algebra.proofs.Sums as sums
use Rattle.algebra.proofs.Lists as lists
use Rattle.algebra.proofs.Monomials as monos
use Rattle.algebra.proofs.Monomials.{assoc, comm, equal_refl, equal_eq, Has}
use Rattle.algebra.proofs.Polynomials as polys
use Rattle.algebra.proofs.Ideals as ideals
use Rattle.algebra.proofs.Columns as columns
use Rattle.algebra.proofs.Staircase as stairway
use Rattle.algebra.proofs.Border as borders

module _ {K : Type 0} (F : Field K) (n : ℕ) where
  open F use {zer, one, ◌⊕◌, ◌⊗◌}

  infixl 65 ◌⊕◌
  infixl 70 ◌⊗◌
  coef_is : (p : Poly K n) (m : Mono n) → coefficient (arith_of F) n p m ≡ coeff F n p m
  coef_is [] m = refl
  coef_is (t ∷ p) m = ap (λ x. t.0 ⊗ cond (equal n m t.1) one zer ⊕ x) (coef_is p m)

  pub total_is : (m : ℕ) (f : ℕ → K) → total (arith_of F) m f ≡ sum F m f
  total_is zero f = refl
  total_is (suc m) f = ap (λ x. x ⊕ f m) (total_is m f)

  pub rest_of_is : (L : List (Poly K n)) (t : Mono n) → any (λ p. equal n (lead n p) t) L ≡ true
      → (p : ℕ) × (p < length L) × (lead n (get_or L p []) ≡ t) × (rest_of n L t ≡ rest n (get_or L p []))
  rest_of_is [] t e = absurd (false≢true e)
  rest_of_is (q ∷ L) t e = go (equal n (lead n q) t) refl e (rest_of_is L t)
    where
      go : (b : Bool) → equal n (lead n q) t ≡ b → cond b true (any (λ p. equal n (lead n p) t) L) ≡ true
          → (any (λ p. equal n (lead n p) t) L ≡ true → (p : ℕ) × (p < length L) × (lead n (get_or L p []) ≡ t) × (rest_of n L t ≡ rest n (get_or L p [])))
          → (p : ℕ) × (p < suc (length L)) × (lead n (get_or (q ∷ L) p []) ≡ t) × (cond b (rest n q) (rest_of n L t) ≡ rest n (get_or (q ∷ L) p []))
      go true h e ih = (0, omega arith, equal_eq n _ t h, refl)
      go false h e ih = let x = ih e in (suc x.0, omega (arith, x.1), x.2, x.3)

module _ {K : Type 0} (F : Field K) (n : ℕ) (before : Mono n → Mono n → Bool) (O : Ordered n before) (L : List (Poly K n)) (Q : Passed F n before L) where
  open F use {zer, one, ◌⊕◌, ◌⊗◌, neg, add_zero}

  infixl 65 ◌⊕◌
  infixl 70 ◌⊗◌
  abbrev S : List (Mono n)
  S = stairs n before L

  abbrev E : List (Mono n)
  E = edges n before L

  abbrev D : ℕ
  D = dim n before L

  abbrev s : ℕ → Mono n
  s = stair n before L

  abbrev X : ℕ → Mono n → Mono n
  X k m = times n (var n k) m

  abbrev lead_of : ℕ → Mono n
  lead_of = lead_at n L

  -- no leading monomial divides m
  abbrev pub is_free : Mono n → Bool
  is_free = free n (leads n L)

  lead_is : (p : ℕ) → p < length L → get_or (leads n L) p (spec.one n) ≡ lead_of p
  lead_is p l = get_or-map (lead n) L p [] (spec.one n) l

  lead_length : length (leads n L) ≡ length L
  lead_length = length-map L (lead n)

  pub free_no : (m : Mono n) → is_free m ≡ true → (p : ℕ) → p < length L → divides n (lead_of p) m ≡ true → ⊥
  free_no m e p l d = stairway.free_no n (leads n L) m e p (omega (arith, lead_length)) (ap (λ (l : Mono n). divides n l m) (lead_is p l) ∙ d)

  pub free_find : (m : Mono n) → is_free m ≡ false → (p : ℕ) × (p < length L) × (divides n (lead_of p) m ≡ true)
  free_find m e =
      let x = stairway.free_find n (leads n L) m e in
      let q : x.0 < length L = omega (arith, lead_length, x.1) in
      (x.0, q, ap (λ (l : Mono n). divides n l m) (sym (lead_is x.0 q)) ∙ x.2)

  pub free_yes : (m : Mono n) → ((p : ℕ) → p < length L → divides n (lead_of p) m ≡ true → ⊥) → is_free m ≡ true
  free_yes m h = stairway.free_yes n (leads n L) m (λ p l d. let q : p < length L = omega (arith, lead_length) in h p q (ap (λ (l : Mono n). divides n l m) (sym (lead_is p q)) ∙ d))

  free_down : (a b : Mono n) → divides n a b ≡ true → is_free b ≡ true → is_free a ≡ true
  free_down = stairway.free_down n (leads n L)

  pub stairs_to : (m : Mono n) → Has n m S → is_free m ≡ true
  stairs_to = stairway.stairs_to n (leads n L) Q.bounded before

  pub stairs_from : (m : Mono n) → is_free m ≡ true → Has n m S
  stairs_from = stairway.stairs_from n (leads n L) Q.bounded before

  pub s_free : (i : ℕ) → i < D → is_free (s i) ≡ true
  s_free = stairway.stair-free n (leads n L) Q.bounded before

  pub s_small : (i : ℕ) → i < D → Small n (s i)
  s_small i l = stairway.free_small n (leads n L) Q.bounded (s i) (s_free i l)

  pub up_small : (i : ℕ) → i < D → (k : ℕ) → k < n → Small n (X k (s i))
  up_small i l k kn = stairway.free_up_small n (leads n L) Q.bounded (s i) (s_free i l) k kn

  pub distinct : (i j : ℕ) → i < D → j < D → s i ≡ s j → i ≡ j
  distinct = stairway.stairs-distinct n (leads n L) Q.bounded before O

  -- t is in the border
  abbrev Edge : Mono n → Type 0
  Edge = borders.Edge n S

  pub edge_small : (t : Mono n) → Edge t → Small n t
  edge_small = borders.edge_small n before (leads n L) Q.bounded

  edge_from : (t : Mono n) → Edge t → Has n t E
  edge_from = borders.edge_from n before S

  abbrev Good : (ℕ → K) → Mono n → Type 0
  Good = columns.Good F n L D s

  good_ext : (a b : ℕ → K) (m : Mono n) → ((i : ℕ) → i < D → a i ≡ b i) → Good a m → Good b m
  good_ext = columns.good_ext F n L D s

  abbrev entry : List K → ℕ → K
  entry c j = get_or c j zer

  abbrev form_of : Table K n → Mono n → List K
  form_of = form (arith_of F) n S

  abbrev column_of : Table K n → Mono n → List K
  column_of = column (arith_of F) n S E L

  -- c is the normal form of the border monomial t
  pub record Right (t : Mono n) (c : List K) : Type 0 where
    pub good : Good (entry c) t
    pub below : (j : ℕ) → j < D → (entry c j ≡ zer) ⊎ (before (s j) t ≡ true)
    pub leading : (p : ℕ) → p < length L → lead_of p ≡ t → (j : ℕ) → j < D → entry c j ≡ neg (coefficient (arith_of F) n (rest_at n L p) (s j))

  -- a coefficient of a polynomial before b
  coef_below : (b : Mono n) (p : Poly K n) (m : Mono n) → AllByRecursion (λ x. before x.1 b ≡ true) p → (coefficient (arith_of F) n p m ≡ zer) ⊎ (before m b ≡ true)
  coef_below b [] m h = inl refl
  coef_below b (x ∷ p) m h = go (equal n m x.1) refl (coef_below b p m h.1)
    where
      go : (c : Bool) → equal n m x.1 ≡ c → (coefficient (arith_of F) n p m ≡ zer) ⊎ (before m b ≡ true) → (x.0 ⊗ cond c one zer ⊕ coefficient (arith_of F) n p m ≡ zer) ⊎ (before m b ≡ true)
      go true e y = inr (subst (λ (a : Mono n). before a b ≡ true) (sym (equal_eq n m x.1 e)) h.0)
      go false e (inl y) = inl (ap₂ (λ a b. a ⊕ b) (field.mul_zero F x.0) y ∙ add_zero zer)
      go false e (inr y) = inr y

  unit_at : (r : ℕ) → r < D → (u : Mono n) → s r ≡ u → (j : ℕ) → j < D → cond (equal n (s j) u) one zer ≡ basis F r j
  unit_at r l u e j q = go (ℕ_discrete r j)
    where
      off : (r ≡ j → ⊥) → (b : Bool) → equal n (s j) u ≡ b → cond b one zer ≡ zer
      off d true h = absurd (d (distinct r j l q (e ∙ sym (equal_eq n (s j) u h))))
      off d false h = refl

      go : Dec (r ≡ j) → cond (equal n (s j) u) one zer ≡ basis F r j
      go (yes z) = subst (λ (j : ℕ). cond (equal n (s j) u) one zer ≡ basis F r j) z (ap (λ b. cond b one zer) (subst (λ (m : Mono n). equal n (s r) m ≡ true) e (equal_refl n (s r))) ∙ sym (sums.basis_same F r))
      go (no d) = off d (equal n (s j) u) refl ∙ sym (sums.basis_other F r j d)

  form_in : (tab : Table K n) (u : Mono n) → Has n u S → form_of tab u ≡ build D (λ j. cond (equal n (s j) u) one zer)
  form_in tab u h = ap (λ b. cond b (build D (λ j. cond (equal n (s j) u) one zer)) (look n tab u)) h

  pub form_out : (tab : Table K n) (u : Mono n) → any (equal n u) S ≡ false → form_of tab u ≡ look n tab u
  form_out tab u h = ap (λ b. cond b (build D (λ j. cond (equal n (s j) u) one zer)) (look n tab u)) h

  pub form_unit : (tab : Table K n) (r : ℕ) → r < D → (u : Mono n) → s r ≡ u → (j : ℕ) → j < D → entry (form_of tab u) j ≡ basis F r j
  form_unit tab r l u e j q =
      ap (λ (c : List K). entry c j) (form_in tab u (subst (λ (m : Mono n). Has n m S) e (monos.has_at n S r l)))
      ∙ lists.get_or_build D (λ j. cond (equal n (s j) u) one zer) zer j q
      ∙ unit_at r l u e j q

  module _ (tab : Table K n) (t : Mono n) (et : Edge t) (older : (u : Mono n) → Edge u → before u t ≡ true → Right u (look n tab u)) where
    -- the forms of the monomials before t
    form_half : (u : Mono n) → Has n u S ⊎ Edge u → before u t ≡ true → Good (entry (form_of tab u)) u × ((j : ℕ) → j < D → (entry (form_of tab u) j ≡ zer) ⊎ (before (s j) t ≡ true))
    form_half u (inl h) l =
        let x = monos.has_among n u S h in (
          good_ext (basis F x.0) _ u (λ j q. sym (form_unit tab x.0 x.1 u x.2 j q)) (subst (Good (basis F x.0)) x.2 (columns.good_inner F n L D s x.0 x.1)),
          λ j q. go x.0 x.1 x.2 j q (ℕ_discrete x.0 j),
        )
      where
        go : (r : ℕ) → r < D → s r ≡ u → (j : ℕ) → j < D → Dec (r ≡ j) → (entry (form_of tab u) j ≡ zer) ⊎ (before (s j) t ≡ true)
        go r p e j q (yes z) = inr (subst (λ (m : Mono n). before m t ≡ true) (sym e ∙ ap s z) l)
        go r p e j q (no d) = inl (form_unit tab r p u e j q ∙ sums.basis_other F r j d)
    form_half u (inr e) l =
        let x = older u e l in
        subst (λ (c : List K). Good (entry c) u × ((j : ℕ) → j < D → (entry c j ≡ zer) ⊎ (before (s j) t ≡ true))) (sym (form_out tab u e.out))
        (x.good, λ j q. go j q (x.below j q))
      where
        go : (j : ℕ) → j < D → (entry (look n tab u) j ≡ zer) ⊎ (before (s j) u ≡ true) → (entry (look n tab u) j ≡ zer) ⊎ (before (s j) t ≡ true)
        go j q (inl z) = inl z
        go j q (inr z) = inr (O.chain (s j) u t (s_small j q) (edge_small u e) (edge_small t et) z l)

  coef_out : (p : Poly K n) (m : Mono n) → any (equal n m) S ≡ false → AllByRecursion (λ x. any (equal n x.1) S ≡ true) p → coeff F n p m ≡ zer
  coef_out [] m h e = refl
  coef_out (x ∷ p) m h e = go (equal n m x.1) refl (coef_out p m h e.1)
    where
      go : (c : Bool) → equal n m x.1 ≡ c → coeff F n p m ≡ zer → x.0 ⊗ cond c one zer ⊕ coeff F n p m ≡ zer
      go true z ih = absurd (false≢true (sym h ∙ ap (λ (a : Mono n). any (equal n a) S) (equal_eq n m x.1 z) ∙ e.0))
      go false z ih = ap₂ (λ a b. a ⊕ b) (field.mul_zero F x.0) ih ∙ add_zero zer

  -- a polynomial of staircase monomials by its coefficients
  rest_is : (p : Poly K n) → AllByRecursion (λ x. any (equal n x.1) S ≡ true) p → (c : ℕ → K) → ((j : ℕ) → j < D → c j ≡ coeff F n p (s j)) → ◌≈◌ F n p (combination D s c)
  rest_is p h c e m = sym (polys.ev_combination F s D c _ ∙ go (cases_Bool (any (equal n m) S)))
    where
      inside : (r : ℕ) → r < D → s r ≡ m → (j : ℕ) → j < D → cond (equal n m (s j)) one zer ≡ basis F j r
      inside r l z j q = at (ℕ_discrete j r)
        where
          off : (j ≡ r → ⊥) → (b : Bool) → equal n m (s j) ≡ b → cond b one zer ≡ zer
          off d true y = absurd (d (distinct j r q l (sym (equal_eq n m (s j) y) ∙ sym z)))
          off d false y = refl

          at : Dec (j ≡ r) → cond (equal n m (s j)) one zer ≡ basis F j r
          at (yes y) = ap (λ b. cond b one zer) (subst (λ (i : ℕ). equal n m (s i) ≡ true) (sym y) (subst (λ (x : Mono n). equal n m x ≡ true) (sym z) (equal_refl n m))) ∙ sym (subst (λ (i : ℕ). basis F i r ≡ one) (sym y) (sums.basis_same F r))
          at (no d) = off d (equal n m (s j)) refl ∙ sym (sums.basis_other F j r d)

      go : (any (equal n m) S ≡ true) ⊎ (any (equal n m) S ≡ false) → sum F D (λ j. c j ⊗ cond (equal n m (s j)) one zer) ≡ coeff F n p m
      go (inl y) =
          let x = monos.has_among n m S y in
          sums.sum_ext F D _ _ (λ j q. ap (λ z. c j ⊗ z) (inside x.0 x.1 x.2 j q))
          ∙ sums.sum_at F D c x.0 x.1
          ∙ e x.0 x.1
          ∙ ap (coeff F n p) x.2
      go (inr y) =
          sums.sum_zero F D _ (λ j q. ap (λ z. c j ⊗ z) (off j q (equal n m (s j)) refl) ∙ field.mul_zero F _)
          ∙ sym (coef_out p m y h)
        where
          off : (j : ℕ) → j < D → (b : Bool) → equal n m (s j) ≡ b → cond b one zer ≡ zer
          off j q true z = absurd (false≢true (sym y ∙ subst (λ (x : Mono n). Has n x S) (sym (equal_eq n m (s j) z)) (monos.has_at n S j q)))
          off j q false z = refl

  abbrev pub is_lead : Mono n → Bool
  is_lead t = any (λ (p : Poly K n). equal n (lead n p) t) L

  -- polynomial p, by its leading monomial and the forms of the first rule
  pub poly_is : (p : ℕ) → p < length L → (t : Mono n) → lead_of p ≡ t → (c : ℕ → K) → ((j : ℕ) → j < D → c j ≡ neg (coefficient (arith_of F) n (rest_at n L p) (s j)))
      → ◌≈◌ F n (get_or L p []) ((one, t) ∷ combination D s (λ j. neg (c j)))
  poly_is p l t e c h m =
      ap (λ (x : Poly K n). coeff F n x m) (Q.monic p l)
      ∙ ap₂ (λ (x : Mono n) (y : K). one ⊗ cond (equal n m x) one zer ⊕ y) e
      (rest_is (rest_at n L p) (All-weaker _ _ (λ x. monos.among_has n x.1 S) (rest_at n L p) (Q.inside p l)) (λ j. neg (c j)) (λ j q. ap neg (h j q) ∙ field.neg_neg F _ ∙ coef_is F n _ (s j)) m)

  first_rule : (tab : Table K n) (t : Mono n) → is_lead t ≡ true → Right t (column_of tab t)
  first_rule tab t e =
      let x = rest_of_is F n L t e in
      let rule : column_of tab t ≡ opposite (arith_of F) n S L t = ap (λ b. cond b (opposite (arith_of F) n S L t) (replaced (arith_of F) n S tab (lowest n E t) (form_of tab (lower n (lowest n E t) t)))) e in
      let val : (j : ℕ) → j < D → entry (column_of tab t) j ≡ neg (coefficient (arith_of F) n (rest_at n L x.0) (s j)) =
      λ j q. ap (λ (c : List K). entry c j) rule ∙ lists.get_or_build D _ zer j q ∙ ap (λ (p : Poly K n). neg (coefficient (arith_of F) n p (s j))) x.3 in
      record {
        good = columns.good_member F n L D s (entry (column_of tab t)) t (ideals.generator_member F n L x.0 x.1 ((one, t) ∷ combination D s (λ j. neg (entry (column_of tab t) j))) (poly_is x.0 x.1 t x.2 (entry (column_of tab t)) val));
        below = λ j q. low-coef j q (val j q) (coef_below t (rest_at n L x.0) (s j) (subst (λ (b : Mono n). AllByRecursion (λ y. before y.1 b ≡ true) (rest_at n L x.0)) x.2 (Q.falls x.0 x.1)));
        leading = λ p l z j q.
            let same : x.0 ≡ p = Q.apart x.0 p x.1 l (subst (λ (m : Mono n). divides n (lead_of x.0) m ≡ true) (x.2 ∙ sym z) (monos.divides_self n (lead_of x.0))) in
            val j q ∙ ap (λ (p : ℕ). neg (coefficient (arith_of F) n (rest_at n L p) (s j))) same;
      }
    where
      low-coef : (j : ℕ) → j < D → {a b : K} → a ≡ neg b → (b ≡ zer) ⊎ (before (s j) t ≡ true) → (a ≡ zer) ⊎ (before (s j) t ≡ true)
      low-coef j q e (inl z) = inl (e ∙ ap neg z ∙ field.neg_zero F)
      low-coef j q e (inr z) = inr z

  -- a border monomial that leads nothing has a border monomial below it
  edge_below : (t : Mono n) → Edge t → is_lead t ≡ false → (k : ℕ) × (k < n) × (1 ≤ exponent n t k) × Edge (lower n k t)
  edge_below t e no_lead = go (cases_Bool (is_free t))
    where
      no-lead-at : (p : ℕ) → p < length L → lead_of p ≡ t → ⊥
      no-lead-at p l z = false≢true (sym no_lead ∙ lists.any_at (λ (p : Poly K n). equal n (lead n p) t) [] L p l (subst (λ (m : Mono n). equal n (lead_of p) m ≡ true) z (equal_refl n (lead_of p))))

      at : (p : ℕ) → p < length L → divides n (lead_of p) t ≡ true → (k : ℕ) → k < n → exponent n (lead_of p) k < exponent n t k → (k : ℕ) × (k < n) × (1 ≤ exponent n t k) × Edge (lower n k t)
      at p l d k kn less = (k, kn, omega arith, edge)
        where
          divides-u : divides n (lead_of p) (lower n k t) ≡ true
          divides-u = monos.divides_from n _ _ (λ j q. each j q (ℕ_discrete k j))
            where
              each : (j : ℕ) → j < n → Dec (k ≡ j) → exponent n (lead_of p) j ≤ exponent n (lower n k t) j
              each j q (yes z) = subst (λ (j : ℕ). exponent n (lead_of p) j ≤ exponent n (lower n k t) j) z (omega (arith, monos.exp_lower n k t))
              each j q (no z) = omega (arith, monos.exp_lower_off n k j z t, monos.divides_to n (lead_of p) t d j q)

          not_free : is_free (lower n k t) ≡ true → ⊥
          not_free y = free_no (lower n k t) y p l divides-u

          out : any (equal n (lower n k t)) S ≡ false
          out = pick (cases_Bool (any (equal n (lower n k t)) S))
            where
              pick : (any (equal n (lower n k t)) S ≡ true) ⊎ (any (equal n (lower n k t)) S ≡ false) → any (equal n (lower n k t)) S ≡ false
              pick (inl y) = absurd (not_free (stairs_to _ y))
              pick (inr y) = y

          apart : e.k ≡ k → ⊥
          apart z = not_free (subst (λ (m : Mono n). is_free m ≡ true) (sym (ap₂ (λ (a : ℕ) (b : Mono n). lower n a b) (sym z) e.is ∙ monos.lower_raise n e.k e.kn (s e.i))) (s_free e.i e.within))

          has : 1 ≤ exponent n (s e.i) k
          has = omega (arith, ap (λ (m : Mono n). exponent n m k) e.is, monos.exp_raise_off n e.k k apart (s e.i))

          down : Mono n
          down = lower n k (s e.i)

          up-down : X k down ≡ s e.i
          up-down = monos.raise_lower n k kn (s e.i) has

          down-free : is_free down ≡ true
          down-free = free_down down (s e.i) (subst (λ (m : Mono n). divides n down m ≡ true) up-down (monos.divides_raise n k kn down)) (s_free e.i e.within)

          is : lower n k t ≡ X e.k down
          is =
              ap (lower n k) (e.is ∙ ap (X e.k) (sym up-down) ∙ sym (assoc n _ _ _) ∙ ap (λ (m : Mono n). times n m down) (comm n (var n e.k) (var n k)) ∙ assoc n _ _ _)
              ∙ monos.lower_raise n k kn (X e.k down)

          edge : Edge (lower n k t)
          edge =
              let x = monos.has_among n down S (stairs_from down down-free) in
              record { k = e.k; i = x.0; kn = e.kn; within = x.1; is = is ∙ ap (X e.k) (sym x.2); out = out }

      go : (is_free t ≡ true) ⊎ (is_free t ≡ false) → (k : ℕ) × (k < n) × (1 ≤ exponent n t k) × Edge (lower n k t)
      go (inl y) = absurd (false≢true (sym e.out ∙ stairs_from t y))
      go (inr y) = let x = free_find t y in strictly x.0 x.1 x.2 (monos.strict n (lead_of x.0) t x.2)
        where
          strictly : (p : ℕ) → p < length L → divides n (lead_of p) t ≡ true → (lead_of p ≡ t) ⊎ ((k : ℕ) × (k < n) × (exponent n (lead_of p) k < exponent n t k)) → (k : ℕ) × (k < n) × (1 ≤ exponent n t k) × Edge (lower n k t)
          strictly p l d (inl z) = absurd (no-lead-at p l z)
          strictly p l d (inr z) = at p l d z.0 z.1 z.2

  pub lowest_is : (t : Mono n) → Edge t → is_lead t ≡ false → (lowest n E t < n) × (1 ≤ exponent n t (lowest n E t)) × Edge (lower n (lowest n E t) t)
  lowest_is t e no_lead =
      let x = edge_below t e no_lead in
      let y = lists.least_found n (λ k. leb 1 (exponent n t k) && any (equal n (lower n k t)) E) x.0 x.1 (ap₂ ◌&&◌ (le-leb 1 _ x.2) (edge_from _ x.3)) in
      (y.0, leb-true 1 _ (and_parts _ _ y.1).0, borders.edge_of n before S _ (and_parts (leb 1 (exponent n t (lowest n E t))) _ y.1).1)

  second_rule : (tab : Table K n) (t : Mono n) (et : Edge t) → ((u : Mono n) → Edge u → before u t ≡ true → Right u (look n tab u)) → is_lead t ≡ false → Right t (column_of tab t)
  second_rule tab t et older no_lead = go (lowest n E t) refl (lowest_is t et no_lead)
    where
      go : (k : ℕ) → lowest n E t ≡ k → (lowest n E t < n) × (1 ≤ exponent n t (lowest n E t)) × Edge (lower n (lowest n E t) t) → Right t (column_of tab t)
      go k is x = record { good = good; below = below; leading = λ p l z. absurd (false≢true (sym no_lead ∙ lists.any_at (λ (p : Poly K n). equal n (lead n p) t) [] L p l (subst (λ (m : Mono n). equal n (lead_of p) m ≡ true) z (equal_refl n (lead_of p))))) }
        where
          kn : k < n
          kn = subst (λ (a : ℕ). a < n) is x.0

          u : Mono n
          u = lower n k t

          up : X k u ≡ t
          up = monos.raise_lower n k kn t (subst (λ (a : ℕ). 1 ≤ exponent n t a) is x.1)

          eu : Edge u
          eu = subst (λ (a : ℕ). Edge (lower n a t)) is x.2

          less : before u t ≡ true
          less = subst (λ (m : Mono n). before u m ≡ true) up (O.above k kn u (subst (Small n) (sym up) (edge_small t et)))

          fu : List K
          fu = form_of tab u

          right : Right u fu
          right = subst (Right u) (sym (form_out tab u eu.out)) (older u eu less)

          A : ℕ → ℕ → K
          A j i = entry (form_of tab (X k (s i))) j

          val : (j : ℕ) → j < D → entry (column_of tab t) j ≡ apply F D A (entry fu) j
          val j q =
              ap (λ b. entry (cond b (opposite (arith_of F) n S L t) (replaced (arith_of F) n S tab (lowest n E t) (form_of tab (lower n (lowest n E t) t)))) j) no_lead
              ∙ ap (λ (a : ℕ). entry (replaced (arith_of F) n S tab a (form_of tab (lower n a t))) j) is
              ∙ lists.get_or_build D _ zer j q
              ∙ total_is F n D _

          stands : (i : ℕ) → i < D → Has n (X k (s i)) S ⊎ Edge (X k (s i))
          stands i q = pick (cases_Bool (any (equal n (X k (s i))) S))
            where
              pick : (any (equal n (X k (s i))) S ≡ true) ⊎ (any (equal n (X k (s i))) S ≡ false) → Has n (X k (s i)) S ⊎ Edge (X k (s i))
              pick (inl y) = inl y
              pick (inr y) = inr (record { k = k; i = i; kn = kn; within = q; is = refl; out = y })

          half : (i : ℕ) → i < D → before (s i) u ≡ true → Good (λ j. A j i) (X k (s i)) × ((j : ℕ) → j < D → (A j i ≡ zer) ⊎ (before (s j) t ≡ true))
          half i q l =
              form_half tab t et older (X k (s i)) (stands i q)
              (subst (λ (m : Mono n). before (X k (s i)) m ≡ true) up (O.raised k kn (s i) u (up_small i q k kn) (subst (Small n) (sym up) (edge_small t et)) l))

          good : Good (entry (column_of tab t)) t
          good =
              good_ext (apply F D A (entry fu)) _ t (λ j q. sym (val j q))
              (subst (Good (apply F D A (entry fu))) up
              (columns.good_times F n L D s (var n k) A (entry fu) u (λ i q. pick i q (right.below i q)) right.good))
            where
              pick : (i : ℕ) → i < D → (entry fu i ≡ zer) ⊎ (before (s i) u ≡ true) → (entry fu i ≡ zer) ⊎ Good (λ j. A j i) (X k (s i))
              pick i q (inl z) = inl z
              pick i q (inr l) = inr (half i q l).0

          below : (j : ℕ) → j < D → (entry (column_of tab t) j ≡ zer) ⊎ (before (s j) t ≡ true)
          below j q = pick (cases_Bool (before (s j) t))
            where
              gone : before (s j) t ≡ false → (i : ℕ) → i < D → (entry fu i ≡ zer) ⊎ (before (s i) u ≡ true) → A j i ⊗ entry fu i ≡ zer
              gone nb i l (inl z) = ap (λ y. A j i ⊗ y) z ∙ field.mul_zero F _
              gone nb i l (inr z) = last ((half i l z).1 j q)
                where
                  last : (A j i ≡ zer) ⊎ (before (s j) t ≡ true) → A j i ⊗ entry fu i ≡ zer
                  last (inl y) = ap (λ a. a ⊗ entry fu i) y ∙ field.zero_mul F _
                  last (inr y) = absurd (false≢true (sym nb ∙ y))

              pick : (before (s j) t ≡ true) ⊎ (before (s j) t ≡ false) → (entry (column_of tab t) j ≡ zer) ⊎ (before (s j) t ≡ true)
              pick (inl y) = inr y
              pick (inr y) = inl (val j q ∙ sums.sum_zero F D _ (λ i l. gone y i l (right.below i l)))

  pub any_rule : (tab : Table K n) (t : Mono n) (et : Edge t) → ((u : Mono n) → Edge u → before u t ≡ true → Right u (look n tab u)) → Right t (column_of tab t)
  any_rule tab t et older = go (cases_Bool (is_lead t))
    where
      go : (is_lead t ≡ true) ⊎ (is_lead t ≡ false) → Right t (column_of tab t)
      go (inl e) = first_rule tab t e
      go (inr e) = second_rule tab t et older e
