-- Hankel tables: a table of independent rows exists, its rows are independent where no recurrence is shorter, and they tell a vector.
use Rattle.std.proofs.Common.{◌≡◌, ℕ, zero, suc, ◌+◌, ◌-◌, ◌<◌, ◌≤◌, ◌≢◌, ◌⊎◌, ◌↔◌, sym, ap, ◌∙◌, subst, ap₂, inl, inr, add_comm as plus_comm, le_antisymm, arith}
use native.Mathlib.Decide.{ℕ_discrete, dec_lt}
use Rattle.algebra.specs.Field.{Field}
use Rattle.algebra.specs.Vector.{sum, dot, basis, Combines, Independent, Least, LinearMap, krylov}
use Rattle.linear.specs.Recurrence.{Recurs}
use Rattle.linear.specs.Hankel.{hankel, measured, Table}
use Rattle.algebra.proofs.Laws
use Rattle.algebra.proofs.Sums
use Rattle.algebra.proofs.Dual as Duals
use Rattle.algebra.proofs.Span
use Rattle.algebra.proofs.Maps

module _ {K : Type 0} (F : Field K) where
  open F use {zer, one, ◌⊕◌, ◌⊗◌, neg, inv, add_assoc, add_comm, add_zero, add_neg, mul_assoc, mul_comm, mul_one, distrib, mul_inv, one_ne, same}

  infixl 65 ◌⊕◌
  infixl 70 ◌⊗◌
  -- a sequence that begins 0 .. 0 1 has a table with independent rows
  pub corner : (D : ℕ) (s : ℕ → K) → ((j : ℕ) → j < suc D → s j ≡ basis F D j) → Independent F (suc D) (suc D) (hankel F s)
  corner D s h a e i l = down (suc D) i l (omega arith)
    where
      term : (k i : ℕ) → ((i' : ℕ) → i' < suc D → suc D ≤ i' + k → a i' ≡ zer) → i + k ≡ D → (i' : ℕ) → i' < suc D → i' ≢ i → a i' ⊗ s (i' + k) ≡ zer
      term k i ih p i' l ne = go (dec_lt i' i)
        where
          go : Dec (i' < i) → a i' ⊗ s (i' + k) ≡ zer
          go (yes m) = ap (λ z. a i' ⊗ z) (h (i' + k) (omega arith) ∙ Sums.basis_other F D (i' + k) (omega arith)) ∙ Laws.mul_zero F _
          go (no m) = ap (λ z. z ⊗ s (i' + k)) (ih i' l (omega arith)) ∙ Laws.zero_mul F _

      at : (k i : ℕ) → ((i' : ℕ) → i' < suc D → suc D ≤ i' + k → a i' ≡ zer) → i < suc D → Dec (i + k ≡ D) → suc D ≤ i + suc k → a i ≡ zer
      at k i ih l (no p) m = ih i l (omega arith)
      at k i ih l (yes p) m =
          sym (mul_one (a i)) ∙ ap (λ z. a i ⊗ z) (sym (ap s p ∙ h D (omega arith) ∙ Sums.basis_same F D))
          ∙ sym (Sums.sum_single F (suc D) i (λ i'. a i' ⊗ s (i' + k)) l (term k i ih p))
          ∙ e k (omega arith)

      down : (k i : ℕ) → i < suc D → suc D ≤ i + k → a i ≡ zer
      down zero i l m = absurd (omega arith)
      down (suc k) i l m = at k i (down k) l (ℕ_discrete (i + k) D) m

  -- where D vectors are independent, some functional has a table of independent rows
  pub full : (D : ℕ) (v : ℕ → ℕ → K) → Independent F D D v → (r : ℕ → K) × Independent F D D (hankel F (λ j. dot F D r (v j)))
  full zero v h = (λ i. zer, λ c e j l. absurd (omega arith))
  full (suc D) v h = let x = Span.functional F D v h in (x.0, corner D _ x.1)

  -- a sequence with a recurrence of length D whose first D values are zero
  pub all_zero : (D : ℕ) (c x : ℕ → K) → ((j : ℕ) → x (D + j) ≡ sum F D (λ i. c i ⊗ x (i + j))) → ((j : ℕ) → j < D → x j ≡ zer) → (j : ℕ) → x j ≡ zer
  all_zero D c x rec h j = below (suc j) j (omega arith)
    where
      at : (n j : ℕ) → ((i : ℕ) → i < n → x i ≡ zer) → j < suc n → Dec (j < D) → x j ≡ zer
      at n j ih l (yes m) = h j m
      at n j ih l (no m) =
          ap x {x = j} {y = D + (j - D)} (omega arith) ∙ rec (j - D)
          ∙ Sums.sum_zero F D _ (λ i k. ap (λ z. c i ⊗ z) (ih (i + (j - D)) (omega arith)) ∙ Laws.mul_zero F (c i))

      below : (n j : ℕ) → j < n → x j ≡ zer
      below zero j l = absurd (omega arith)
      below (suc n) j l = at n j (below n) l (dec_lt j D)

  -- a sequence with a recurrence of length D
  module _ (D : ℕ) (s c : ℕ → K) (rec : (j : ℕ) → s (D + j) ≡ sum F D (λ i. c i ⊗ s (i + j))) where
    pub whole : Recurs F s (D + D) D
    whole = (c, λ j l. ap s (plus_comm j D) ∙ rec j ∙ Sums.sum_ext F D _ _ (λ i m. ap (λ z. c i ⊗ s z) (plus_comm i j)))

    -- a combination of the rows that holds at D places holds everywhere
    onwards : (a : ℕ → K) → ((j : ℕ) → j < D → dot F D a (λ k. s (k + j)) ≡ zer) → (j : ℕ) → dot F D a (λ k. s (k + j)) ≡ zer
    onwards a = all_zero D c (λ j. dot F D a (λ k. s (k + j))) (λ j.
        Sums.sum_ext F D _ _ (λ k l. ap (λ z. a k ⊗ z) (ap s {x = k + (D + j)} {y = D + (k + j)} (omega arith) ∙ rec (k + j) ∙ Sums.sum_ext F D _ _ (λ i m. ap (λ z. c i ⊗ s z) {x = i + (k + j)} {y = k + (i + j)} (omega arith))))
        ∙ Duals.dot_comb_right F D D c (λ i k. s (k + (i + j))) a)

    -- the rows are independent, or there is a shorter recurrence
    pub rows : Independent F D D (hankel F s) ⊎ ((m : ℕ) × (m < D) × Recurs F s (D + D) m)
    rows = go (dec_lt B.d D)
      where
        B : Duals.Part F D (hankel F s)
        B = Duals.part F D (hankel F s)

        a : ℕ → K
        a = λ k. dot F D (B.r k) (hankel F s B.d)

        go : Dec (B.d < D) → Independent F D D (hankel F s) ⊎ ((m : ℕ) × (m < D) × Recurs F s (D + D) m)
        go (yes l) = inr (
          B.d,
          l,
          (
            a,
            λ j m.
                ap s (plus_comm j B.d)
                ∙ Span.relation_back F B.d D a (λ k. s (k + j)) l (onwards (Span.relation F B.d a) (λ j' l'. Span.relation_zero F B.d D a (λ k. s (k + j')) l (B.last j' l')) j)
                ∙ Sums.sum_ext F B.d _ _ (λ i k. ap (λ z. a i ⊗ s z) (plus_comm i j)),
          ),
        )
        go (no l) = inl (Span.dual→independent F D D B.r (hankel F s) (λ k j x y. B.dual k j (omega arith) (omega arith)))

  -- with independent rows no recurrence is shorter than D
  pub not_shorter : (D : ℕ) (s : ℕ → K) → Independent F D D (hankel F s) → (m : ℕ) → Recurs F s (D + D) m → D ≤ m
  not_shorter D s h m x = go (dec_lt m D)
    where
      go : Dec (m < D) → D ≤ m
      go (yes l) =
          Span.no_combination F D D m (hankel F s) h x.0 (λ j k. ap s (plus_comm m j) ∙ x.1 j (omega arith) ∙ Sums.sum_ext F m _ _ (λ i k'. ap (λ z. x.0 i ⊗ s z) (plus_comm j i)))
      go (no l) = omega arith

  pub hankel_least : (D : ℕ) (s c : ℕ → K) → ((j : ℕ) → s (D + j) ≡ sum F D (λ i. c i ⊗ s (i + j))) → (Independent F D D (hankel F s) → Least (Recurs F s (D + D)) D) × (Least (Recurs F s (D + D)) D → Independent F D D (hankel F s))
  hankel_least D s c rec = (λ h. (whole D s c rec, not_shorter D s h), λ x. back x (rows D s c rec))
    where
      back : Least (Recurs F s (D + D)) D → Independent F D D (hankel F s) ⊎ ((m : ℕ) × (m < D) × Recurs F s (D + D) m) → Independent F D D (hankel F s)
      back x (inl h) = h
      back x (inr y) = absurd (omega (arith, x.1 y.0 y.2, y.1))

  -- the length is D exactly where the table's rows are independent
  pub length_tells : (D : ℕ) (s c : ℕ → K) → ((j : ℕ) → s (D + j) ≡ sum F D (λ i. c i ⊗ s (i + j))) → (L : ℕ) → Least (Recurs F s (D + D)) L → (Independent F D D (hankel F s) → L ≡ D) × (L ≡ D → Independent F D D (hankel F s))
  length_tells D s c rec L x =
      let t = hankel_least D s c rec in
      (λ h. le_antisymm (x.1 D (t.0 h).0) ((t.0 h).1 L x.0), λ e. t.1 (subst (Least (Recurs F s (D + D))) e x))

  -- the sequence r T^j e of a linear map
  module _ (D : ℕ) (T : (ℕ → K) → ℕ → K) (lin : LinearMap F D T) (e : ℕ → K) where
    -- a combination of the Krylov vectors is measured by the same combination of the table's rows
    measures : (r c : ℕ → K) (j : ℕ) → measured F D T (λ x. sum F D (λ l. c l ⊗ krylov F T e l x)) r j ≡ sum F D (λ l. c l ⊗ measured F D T e r (l + j))
    measures r c j =
        ap (dot F D r) (Maps.krylov_comb F D T lin D c (krylov F T e) j)
        ∙ Duals.dot_comb_right F D D c (λ l. krylov F T (krylov F T e l) j) r
        ∙ Sums.sum_ext F D _ _ (λ l p. ap (λ (u : ℕ → K). c l ⊗ dot F D r u) (Maps.krylov_more F T e l j))

    -- a relation of the Krylov vectors is a recurrence of what is measured
    recurs : (r c : ℕ → K) → Combines F D D c (krylov F T e) (krylov F T e D) → (j : ℕ) → measured F D T e r (D + j) ≡ sum F D (λ k. c k ⊗ measured F D T e r (k + j))
    recurs r c h j = Sums.sum_ext F D _ _ (λ x p. ap (λ z. r x ⊗ z) (Maps.krylov_recurs F D T lin e D c h j x p)) ∙ Duals.dot_comb_right F D D c (λ k. krylov F T e (k + j)) r

    local : (r f g : ℕ → K) → ((i : ℕ) → i < D → f i ≡ g i) → (j : ℕ) → measured F D T f r j ≡ measured F D T g r j
    local r f g h j = Sums.sum_ext F D _ _ (λ i p. ap (λ z. r i ⊗ z) (Maps.krylov_local F D T lin f g h j i p))

    none : (r : ℕ → K) (j : ℕ) → measured F D T (λ x. zer) r j ≡ zer
    none r j = Sums.sum_zero F D _ (λ i p. ap (λ z. r i ⊗ z) (Maps.krylov_zero F D T lin j i) ∙ Laws.mul_zero F (r i))

    dot_add : (r f g : ℕ → K) → dot F D r (λ x. f x ⊕ g x) ≡ dot F D r f ⊕ dot F D r g
    dot_add r f g = Sums.sum_ext F D _ _ (λ i p. distrib (r i) (f i) (g i)) ∙ Sums.sum_add F D _ _

    module _ (r : ℕ → K) (rows-free : Independent F D D (hankel F (measured F D T e r))) where
      pub vectors_free : Independent F D D (krylov F T e)
      vectors_free c h = rows-free c (λ j p. sym (measures r c j) ∙ local r _ (λ x. zer) h j ∙ none r j)

      -- a vector that r T^j measures as zero is zero
      separates : (w : ℕ → K) → ((j : ℕ) → j < D → measured F D T w r j ≡ zer) → (i : ℕ) → i < D → w i ≡ zer
      separates w h i l =
          let x = Span.spans_once F D (krylov F T e) vectors_free w in
          let gone : (j : ℕ) → j < D → x.0 j ≡ zer = rows-free x.0 (λ j p. sym (measures r x.0 j) ∙ sym (local r w _ x.1 j) ∙ h j p) in
          x.1 i l ∙ Sums.sum_zero F D _ (λ j p. ap (λ z. z ⊗ krylov F T e j i) (gone j p) ∙ Laws.zero_mul F _)

      pub coordinates : (w h : ℕ → K) → ((j : ℕ) → j < D → sum F D (λ l. h l ⊗ measured F D T e r (l + j)) ≡ measured F D T w r j) ↔ Combines F D D h (krylov F T e) w
      coordinates w h = (
        λ solves i l.
            sym (Laws.from_diff F _ _
            (ap (λ z. sum F D (λ k. h k ⊗ krylov F T e k i) ⊕ z) (sym (Laws.neg_mul F one (w i) ∙ ap neg (Laws.one_mul F (w i))))
            ∙ separates (λ x. sum F D (λ k. h k ⊗ krylov F T e k x) ⊕ neg one ⊗ w x)
            (λ j p.
            ap (dot F D r) (Maps.krylov_add F D T lin _ _ j ∙ ap (λ (u : ℕ → K). λ x. krylov F T (λ x. sum F D (λ k. h k ⊗ krylov F T e k x)) j x ⊕ u x) (Maps.krylov_scale F D T lin (neg one) w j))
            ∙ Duals.dot_axpy_right F D r _ _ (neg one)
            ∙ ap (λ z. z ⊕ neg one ⊗ measured F D T w r j) (measures r h j ∙ solves j p)
            ∙ Laws.minus_self F _)
            i l)),
        λ combines j p. sym (measures r h j) ∙ sym (local r w _ combines j),
      )

      pub monic : (g : ℕ → K) → ((j : ℕ) → j < D → sum F D (λ l. g l ⊗ measured F D T e r (l + j)) ⊕ measured F D T e r (D + j) ≡ zer) ↔ ((i : ℕ) → i < D → sum F D (λ l. g l ⊗ krylov F T e l i) ⊕ krylov F T e D i ≡ zer)
      monic g = (
        λ recurs i l. separates (λ x. sum F D (λ l. g l ⊗ krylov F T e l x) ⊕ krylov F T e D x) (λ j p. both j ∙ recurs j p) i l,
        λ relation j p. sym (both j) ∙ local r _ (λ x. zer) relation j ∙ none r j,
      )
        where
          both : (j : ℕ) → measured F D T (λ x. sum F D (λ l. g l ⊗ krylov F T e l x) ⊕ krylov F T e D x) r j ≡ sum F D (λ l. g l ⊗ measured F D T e r (l + j)) ⊕ measured F D T e r (D + j)
          both j =
              ap (dot F D r) (Maps.krylov_add F D T lin _ _ j)
              ∙ dot_add r _ _
              ∙ ap₂ (λ x y. x ⊕ y) (measures r g j) (ap (dot F D r) (Maps.krylov_more F T e D j))

    pub table : Table F D T e
    table = record {
      length_decides = λ free r l x.
          let last = Span.spans_once F D (krylov F T e) free (krylov F T e D) in
          length_tells D (measured F D T e r) last.0 (recurs r last.0 last.1) l x;
      some_vector = full D (krylov F T e);
      vectors_free = vectors_free;
      rows_are_coordinates = coordinates;
      monic_is_relation = monic;
    }
