-- Elimination over any field.
--   reduced_along   the reduction looks only at the first places and rows
--   combination     a vector of which nothing is left is the combination that its coordinates say
--   outside         a vector of which something is left is none
--   full            as many rows as places leave nothing of any vector
--   one_more        what is left of a vector, scaled, is one more row of the table
--   taken_along     the rows taken stay while a table is written after them
use Rattle.std.proofs.Common.{◌≡◌, ℕ, zero, suc, ◌+◌, ◌<◌, ◌≤◌, ◌≢◌, sym, refl, ap, ◌∙◌, subst, ap₂, arith}
use native.Mathlib.Decide.{ℕ_discrete, dec_lt}
use Rattle.algebra.specs.Field.{Field}
use Rattle.algebra.specs.Vector.{sum, Combines, Independent}
use Rattle.linear.specs.Echelon.{reduced, Depends, Echelon, Taken}
use Rattle.algebra.proofs.Laws as field
use Rattle.algebra.proofs.Sums
use Rattle.linear.proofs.Places.{Distinct, filled}

-- the reduction looks only at the first W places and at the first n rows
module _ {A : Type 0} (add mul : A → A → A) (neg : A → A) where
  pub reduced_along : (W : ℕ) (u u' : ℕ → ℕ → A) (p p' : ℕ → ℕ) (x x' : ℕ → A) (n : ℕ)
      → ((i k : ℕ) → i < n → k < W → u i k ≡ u' i k) → ((i : ℕ) → i < n → p i ≡ p' i) → ((i : ℕ) → i < n → p i < W) → ((k : ℕ) → k < W → x k ≡ x' k)
      → (k : ℕ) → k < W → reduced add mul neg u p x n k ≡ reduced add mul neg u' p' x' n k
  reduced_along W u u' p p' x x' zero su sp lt sx k h = sx k h
  reduced_along W u u' p p' x x' (suc n) su sp lt sx k h =
      let ih = reduced_along W u u' p p' x x' n (λ i j l. su i j (omega arith)) (λ i l. sp i (omega arith)) (λ i l. lt i (omega arith)) sx in
      ap₂ add (ih k h) (ap₂ (λ a b. mul (neg a) b) (ih (p n) (lt n (omega arith)) ∙ ap (reduced add mul neg u' p' x' n) (sp n (omega arith))) (su n k (omega arith) h))

module _ {K : Type 0} (F : Field K) where
  open F use {zer, one, ◌⊕◌, ◌⊗◌, neg, inv, add_assoc, add_comm, add_zero, add_neg, mul_assoc, mul_comm, mul_one, distrib, one_ne}

  infixl 65 ◌⊕◌
  infixl 70 ◌⊗◌
  -- zero and any multiple of zero is zero
  still_zero : (a b c : K) → a ≡ zer → c ≡ zer → a ⊕ b ⊗ c ≡ zer
  still_zero a b c p q = ap₂ (λ x y. x ⊕ b ⊗ y) p q ∙ ap (λ x. zer ⊕ x) (field.mul_zero F b) ∙ add_zero zer

  still_zero_left : (a b c : K) → a ≡ zer → b ≡ zer → a ⊕ neg b ⊗ c ≡ zer
  still_zero_left a b c p q = ap₂ (λ x y. x ⊕ neg y ⊗ c) p q ∙ ap (λ x. zer ⊕ x ⊗ c) (field.neg_zero F) ∙ ap (λ x. zer ⊕ x) (field.zero_mul F c) ∙ add_zero zer

  -- a less its own multiple by an inverse
  taken_away : (a q b : K) → a ⊗ q ≡ one → b ⊕ neg a ⊗ (q ⊗ b) ≡ zer
  taken_away a q b e =
      ap (λ x. b ⊕ x) (field.neg_mul F a (q ⊗ b) ∙ ap neg (sym (mul_assoc a q b) ∙ ap (λ x. x ⊗ b) e ∙ field.one_mul F b)) ∙ add_neg b

  abbrev R : (ℕ → ℕ → K) → (ℕ → ℕ) → (ℕ → K) → ℕ → ℕ → K
  R = reduced ◌⊕◌ ◌⊗◌ neg

  module _ (u : ℕ → ℕ → K) (p : ℕ → ℕ) where
    -- the reduction is linear
    reduced_zero : (n k : ℕ) → R u p (λ j. zer) n k ≡ zer
    reduced_zero zero k = refl
    reduced_zero (suc n) k = still_zero_left _ _ _ (reduced_zero n k) (reduced_zero n (p n))

    reduced_add : (x y : ℕ → K) (n k : ℕ) → R u p (λ j. x j ⊕ y j) n k ≡ R u p x n k ⊕ R u p y n k
    reduced_add x y zero k = refl
    reduced_add x y (suc n) k =
        ap₂ (λ a b. a ⊕ neg b ⊗ u n k) (reduced_add x y n k) (reduced_add x y n (p n)) ∙ apart _ _ _ _ (u n k)
      where
        apart : (a b c e w : K) → (a ⊕ b) ⊕ neg (c ⊕ e) ⊗ w ≡ (a ⊕ neg c ⊗ w) ⊕ (b ⊕ neg e ⊗ w)
        apart a b c e w =
            ap (λ z. (a ⊕ b) ⊕ z) (ap (λ z. z ⊗ w) (field.neg_is F (c ⊕ e) ∙ distrib (neg one) c e ∙ ap₂ (λ y z. y ⊕ z) (sym (field.neg_is F c)) (sym (field.neg_is F e))) ∙ field.distrib_right F _ _ w)
            ∙ simp (add_assoc, field.add_left_comm F)

    reduced_scale : (c : K) (x : ℕ → K) (n k : ℕ) → R u p (λ j. c ⊗ x j) n k ≡ c ⊗ R u p x n k
    reduced_scale c x zero k = refl
    reduced_scale c x (suc n) k =
        ap₂ (λ a b. a ⊕ neg b ⊗ u n k) (reduced_scale c x n k) (reduced_scale c x n (p n))
        ∙ ap (λ z. c ⊗ R u p x n k ⊕ z) (ap (λ z. z ⊗ u n k) (sym (field.mul_neg F c _)) ∙ mul_assoc c _ _) ∙ sym (distrib c _ _)

    reduced_sum : (c : ℕ → K) (x : ℕ → ℕ → K) (r n k : ℕ) → R u p (λ j. sum F r (λ l. c l ⊗ x l j)) n k ≡ sum F r (λ l. c l ⊗ R u p (x l) n k)
    reduced_sum c x zero n k = reduced_zero n k
    reduced_sum c x (suc r) n k =
        reduced_add (λ j. sum F r (λ l. c l ⊗ x l j)) (λ j. c r ⊗ x r j) n k ∙ ap₂ (λ a b. a ⊕ b) (reduced_sum c x r n k) (reduced_scale (c r) (x r) n k)

    -- a place where the vector and the rows are zero stays zero
    reduced_blank : (x : ℕ → K) (n k : ℕ) → x k ≡ zer → ((i : ℕ) → i < n → u i k ≡ zer) → R u p x n k ≡ zer
    reduced_blank x zero k e h = e
    reduced_blank x (suc n) k e h = still_zero _ _ _ (reduced_blank x n k e (λ i l. h i (omega arith))) (h n (omega arith))

    -- at the pivots of the rows nothing is left
    pivots_zero : (x : ℕ → K) (n : ℕ) → ((i : ℕ) → i < n → u i (p i) ≡ one) → ((i l : ℕ) → i < l → l < n → u l (p i) ≡ zer) → (i : ℕ) → i < n → R u p x n (p i) ≡ zer
    pivots_zero x zero lead clear i h = absurd (omega arith)
    pivots_zero x (suc n) lead clear i h =
        at (ℕ_discrete i n) (λ l. pivots_zero x n (λ j e. lead j (omega arith)) (λ j e f g. clear j e f (omega arith)) i l)
      where
        at : Dec (i ≡ n) → (i < n → R u p x n (p i) ≡ zer) → R u p x n (p i) ⊕ neg (R u p x n (p n)) ⊗ u n (p i) ≡ zer
        at (yes e) ih = ap (λ j. R u p x n (p j) ⊕ neg (R u p x n (p n)) ⊗ u n (p j)) e ∙ ap (λ z. R u p x n (p n) ⊕ neg (R u p x n (p n)) ⊗ z) (lead n (omega arith)) ∙ ap (λ z. R u p x n (p n) ⊕ z) (mul_one _) ∙ add_neg _
        at (no e) ih = still_zero _ _ _ (ih (omega arith)) (clear i n (omega arith) (omega arith))

  -- what is reduced is the vector plus the combination that the coordinates say
  module _ (d n : ℕ) (v u : ℕ → ℕ → K) (p : ℕ → ℕ) (rows : (i k : ℕ) → i < n → k < d → u i k ≡ sum F n (λ l. u i (d + l) ⊗ v l k))
      (x start : ℕ → K) (agrees : (k : ℕ) → k < d → start k ≡ x k) (zeros : (l : ℕ) → l < n → start (d + l) ≡ zer) where
    expressed : (r k : ℕ) → r ≤ n → k < d → R u p start r k ≡ x k ⊕ sum F n (λ l. R u p start r (d + l) ⊗ v l k)
    expressed zero k h g =
        agrees k g ∙ sym (add_zero (x k))
        ∙ ap (λ z. x k ⊕ z) (sym (Sums.sum_zero F n _ (λ l q. ap (λ z. z ⊗ v l k) (zeros l q) ∙ field.zero_mul F _)))
    expressed (suc r) k h g =
        let f = neg (R u p start r (p r)) in
        ap₂ (λ a b. a ⊕ f ⊗ b) (expressed r k (omega arith) g) (rows r k (omega arith) g)
        ∙ ap (λ z. x k ⊕ sum F n (λ l. R u p start r (d + l) ⊗ v l k) ⊕ z) (sym (Sums.sum_scale F n f _))
        ∙ add_assoc _ _ _
        ∙ ap (λ z. x k ⊕ z) (sym (Sums.sum_add F n _ _) ∙ Sums.sum_ext F n _ _ (λ l q. joined _ f _ _))
      where
        joined : (a f b w : K) → a ⊗ w ⊕ f ⊗ (b ⊗ w) ≡ (a ⊕ f ⊗ b) ⊗ w
        joined a f b w = ap (λ z. a ⊗ w ⊕ z) (sym (mul_assoc f b w)) ∙ sym (field.distrib_right F _ _ w)

    pub combination : ((k : ℕ) → k < d → R u p start n k ≡ zer) → Combines F d n (λ l. neg (R u p start n (d + l))) v x
    combination nothing k h =
        field.from_diff F (x k) _ (ap (λ z. x k ⊕ z) turned ∙ sym (expressed n k (omega arith) h) ∙ nothing k h)
      where
        turned : neg (sum F n (λ l. neg (R u p start n (d + l)) ⊗ v l k)) ≡ sum F n (λ l. R u p start n (d + l) ⊗ v l k)
        turned = ap neg (Sums.sum_neg F n _ _ ∙ sym (field.neg_is F _)) ∙ field.neg_neg F _

  module _ (d n : ℕ) (v u : ℕ → ℕ → K) (p : ℕ → ℕ) (E : Echelon F d n v u p) where
    -- a combination of the vectors taken reduces to zero
    spanned : (c x : ℕ → K) → Combines F d n c v x → (k : ℕ) → k < d → R u p x n k ≡ zer
    spanned c x h k g =
        reduced_along ◌⊕◌ ◌⊗◌ neg d u u p p x (λ j. sum F n (λ l. c l ⊗ v l j)) n (λ i j a b. refl) (λ i a. refl) E.pivot_in h k g
        ∙ reduced_sum u p c v n n k
        ∙ Sums.sum_zero F n _ (λ l q. ap (λ z. c l ⊗ z) (E.reduces l k q g) ∙ field.mul_zero F (c l))

    -- so a vector that does not is none
    pub outside : (x : ℕ → K) (k : ℕ) → k < d → R u p x n k ≢ zer → (c : ℕ → K) → Combines F d n c v x → ⊥
    outside x k g ne c h = ne (spanned c x h k g)

    -- and with it the vectors taken are independent
    more_independent : Independent F d n v → (k : ℕ) → k < d → R u p (v n) n k ≢ zer → Independent F d (suc n) v
    more_independent ind k g ne c h = at
      where
        zero-there : R u p (λ j. sum F (suc n) (λ l. c l ⊗ v l j)) n k ≡ zer
        zero-there = reduced_along ◌⊕◌ ◌⊗◌ neg d u u p p _ (λ j. zer) n (λ i j a b. refl) (λ i a. refl) E.pivot_in h k g ∙ reduced_zero u p n k

        product : R u p (v n) n k ⊗ c n ≡ zer
        product =
            mul_comm _ _ ∙ sym (field.zero_add F _)
            ∙ ap (λ z. z ⊕ c n ⊗ R u p (v n) n k) (sym (Sums.sum_zero F n _ (λ l q. ap (λ z. c l ⊗ z) (E.reduces l k q g) ∙ field.mul_zero F (c l))))
            ∙ sym (reduced_sum u p c v (suc n) n k) ∙ zero-there

        last : c n ≡ zer
        last = sym (field.one_mul F (c n)) ∙ ap (λ z. z ⊗ c n) (sym (field.inv_mul F _ ne)) ∙ mul_assoc _ _ _ ∙ ap (λ z. inv (R u p (v n) n k) ⊗ z) product ∙ field.mul_zero F _

        rest : (i : ℕ) → i < d → sum F n (λ l. c l ⊗ v l i) ≡ zer
        rest i q = sym (add_zero _) ∙ ap (λ z. sum F n (λ l. c l ⊗ v l i) ⊕ z) (sym (ap (λ z. z ⊗ v n i) last ∙ field.zero_mul F _)) ∙ h i q

        one_of : (j : ℕ) → Dec (j ≡ n) → j < suc n → c j ≡ zer
        one_of j (yes e) q = ap c e ∙ last
        one_of j (no e) q = ind c rest j (omega arith)

        at : (j : ℕ) → j < suc n → c j ≡ zer
        at j q = one_of j (ℕ_discrete j n) q

    -- two rows have two pivots
    distinct : Distinct n p
    distinct i l a b e = at (dec_lt i l) (dec_lt l i)
      where
        never : (r s : ℕ) → r < s → s < n → p r ≡ p s → ⊥
        never r s f g q = one_ne (sym (E.pivot_one s g) ∙ ap (u s) (sym q) ∙ E.pivot_clear r s f g)

        at : Dec (i < l) → Dec (l < i) → i ≡ l
        at (yes f) g = absurd (never i l f b e)
        at (no f) (yes g) = absurd (never l i g a (sym e))
        at (no f) (no g) = omega arith

    -- as many rows as places reduce every vector to zero
    pub full : n ≡ d → (x : ℕ → K) (k : ℕ) → k < d → R u p x n k ≡ zer
    full e x k h =
        let f = filled d k p (λ i a. E.pivot_in i (omega arith)) (λ i l a b. distinct i l (omega arith) (omega arith)) h in
        ap (R u p x n) (sym f.2) ∙ pivots_zero u p x n E.pivot_one E.pivot_clear f.0 (omega (arith, f.1))

  -- the remainder of a vector, scaled to one at a new pivot and with one at a coordinate of its own, is one more row
  module _ (d N n : ℕ) (v u : ℕ → ℕ → K) (p : ℕ → ℕ) (T : Taken F d N n v u p) (room : n < N)
      (start : ℕ → K) (agrees : (k : ℕ) → k < d → start k ≡ v n k) (zeros : (l : ℕ) → l < N → start (d + l) ≡ zer)
      (here : p n < d) (q : K) (lead : R u p start n (p n) ⊗ q ≡ one)
      (row : (k : ℕ) → k < d → u n k ≡ q ⊗ R u p start n k) (own : u n (d + n) ≡ q ⊗ one)
      (others : (l : ℕ) → l < N → l ≢ n → u n (d + l) ≡ q ⊗ R u p start n (d + l)) where
    same : (k : ℕ) → k < d → R u p start n k ≡ R u p (v n) n k
    same = reduced_along ◌⊕◌ ◌⊗◌ neg d u u p p start (v n) n (λ i j a b. refl) (λ i a. refl) T.echelon.pivot_in agrees

    nonzero : R u p (v n) n (p n) ≢ zer
    nonzero e = one_ne (sym lead ∙ ap (λ z. z ⊗ q) (same (p n) here ∙ e) ∙ field.zero_mul F q)

    blank_row : (l : ℕ) → suc n ≤ l → l < N → u n (d + l) ≡ zer
    blank_row l a b =
        others l b (omega arith) ∙ ap (λ z. q ⊗ z) (reduced_blank u p start n (d + l) (zeros l b) (λ i c. T.blank i l c (omega arith) b)) ∙ field.mul_zero F q

    coordinates_old : (i k : ℕ) → i < n → k < d → u i k ≡ sum F (suc n) (λ l. u i (d + l) ⊗ v l k)
    coordinates_old i k a b =
        T.echelon.coordinates i k a b ∙ sym (add_zero _)
        ∙ ap (λ z. sum F n (λ l. u i (d + l) ⊗ v l k) ⊕ z) (sym (ap (λ z. z ⊗ v n k) (T.blank i n a (omega arith) room) ∙ field.zero_mul F _))

    coordinates_new : (k : ℕ) → k < d → u n k ≡ sum F (suc n) (λ l. u n (d + l) ⊗ v l k)
    coordinates_new k b =
        row k b
        ∙ ap (λ z. q ⊗ z) (expressed d n v u p T.echelon.coordinates (v n) start agrees (λ l h. zeros l (omega arith)) n k (omega arith) b ∙ add_comm _ _)
        ∙ distrib q _ _
        ∙ ap₂ (λ a c. a ⊕ c)
        (sym (Sums.sum_scale F n q _) ∙ Sums.sum_ext F n _ _ (λ l h. sym (mul_assoc q _ _) ∙ ap (λ z. z ⊗ v l k) (sym (others l (omega arith) (omega arith)))))
        (ap (λ z. z ⊗ v n k) (sym (own ∙ mul_one q)))

    pub one_more : Taken F d N (suc n) v u p
    one_more = record {
      fresh = λ j a. fresh_at j (ℕ_discrete j n) a;
      independent = more_independent d n v u p T.echelon T.independent (p n) here nonzero;
      echelon = record {
        pivot_in = λ i a. in-at i (ℕ_discrete i n) a;
        pivot_one = λ i a. one_at i (ℕ_discrete i n) a;
        pivot_clear = λ i l a b. clear_at i l (ℕ_discrete l n) a b;
        coordinates = λ i k a b. coordinates-at i k (ℕ_discrete i n) a b;
        reduces = λ l k a b. reduces-at l k (ℕ_discrete l n) a b;
      };
      blank = λ i l a b c. blank-at i l (ℕ_discrete i n) a b c;
    }
      where
        fresh_at : (j : ℕ) → Dec (j ≡ n) → j < suc n → Depends F d v j → ⊥
        fresh_at j (yes e) a D = subst (λ i. Depends F d v i → ⊥) (sym e) (λ C. outside d n v u p T.echelon (v n) (p n) here nonzero C.0 C.1) D
        fresh_at j (no e) a D = T.fresh j (omega arith) D

        in-at : (i : ℕ) → Dec (i ≡ n) → i < suc n → p i < d
        in-at i (yes e) a = subst (λ j. p j < d) (sym e) here
        in-at i (no e) a = T.echelon.pivot_in i (omega arith)

        one_at : (i : ℕ) → Dec (i ≡ n) → i < suc n → u i (p i) ≡ one
        one_at i (yes e) a = ap (λ j. u j (p j)) e ∙ row (p n) here ∙ mul_comm _ _ ∙ lead
        one_at i (no e) a = T.echelon.pivot_one i (omega arith)

        clear_at : (i l : ℕ) → Dec (l ≡ n) → i < l → l < suc n → u l (p i) ≡ zer
        clear_at i l (yes e) a b =
            ap (λ j. u j (p i)) e ∙ row (p i) (T.echelon.pivot_in i (omega arith))
            ∙ ap (λ z. q ⊗ z) (pivots_zero u p start n T.echelon.pivot_one T.echelon.pivot_clear i (omega arith)) ∙ field.mul_zero F q
        clear_at i l (no e) a b = T.echelon.pivot_clear i l a (omega arith)

        coordinates-at : (i k : ℕ) → Dec (i ≡ n) → i < suc n → k < d → u i k ≡ sum F (suc n) (λ l. u i (d + l) ⊗ v l k)
        coordinates-at i k (yes e) a b = subst (λ j. u j k ≡ sum F (suc n) (λ l. u j (d + l) ⊗ v l k)) (sym e) (coordinates_new k b)
        coordinates-at i k (no e) a b = coordinates_old i k (omega arith) b

        reduces-at : (l k : ℕ) → Dec (l ≡ n) → l < suc n → k < d → R u p (v l) (suc n) k ≡ zer
        reduces-at l k (yes e) a b =
            ap (λ j. R u p (v j) (suc n) k) e
            ∙ ap (λ z. R u p (v n) n k ⊕ neg (R u p (v n) n (p n)) ⊗ z) (row k b ∙ ap (λ z. q ⊗ z) (same k b))
            ∙ taken_away _ q _ (ap (λ z. z ⊗ q) (sym (same (p n) here)) ∙ lead)
        reduces-at l k (no e) a b = still_zero_left _ _ _ (T.echelon.reduces l k (omega arith) b) (T.echelon.reduces l (p n) (omega arith) here)

        blank-at : (i l : ℕ) → Dec (i ≡ n) → i < suc n → suc n ≤ l → l < N → u i (d + l) ≡ zer
        blank-at i l (yes e) a b c = ap (λ j. u j (d + l)) e ∙ blank_row l b c
        blank-at i l (no e) a b c = T.blank i l (omega arith) (omega arith) c

  -- what was taken stays while its rows and pivots stay
  pub taken_along : (d N n : ℕ) (v u u' : ℕ → ℕ → K) (p p' : ℕ → ℕ) → ((i k : ℕ) → i < n → k < d + N → u' i k ≡ u i k) → ((i : ℕ) → i < n → p' i ≡ p i) → n ≤ N
      → Taken F d N n v u p → Taken F d N n v u' p'
  taken_along d N n v u u' p p' su sp room T = record {
    fresh = T.fresh;
    independent = T.independent;
    echelon = record {
      pivot_in = λ i a. subst (λ j. j < d) (sym (sp i a)) (E.pivot_in i a);
      pivot_one = λ i a. at i i a a ∙ E.pivot_one i a;
      pivot_clear = λ i l a b. at i l (omega arith) b ∙ E.pivot_clear i l a b;
      coordinates = λ i k a b. su i k a (omega arith) ∙ E.coordinates i k a b ∙ Sums.sum_ext F n _ _ (λ l c. ap (λ z. z ⊗ v l k) (sym (su i (d + l) a (omega arith))));
      reduces = λ l k a b. sym (reduced_along ◌⊕◌ ◌⊗◌ neg d u u' p p' (v l) (v l) n (λ i j c e. sym (su i j c (omega arith))) (λ i c. sym (sp i c)) E.pivot_in (λ j c. refl) k b) ∙ E.reduces l k a b;
    };
    blank = λ i l a b c. su i (d + l) a (omega arith) ∙ T.blank i l a b c;
  }
    where
      E : Echelon F d n v u p
      E = T.echelon

      at : (i l : ℕ) → i < n → l < n → u' l (p' i) ≡ u l (p i)
      at i l a b = ap (u' l) (sp i a) ∙ su l (p i) b (omega (arith, T.echelon.pivot_in i a))
