-- What dual families give: independence, the dimension theorem, spans, coordinates, and the first place of dependence.
use Rattle.std.proofs.Common.{◌≡◌, ℕ, zero, suc, ◌<◌, ◌≤◌, ◌≢◌, ◌⊎◌, sym, refl, ap, ◌∙◌, ap₂, inl, inr, arith}
use native.Mathlib.Decide.{dec_lt}
use Rattle.algebra.specs.Field.{Field}
use Rattle.algebra.specs.Vector.{sum, dot, basis, Combines, Independent, Least, Degree}
use Rattle.algebra.proofs.Laws as field
use Rattle.algebra.proofs.Sums as sums
use Rattle.algebra.proofs.Dual as dual
use Rattle.algebra.proofs.Dual.{put, put_here, put_off, Dual}

pub least_once : (P : ℕ → Type 0) (p q : ℕ) → Least P p → Least P q → p ≡ q
least_once P p q x y = omega (arith, x.1 q y.0, y.1 p x.0)

module _ {K : Type 0} (F : Field K) where
  open F use {zer, one, ◌⊕◌, ◌⊗◌, neg, mul_one, one_ne}

  infixl 65 ◌⊕◌
  infixl 70 ◌⊗◌
  -- f below d, and zero from there on
  abbrev pub upto : ℕ → (ℕ → K) → ℕ → K
  upto zero f j = zer
  upto (suc d) f zero = f zero
  upto (suc d) f (suc j) = upto d (λ i. f (suc i)) j

  pub upto_in : (d : ℕ) (f : ℕ → K) (j : ℕ) → j < d → upto d f j ≡ f j
  upto_in zero f j l = absurd (omega arith)
  upto_in (suc d) f zero l = refl
  upto_in (suc d) f (suc j) l = upto_in d (λ i. f (suc i)) j (omega arith)

  pub upto_off : (d : ℕ) (f : ℕ → K) (j : ℕ) → d ≤ j → upto d f j ≡ zer
  upto_off zero f j l = refl
  upto_off (suc d) f zero l = absurd (omega arith)
  upto_off (suc d) f (suc j) l = upto_off d (λ i. f (suc i)) j (omega arith)

  -- the coefficients of: w d is the combination of those before it by a
  pub relation : ℕ → (ℕ → K) → ℕ → K
  relation d a j = upto d a j ⊕ neg one ⊗ basis F d j

  pub relation_dot : (d n : ℕ) (a w : ℕ → K) → d < n → dot F n (relation d a) w ≡ dot F d a w ⊕ neg one ⊗ w d
  unfolding relation
  relation_dot d n a w l =
      dual.dot_axpy F n (upto d a) (basis F d) w (neg one)
      ∙ ap₂ (λ x y. x ⊕ neg one ⊗ y)
      (sums.sum_cut F d n _ (omega arith) (λ i m k. ap (λ z. z ⊗ w i) (upto_off d a i m) ∙ field.zero_mul F (w i)) ∙ sums.sum_ext F d _ _ (λ i m. ap (λ z. z ⊗ w i) (upto_in d a i m)))
      (dual.dot_unit F n d w l)

  pub relation_zero : (d n : ℕ) (a w : ℕ → K) → d < n → w d ≡ dot F d a w → dot F n (relation d a) w ≡ zer
  relation_zero d n a w l e = relation_dot d n a w l ∙ ap (λ z. z ⊕ neg one ⊗ w d) (sym e) ∙ field.minus_self F (w d)

  pub relation_back : (d n : ℕ) (a w : ℕ → K) → d < n → dot F n (relation d a) w ≡ zer → w d ≡ dot F d a w
  relation_back d n a w l e =
      sym (field.from_diff F _ _ (ap (λ z. dot F d a w ⊕ z) (sym (field.neg_mul F one (w d) ∙ ap neg (field.one_mul F (w d)))) ∙ sym (relation_dot d n a w l) ∙ e))

  pub relation_ne : (d : ℕ) (a : ℕ → K) → relation d a d ≢ zer
  unfolding relation
  relation_ne d a e =
      one_ne (sym (field.neg_neg F one) ∙ ap neg (sym (ap₂ (λ x y. x ⊕ neg one ⊗ y) (upto_off d a d (omega arith)) (sums.basis_same F d) ∙ field.zero_add F _ ∙ mul_one _) ∙ e) ∙ field.neg_zero F)

  -- the dimension theorem
  pub dependent : (D : ℕ) (v : ℕ → ℕ → K) → (c : ℕ → K) × ((p : ℕ) × (p < suc D) × (c p ≢ zer)) × ((i : ℕ) → i < D → sum F (suc D) (λ j. c j ⊗ v j i) ≡ zer)
  dependent D v =
      let B = dual.part F D v in
      let a : ℕ → K = λ k. dot F D (B.r k) (v B.d) in
      (relation B.d a, (B.d, omega (arith, B.within), relation_ne B.d a), λ i l. relation_zero B.d (suc D) a (λ j. v j i) (omega (arith, B.within)) (B.last i l))

  dual_sum : (D n : ℕ) (r v : ℕ → ℕ → K) → Dual F D n r v → (c : ℕ → K) (k : ℕ) → k < n → dot F D (r k) (λ x. sum F n (λ j. c j ⊗ v j x)) ≡ c k
  dual_sum D n r v h c k l =
      dual.dot_comb_right F D n c v (r k) ∙ sums.sum_ext F n _ _ (λ j m. ap (λ z. c j ⊗ z) (h k j l m)) ∙ sums.sum_basis F n k c l

  pub unique : (D n : ℕ) (r v : ℕ → ℕ → K) → Dual F D n r v → (c w : ℕ → K) → Combines F D n c v w → (k : ℕ) → k < n → c k ≡ dot F D (r k) w
  unique D n r v h c w e k l = sym (dual_sum D n r v h c k l) ∙ sums.sum_ext F D _ _ (λ x m. ap (λ z. r k x ⊗ z) (sym (e x m)))

  pub dual→independent : (D n : ℕ) (r v : ℕ → ℕ → K) → Dual F D n r v → Independent F D n v
  dual→independent D n r v h c e k l =
      unique D n r v h c (λ x. zer) (λ i m. sym (e i m)) k l ∙ sums.sum_zero F D _ (λ x m. field.mul_zero F (r k x))

  -- of an independent family no member is a combination of those before it
  pub no_combination : (D n m : ℕ) (v : ℕ → ℕ → K) → Independent F D n v → (a : ℕ → K) → Combines F D m a v (v m) → n ≤ m
  no_combination D n m v h a e = go (dec_lt m n)
    where
      go : Dec (m < n) → n ≤ m
      go (yes l) = absurd (relation_ne m a (h (relation m a) (λ i k. relation_zero m n a (λ j. v j i) l (e i k)) m l))
      go (no l) = omega arith

  pub independent→dual : (D n : ℕ) (v : ℕ → ℕ → K) → Independent F D n v → (r : ℕ → ℕ → K) × Dual F D n r v
  independent→dual D n v h =
      let B = dual.part F D v in
      let l : n ≤ B.d = no_combination D n B.d v h _ B.last in
      (B.r, λ k j a b. B.dual k j (omega arith) (omega arith))

  pub spans : (D : ℕ) (r v : ℕ → ℕ → K) → Dual F D D r v → (w : ℕ → K) → Combines F D D (λ k. dot F D (r k) w) v w
  spans D r v h w = go (dual.extend F D D r v' (λ k j a b. ap (dot F D (r k)) (put_off D v w j (omega arith)) ∙ h k j a b))
    where
      v' : ℕ → ℕ → K
      v' = put D v w

      go : Combines F D D (λ k. dot F D (r k) (v' D)) v' (v' D) ⊎ ((r'' : ℕ → ℕ → K) × Dual F D (suc D) r'' v') → Combines F D D (λ k. dot F D (r k) w) v w
      go (inl c) i l =
          ap (λ z. z i) (sym (put_here D v w)) ∙ c i l
          ∙ sums.sum_ext F D _ _ (λ k m. ap₂ (λ x y. dot F D (r k) x ⊗ y i) (put_here D v w) (put_off D v w k (omega arith)))
      go (inr x) i l = absurd (dual.no_dual F D x.0 v' x.1)

  -- D independent vectors: every vector is a combination in one way
  pub spans_once : (D : ℕ) (v : ℕ → ℕ → K) → Independent F D D v → (w : ℕ → K) → (c : ℕ → K) × Combines F D D c v w × ((c' : ℕ → K) → Combines F D D c' v w → (k : ℕ) → k < D → c' k ≡ c k)
  spans_once D v h w = let x = independent→dual D D v h in (_, spans D x.0 v x.1 w, λ c' e k l. unique D D x.0 v x.1 c' w e k l)

  -- the functional that is 1 at the last vector and 0 at the others
  pub functional : (D : ℕ) (v : ℕ → ℕ → K) → Independent F (suc D) (suc D) v → (r : ℕ → K) × ((j : ℕ) → j < suc D → dot F (suc D) r (v j) ≡ basis F D j)
  functional D v h = let x = independent→dual (suc D) (suc D) v h in (x.0 D, λ j l. x.1 D j (omega arith) l)

  -- two combinations by an independent family that agree have the same coefficients
  pub coefficients : (D n : ℕ) (v : ℕ → ℕ → K) → Independent F D n v → (c c' w : ℕ → K) → Combines F D n c v w → Combines F D n c' v w → (k : ℕ) → k < n → c k ≡ c' k
  coefficients D n v h c c' w e e' k l = let x = independent→dual D n v h in unique D n x.0 v x.1 c w e k l ∙ sym (unique D n x.0 v x.1 c' w e' k l)

  -- the first place of dependence
  pub degree : (D : ℕ) (v : ℕ → ℕ → K) → (d : ℕ) × (d ≤ D) × Degree F D v d × Independent F D d v
  degree D v =
      let B = dual.part F D v in
      let h : Independent F D B.d v = dual→independent D B.d B.r v B.dual in
      (B.d, B.within, ((_, B.last), λ m x. no_combination D B.d m v h x.0 x.1), h)
