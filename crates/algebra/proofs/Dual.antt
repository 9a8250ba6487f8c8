-- Dual families: r_k . v_j is one where k is j and zero elsewhere. A family with a dual is independent; one vector more is a
-- combination of it or extends the dual; and D + 1 vectors of length D have none.
use Rattle.std.proofs.Common.{◌≡◌, ℕ, zero, suc, ◌+◌, ◌<◌, ◌≤◌, cond, ◌≢◌, ◌⊎◌, sym, refl, ap, ◌∙◌, ap₂, inl, inr, arith}
use native.Mathlib.Decide.{ℕ_discrete}
use lib.Dec.{eqb-zero-suc, eqb-suc-zero, eqb-suc-suc}
use Rattle.algebra.specs.Field.{Field}
use Rattle.algebra.specs.Vector.{sum, dot, basis, Combines}
use Rattle.algebra.proofs.Laws as field
use Rattle.algebra.proofs.Sums as sums

-- f with t put at n
abbrev pub put : {A : Type 0} → ℕ → (ℕ → A) → A → ℕ → A
put zero f t zero = t
put zero f t (suc k) = f (suc k)
put (suc n) f t zero = f zero
put (suc n) f t (suc k) = put n (λ i. f (suc i)) t k

pub put_here : {A : Type 0} (n : ℕ) (f : ℕ → A) (t : A) → put n f t n ≡ t
put_here zero f t = refl
put_here (suc n) f t = put_here n (λ i. f (suc i)) t

pub put_off : {A : Type 0} (n : ℕ) (f : ℕ → A) (t : A) (k : ℕ) → k ≢ n → put n f t k ≡ f k
put_off zero f t zero h = absurd (h refl)
put_off zero f t (suc k) h = refl
put_off (suc n) f t zero h = refl
put_off (suc n) f t (suc k) h = put_off n (λ i. f (suc i)) t k (omega arith)

-- the places but p
abbrev pub skip : ℕ → ℕ → ℕ
skip zero j = suc j
skip (suc p) zero = zero
skip (suc p) (suc j) = suc (skip p j)

pub skip_lt : (p j n : ℕ) → j < n → skip p j < suc n
skip_lt zero j n h = omega arith
skip_lt (suc p) zero n h = omega arith
skip_lt (suc p) (suc j) zero h = absurd (omega arith)
skip_lt (suc p) (suc j) (suc n) h = omega (arith, skip_lt p j n (omega arith))

module _ {K : Type 0} (F : Field K) where
  open F use {zer, one, ◌⊕◌, ◌⊗◌, neg, inv, add_zero, add_neg, mul_assoc, mul_comm, mul_one, one_ne, same}

  infixl 65 ◌⊕◌
  infixl 70 ◌⊗◌
  -- r 0 .. r (n - 1) are dual to v 0 .. v (n - 1), vectors of length D
  abbrev pub Dual : ℕ → ℕ → (ℕ → ℕ → K) → (ℕ → ℕ → K) → Type 0
  Dual D n r v = (k j : ℕ) → k < n → j < n → dot F D (r k) (v j) ≡ basis F k j

  basis_suc : (i j : ℕ) → basis F (suc i) (suc j) ≡ basis F i j
  basis_suc i j = ap (λ b. cond b one zer) (eqb-suc-suc i j)

  skip_basis : (p k j : ℕ) → basis F (skip p k) (skip p j) ≡ basis F k j
  skip_basis zero k j = basis_suc k j
  skip_basis (suc p) zero zero = refl
  skip_basis (suc p) zero (suc j) = ap (λ b. cond b one zer) (eqb-zero-suc (skip p j) ∙ sym (eqb-zero-suc j))
  skip_basis (suc p) (suc k) zero = ap (λ b. cond b one zer) (eqb-suc-zero (skip p k) ∙ sym (eqb-suc-zero k))
  skip_basis (suc p) (suc k) (suc j) = basis_suc (skip p k) (skip p j) ∙ skip_basis p k j ∙ sym (basis_suc k j)

  skip_off : (p k : ℕ) → basis F (skip p k) p ≡ zer
  skip_off zero k = ap (λ b. cond b one zer) (eqb-suc-zero k)
  skip_off (suc p) zero = ap (λ b. cond b one zer) (eqb-zero-suc p)
  skip_off (suc p) (suc k) = basis_suc (skip p k) p ∙ skip_off p k

  -- the first that is not zero, or none
  pub find : (n : ℕ) (f : ℕ → K) → ((i : ℕ) × (i < n) × (f i ≢ zer)) ⊎ ((i : ℕ) → i < n → f i ≡ zer)
  find zero f = inr (λ i h. absurd (omega arith))
  find (suc n) f = go (find n f) (same (f n) zer)
    where
      here : ((i : ℕ) → i < n → f i ≡ zer) → f n ≡ zer → (i : ℕ) → i < suc n → Dec (i ≡ n) → f i ≡ zer
      here h e i l (yes p) = ap f p ∙ e
      here h e i l (no p) = h i (omega arith)

      go : ((i : ℕ) × (i < n) × (f i ≢ zer)) ⊎ ((i : ℕ) → i < n → f i ≡ zer) → Dec (f n ≡ zer) → ((i : ℕ) × (i < suc n) × (f i ≢ zer)) ⊎ ((i : ℕ) → i < suc n → f i ≡ zer)
      go (inl x) d = inl (x.0, omega arith, x.2)
      go (inr h) (yes e) = inr (λ i l. here h e i l (ℕ_discrete i n))
      go (inr h) (no e) = inl (n, omega arith, e)

  pub dot_comm : (D : ℕ) (f g : ℕ → K) → dot F D f g ≡ dot F D g f
  dot_comm D f g = simp mul_comm

  pub dot_axpy : (D : ℕ) (f g y : ℕ → K) (a : K) → dot F D (λ x. f x ⊕ a ⊗ g x) y ≡ dot F D f y ⊕ a ⊗ dot F D g y
  dot_axpy D f g y a = simp (field.distrib_right F, mul_assoc, sums.sum_add F, sums.sum_scale F)

  pub dot_axpy_right : (D : ℕ) (y f g : ℕ → K) (a : K) → dot F D y (λ x. f x ⊕ a ⊗ g x) ≡ dot F D y f ⊕ a ⊗ dot F D y g
  dot_axpy_right D y f g a = dot_comm D y _ ∙ dot_axpy D f g y a ∙ ap₂ (λ u w. u ⊕ a ⊗ w) (dot_comm D f y) (dot_comm D g y)

  pub dot_scale : (D : ℕ) (a : K) (f y : ℕ → K) → dot F D (λ x. a ⊗ f x) y ≡ a ⊗ dot F D f y
  dot_scale D a f y = simp (mul_assoc, sums.sum_scale F)

  pub dot_comb : (D n : ℕ) (a : ℕ → K) (r : ℕ → ℕ → K) (y : ℕ → K) → dot F D (λ x. sum F n (λ k. a k ⊗ r k x)) y ≡ sum F n (λ k. a k ⊗ dot F D (r k) y)
  dot_comb D n a r y = simp (← (sums.sum_scale_right F), mul_assoc, sums.sum_swap F D n, sums.sum_scale F)

  pub dot_comb_right : (D n : ℕ) (a : ℕ → K) (r : ℕ → ℕ → K) (y : ℕ → K) → dot F D y (λ x. sum F n (λ k. a k ⊗ r k x)) ≡ sum F n (λ k. a k ⊗ dot F D y (r k))
  dot_comb_right D n a r y = dot_comm D y _ ∙ dot_comb D n a r y ∙ sums.sum_ext F n _ _ (λ k m. ap (λ z. a k ⊗ z) (dot_comm D (r k) y))

  pub dot_unit : (D i : ℕ) (y : ℕ → K) → i < D → dot F D (basis F i) y ≡ y i
  dot_unit D i y l = simp (mul_comm, sums.sum_basis F)

  pub no_dual : (D : ℕ) (r v : ℕ → ℕ → K) → Dual D (suc D) r v → ⊥
  no_dual zero r v h = one_ne (sym (h 0 0 (omega arith) (omega arith)))
  no_dual (suc D) r v h = go (find (suc (suc D)) (λ j. v j D)) (no_dual D)
    where
      go : ((j : ℕ) × (j < suc (suc D)) × (v j D ≢ zer)) ⊎ ((j : ℕ) → j < suc (suc D) → v j D ≡ zer) → ((r' v' : ℕ → ℕ → K) → Dual D (suc D) r' v' → ⊥) → ⊥
      go (inr none) ih =
          ih r v (λ k j hk hj. sym (ap (λ x. dot F D (r k) (v j) ⊕ r k D ⊗ x) (none j (omega arith)) ∙ ap (λ x. dot F D (r k) (v j) ⊕ x) (field.mul_zero F (r k D)) ∙ add_zero _) ∙ h k j (omega arith) (omega arith))
      go (inl x) ih =
          let p = x.0 in
          let q : ℕ → K = λ j. neg (v (skip p j) D ⊗ inv (v p D)) in
          let v' : ℕ → ℕ → K = λ j i. v (skip p j) i ⊕ q j ⊗ v p i in
          let gone : (j : ℕ) → v' j D ≡ zer = λ j. ap (λ z. v (skip p j) D ⊕ z) (field.neg_mul F _ _ ∙ ap neg (field.quot F (v (skip p j) D) (v p D) x.2)) ∙ add_neg _ in
          ih (λ k. r (skip p k)) v' (λ k j hk hj.
          sym (ap (λ z. dot F D (r (skip p k)) (v' j) ⊕ r (skip p k) D ⊗ z) (gone j) ∙ ap (λ z. dot F D (r (skip p k)) (v' j) ⊕ z) (field.mul_zero F _) ∙ add_zero _)
          ∙ dot_axpy_right (suc D) (r (skip p k)) (v (skip p j)) (v p) (q j)
          ∙ ap₂ (λ y z. y ⊕ q j ⊗ z)
          (h (skip p k) (skip p j) (skip_lt p k (suc D) hk) (skip_lt p j (suc D) hj) ∙ skip_basis p k j)
          (h (skip p k) p (skip_lt p k (suc D) hk) x.1 ∙ skip_off p k)
          ∙ ap (λ z. basis F k j ⊕ z) (field.mul_zero F (q j)) ∙ add_zero _)

  -- one vector more is a combination of those before, or extends the dual family
  module _ (D n : ℕ) (r v : ℕ → ℕ → K) (h : Dual D n r v) where
    coef : ℕ → K
    coef k = dot F D (r k) (v n)

    rest : ℕ → K
    unfolding coef
    rest i = v n i ⊕ neg one ⊗ sum F n (λ k. coef k ⊗ v k i)

    module _ (i : ℕ) (li : i < D) (ne : rest i ≢ zer) where
      t : ℕ → K
      t x = inv (rest i) ⊗ (basis F i x ⊕ neg one ⊗ sum F n (λ k. v k i ⊗ r k x))

      t-dot : (y : ℕ → K) → dot F D t y ≡ inv (rest i) ⊗ (y i ⊕ neg one ⊗ sum F n (λ k. v k i ⊗ dot F D (r k) y))
      unfolding t
      t-dot y =
          dot_scale D (inv (rest i)) _ y
          ∙ ap (λ z. inv (rest i) ⊗ z) (dot_axpy D (basis F i) (λ x. sum F n (λ k. v k i ⊗ r k x)) y (neg one) ∙ ap₂ (λ a b. a ⊕ neg one ⊗ b) (dot_unit D i y li) (dot_comb D n (λ k. v k i) r y))

      t-old : (j : ℕ) → j < n → dot F D t (v j) ≡ zer
      t-old j l =
          t-dot (v j)
          ∙ ap (λ z. inv (rest i) ⊗ (v j i ⊕ neg one ⊗ z)) (sums.sum_ext F n _ _ (λ k m. ap (λ z. v k i ⊗ z) (h k j m l ∙ sums.basis_sym F k j)) ∙ sums.sum_basis F n j (λ k. v k i) l)
          ∙ ap (λ z. inv (rest i) ⊗ z) (field.minus_self F (v j i)) ∙ field.mul_zero F _

      t-new : dot F D t (v n) ≡ one
      unfolding rest coef
      t-new =
          t-dot (v n)
          ∙ ap (λ z. inv (rest i) ⊗ (v n i ⊕ neg one ⊗ z)) (sums.sum_ext F n _ _ (λ k m. mul_comm (v k i) _))
          ∙ field.inv_mul F (rest i) ne

      r' : ℕ → ℕ → K
      r' = put n (λ k x. r k x ⊕ neg (coef k) ⊗ t x) t

      dual' : Dual D (suc n) r' v
      unfolding r' coef
      dual' k j hk hj = go (ℕ_discrete k n) (ℕ_discrete j n)
        where
          old : k ≢ n → dot F D (r' k) (v j) ≡ dot F D (r k) (v j) ⊕ neg (coef k) ⊗ dot F D t (v j)
          old e = ap (λ z. dot F D z (v j)) (put_off n (λ k x. r k x ⊕ neg (coef k) ⊗ t x) t k e) ∙ dot_axpy D (r k) t (v j) (neg (coef k))

          go : Dec (k ≡ n) → Dec (j ≡ n) → dot F D (r' k) (v j) ≡ basis F k j
          go (yes e) (yes e') = rw (e, e') (rw (put_here n (λ k x. r k x ⊕ neg (coef k) ⊗ t x) t) (t-new ∙ sym (sums.basis_same F n)))
          go (yes e) (no e') = rw e (rw (put_here n (λ k x. r k x ⊕ neg (coef k) ⊗ t x) t) (t-old j (omega arith) ∙ sym (sums.basis_other F n j (omega arith))))
          go (no e) (yes e') = old e ∙ rw e' (ap (λ z. coef k ⊕ neg (coef k) ⊗ z) t-new ∙ ap (λ z. coef k ⊕ z) (mul_one _) ∙ add_neg _ ∙ sym (sums.basis_other F k n e))
          go (no e) (no e') = old e ∙ ap₂ (λ y z. y ⊕ neg (coef k) ⊗ z) (h k j (omega arith) (omega arith)) (t-old j (omega arith)) ∙ ap (λ z. basis F k j ⊕ z) (field.mul_zero F _) ∙ add_zero _

    pub extend : Combines F D n (λ k. dot F D (r k) (v n)) v (v n) ⊎ ((r'' : ℕ → ℕ → K) × Dual D (suc n) r'' v)
    unfolding rest coef
    extend = go (find D rest)
      where
        go : ((i : ℕ) × (i < D) × (rest i ≢ zer)) ⊎ ((i : ℕ) → i < D → rest i ≡ zer) → Combines F D n (λ k. dot F D (r k) (v n)) v (v n) ⊎ ((r'' : ℕ → ℕ → K) × Dual D (suc n) r'' v)
        go (inl x) = inr (r' x.0 x.1 x.2, dual' x.0 x.1 x.2)
        go (inr e) = inl (λ i l. field.from_diff F _ _ (ap (λ z. v n i ⊕ z) (sym (field.neg_mul F one _ ∙ ap neg (field.one_mul F _))) ∙ e i l))

  -- a first part of v that is independent, with a dual family, and the next vector a combination of it
  pub record Part (D : ℕ) (v : ℕ → ℕ → K) : Type 0 where
    pub d : ℕ
    pub within : d ≤ D
    pub r : ℕ → ℕ → K
    pub dual : Dual D d r v
    pub last : Combines F D d (λ k. dot F D (r k) (v d)) v (v d)

  walk : (D : ℕ) (v : ℕ → ℕ → K) (f n : ℕ) (r : ℕ → ℕ → K) → n + f ≡ suc D → Dual D n r v → Part D v
  walk D v zero n r e h = absurd (no_dual D r v (λ k j a b. h k j (omega arith) (omega arith)))
  walk D v (suc f) n r e h = go (extend D n r v h) (λ r'' h''. walk D v f (suc n) r'' (omega arith) h'')
    where
      go : Combines F D n (λ k. dot F D (r k) (v n)) v (v n) ⊎ ((r'' : ℕ → ℕ → K) × Dual D (suc n) r'' v) → ((r'' : ℕ → ℕ → K) → Dual D (suc n) r'' v → Part D v) → Part D v
      go (inl c) ih = record { d = n; within = omega arith; r = r; dual = h; last = c }
      go (inr x) ih = ih x.0 x.1

  pub part : (D : ℕ) (v : ℕ → ℕ → K) → Part D v
  part D v = walk D v (suc D) 0 (λ k i. zer) (omega arith) (λ k j a b. absurd (omega arith))
