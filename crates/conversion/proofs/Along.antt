-- Vectors of which only the first coordinates count: what holds of some holds of others that agree there.
use Rattle.std.proofs.Common.{◌≡◌, ℕ, zero, suc, ◌<◌, ◌≤◌, sym, ap, ◌∙◌, ap₂, arith}
use native.Mathlib.Decide.{dec_lt}
use Rattle.algebra.specs.Field.{Field}
use Rattle.algebra.specs.Vector.{apply, krylov, Combines, Independent, Degree}
use Rattle.algebra.proofs.Sums as sums
use Rattle.linear.specs.Hankel.{measured}

module _ {K : Type 0} (F : Field K) (d : ℕ) where
  module _ (v u : ℕ → ℕ → K) (n : ℕ) (e : (j i : ℕ) → j < n → i < d → v j i ≡ u j i) where
    pub independent_along : Independent F d n v → Independent F d n u
    independent_along h c z = h c (λ i p. sums.sum_ext F n _ _ (λ j q. ap (λ x. F.◌⊗◌ (c j) x) (e j i q p)) ∙ z i p)

    combines_along : (j : ℕ) → j < n → (c : ℕ → K) → Combines F d j c v (v j) → Combines F d j c u (u j)
    combines_along j l c x i p = sym (e j i l p) ∙ x i p ∙ sums.sum_ext F j _ _ (λ k q. ap (λ z. F.◌⊗◌ (c k) z) (e k i (omega arith) p))

    combines_back : (j : ℕ) → j < n → (c : ℕ → K) → Combines F d j c u (u j) → Combines F d j c v (v j)
    combines_back j l c x i p = e j i l p ∙ x i p ∙ sums.sum_ext F j _ _ (λ k q. ap (λ z. F.◌⊗◌ (c k) z) (sym (e k i (omega arith) p)))

    pub degree_along : (j : ℕ) → j < n → Degree F d v j → Degree F d u j
    degree_along j l x = ((x.0.0, combines_along j l x.0.0 x.0.1), λ k y. least k y (dec_lt k n))
      where
        least : (k : ℕ) → (c : ℕ → K) × Combines F d k c u (u k) → Dec (k < n) → j ≤ k
        least k y (yes p) = x.1 k (y.0, combines_back k p y.0 y.1)
        least k y (no p) = omega arith

  -- two matrices that agree in their first d rows and columns
  module _ (A B : ℕ → ℕ → K) (e : (j i : ℕ) → j < d → i < d → A j i ≡ B j i) where
    pub apply_along : (f g : ℕ → K) → ((i : ℕ) → i < d → f i ≡ g i) → (j : ℕ) → j < d → apply F d A f j ≡ apply F d B g j
    apply_along f g h j p = sums.sum_ext F d _ _ (λ i q. ap₂ (λ x y. F.◌⊗◌ x y) (e j i p q) (h i q))

    pub krylov_along : (f g : ℕ → K) → ((i : ℕ) → i < d → f i ≡ g i) → (j i : ℕ) → i < d → krylov F (apply F d A) f j i ≡ krylov F (apply F d B) g j i
    krylov_along f g h zero i p = h i p
    krylov_along f g h (suc j) i p = apply_along (krylov F (apply F d A) f j) (krylov F (apply F d B) g j) (krylov_along f g h j) i p

    pub measured_along : (r f g : ℕ → K) → ((i : ℕ) → i < d → f i ≡ g i) → (j : ℕ) → measured F d (apply F d A) f r j ≡ measured F d (apply F d B) g r j
    measured_along r f g h j = sums.sum_ext F d _ _ (λ i q. ap (λ x. F.◌⊗◌ (r i) x) (krylov_along f g h j i q))
