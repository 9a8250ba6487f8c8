-- Linear maps of vectors: matrices at unit vectors and combinations, and the Krylov vectors e, T e, T (T e), ..
use Rattle.std.proofs.Common.{◌≡◌, ℕ, zero, suc, ◌+◌, ◌<◌, sym, refl, ap, ◌∙◌, add-zero as plus-zero, add-suc, add_comm as plus_comm}
use mathlib.Core.Path.{fun_ext}
use Rattle.algebra.specs.Field.{Field}
use Rattle.algebra.specs.Vector.{sum, basis, apply, Combines, LinearMap, krylov}
use Rattle.algebra.proofs.Laws as field
use Rattle.algebra.proofs.Sums as sums
use Rattle.algebra.proofs.Sums.{Functional}

module _ {K : Type 0} (F : Field K) where
  open F use {zer, ◌⊕◌, ◌⊗◌, mul_comm, distrib}

  infixl 65 ◌⊕◌
  infixl 70 ◌⊗◌
  -- a matrix at a unit vector is its column
  pub apply_basis : (D : ℕ) (A : ℕ → ℕ → K) (i : ℕ) → i < D → (j : ℕ) → apply F D A (basis F i) j ≡ A j i
  apply_basis D A i h j = sums.sum_basis F D i (A j) h

  pub apply_linear : (D : ℕ) (A : ℕ → ℕ → K) → LinearMap F D (apply F D A)
  apply_linear D A = record {
    add = λ f g j. ap (sum F D) (fun_ext (λ i. distrib _ _ _)) ∙ sums.sum_add F D _ _;
    scale = λ c f j. ap (sum F D) (fun_ext (λ i. field.mul_left_comm F _ _ _)) ∙ sums.sum_scale F D c _;
    local = λ f g h j m. sums.sum_ext F D _ _ (λ i l. ap (λ z. A j i ⊗ z) (h i l));
  }

  -- one coordinate of a linear map is a functional
  pub coordinate : {D : ℕ} {T : (ℕ → K) → ℕ → K} → LinearMap F D T → (j : ℕ) → Functional F (λ v. T v j)
  coordinate L j = record { add = λ f g. L.add f g j; scale = λ c f. L.scale c f j }

  -- a functional of a matrix at v is the combination by v of its values at the columns
  pub apply_columns : (D : ℕ) (A : ℕ → ℕ → K) (v : ℕ → K) {φ : (ℕ → K) → K} → Functional F φ → φ (apply F D A v) ≡ sum F D (λ i. v i ⊗ φ (λ j. A j i))
  apply_columns D A v {φ} L =
      ap φ (fun_ext (λ j. ap (sum F D) (fun_ext (λ i. mul_comm _ _))))
      ∙ sym (sums.sum_through F D L (λ i j. v i ⊗ A j i))
      ∙ ap (sum F D) (fun_ext (λ i. L.scale (v i) (λ j. A j i)))

  -- T^j of T^l
  pub krylov_more : (T : (ℕ → K) → ℕ → K) (e : ℕ → K) (l j : ℕ) → krylov F T (krylov F T e l) j ≡ krylov F T e (l + j)
  krylov_more T e l zero = ap (krylov F T e) (sym (plus-zero l))
  krylov_more T e l (suc j) = ap T (krylov_more T e l j) ∙ ap (krylov F T e) (sym (add-suc l j))

  -- a map that can change places with T can with its powers
  pub krylov_commute : (T U : (ℕ → K) → ℕ → K) → ((v : ℕ → K) → T (U v) ≡ U (T v)) → (v : ℕ → K) (j : ℕ) → krylov F T (U v) j ≡ U (krylov F T v j)
  krylov_commute T U e v zero = refl
  krylov_commute T U e v (suc j) = ap T (krylov_commute T U e v j) ∙ e (krylov F T v j)

  module _ (D : ℕ) (T : (ℕ → K) → ℕ → K) (lin : LinearMap F D T) where
    pub map_comb : (n : ℕ) (c : ℕ → K) (v : ℕ → ℕ → K) (j : ℕ) → T (λ x. sum F n (λ k. c k ⊗ v k x)) j ≡ sum F n (λ k. c k ⊗ T (v k) j)
    map_comb n c v j = sym (sums.sum_through F n (coordinate lin j) (λ k x. c k ⊗ v k x)) ∙ ap (sum F n) (fun_ext (λ k. lin.scale (c k) (v k) j))

    pub krylov_add : (f g : ℕ → K) (j : ℕ) → krylov F T (λ x. f x ⊕ g x) j ≡ (λ x. krylov F T f j x ⊕ krylov F T g j x)
    krylov_add f g zero = refl
    krylov_add f g (suc j) = ap T (krylov_add f g j) ∙ fun_ext (λ x. lin.add _ _ x)

    pub krylov_scale : (c : K) (f : ℕ → K) (j : ℕ) → krylov F T (λ x. c ⊗ f x) j ≡ (λ x. c ⊗ krylov F T f j x)
    krylov_scale c f zero = refl
    krylov_scale c f (suc j) = ap T (krylov_scale c f j) ∙ fun_ext (λ x. lin.scale _ _ x)

    pub krylov_local : (f g : ℕ → K) → ((i : ℕ) → i < D → f i ≡ g i) → (j i : ℕ) → i < D → krylov F T f j i ≡ krylov F T g j i
    krylov_local f g h zero i l = h i l
    krylov_local f g h (suc j) i l = lin.local _ _ (krylov_local f g h j) i l

    pub krylov_comb : (m : ℕ) (c : ℕ → K) (u : ℕ → ℕ → K) (j : ℕ) → krylov F T (λ x. sum F m (λ l. c l ⊗ u l x)) j ≡ (λ x. sum F m (λ l. c l ⊗ krylov F T (u l) j x))
    krylov_comb m c u zero = refl
    krylov_comb m c u (suc j) = ap T (krylov_comb m c u j) ∙ fun_ext (λ x. map_comb m c (λ l. krylov F T (u l) j) x)

    pub krylov_zero : (j i : ℕ) → krylov F T (λ x. zer) j i ≡ zer
    krylov_zero j i = ap (λ (f : ℕ → K). krylov F T f j i) (fun_ext (λ x. sym (field.zero_mul F zer))) ∙ ap (λ (f : ℕ → K). f i) (krylov_scale zer (λ x. zer) j) ∙ field.zero_mul F _

    -- a relation among the first d + 1 Krylov vectors goes on
    pub krylov_recurs : (e : ℕ → K) (d : ℕ) (c : ℕ → K) → Combines F D d c (krylov F T e) (krylov F T e d) → (j i : ℕ) → i < D → krylov F T e (d + j) i ≡ sum F d (λ k. c k ⊗ krylov F T e (k + j) i)
    krylov_recurs e d c h zero i l =
        ap (λ z. krylov F T e z i) (plus-zero d) ∙ h i l ∙ sums.sum_ext F d _ _ (λ k m. ap (λ z. c k ⊗ krylov F T e z i) (sym (plus-zero k)))
    krylov_recurs e d c h (suc j) i l =
        ap (λ z. krylov F T e z i) (add-suc d j)
        ∙ lin.local _ _ (krylov_recurs e d c h j) i l
        ∙ map_comb d c (λ k. krylov F T e (k + j)) i
        ∙ sums.sum_ext F d _ _ (λ k m. ap (λ z. c k ⊗ krylov F T e z i) (sym (add-suc k j)))

    -- the polynomial c of the map: c_0 v + c_1 T v + .. below m
    abbrev pub polynomial_of : ℕ → (ℕ → K) → (ℕ → K) → ℕ → K
    polynomial_of m c v j = sum F m (λ l. c l ⊗ krylov F T v l j)

    pub polynomial_linear : (m : ℕ) (c : ℕ → K) → LinearMap F D (polynomial_of m c)
    polynomial_linear m c = record {
      add = λ f g j. sums.sum_ext F m _ _ (λ l p. ap (λ (u : ℕ → K). c l ⊗ u j) (krylov_add f g l) ∙ distrib _ _ _) ∙ sums.sum_add F m _ _;
      scale = λ a f j. sums.sum_ext F m _ _ (λ l p. ap (λ (u : ℕ → K). c l ⊗ u j) (krylov_scale a f l) ∙ field.mul_left_comm F _ _ _) ∙ sums.sum_scale F m a _;
      local = λ f g h j p. sums.sum_ext F m _ _ (λ l q. ap (λ x. c l ⊗ x) (krylov_local f g h l j p));
    }

    twice : (m : ℕ) (c b v : ℕ → K) (j : ℕ) → polynomial_of m c (polynomial_of m b v) j ≡ sum F m (λ l. sum F m (λ i. c l ⊗ (b i ⊗ krylov F T v (i + l) j)))
    twice m c b v j = sums.sum_ext F m _ _ (λ l p.
        ap (λ (u : ℕ → K). c l ⊗ u j) (krylov_comb m b (krylov F T v) l)
        ∙ sym (sums.sum_scale F m (c l) _)
        ∙ sums.sum_ext F m _ _ (λ i q. ap (λ (u : ℕ → K). c l ⊗ (b i ⊗ u j)) (krylov_more T v i l)))

    -- two polynomials of one map can change places
    pub polynomials_commute : (m : ℕ) (c b v : ℕ → K) → polynomial_of m c (polynomial_of m b v) ≡ polynomial_of m b (polynomial_of m c v)
    polynomials_commute m c b v = fun_ext (λ j.
        twice m c b v j
        ∙ sums.sum_swap F m m _
        ∙ sums.sum_ext F m _ _ (λ i p. sums.sum_ext F m _ _ (λ l q. field.mul_left_comm F _ _ _ ∙ ap (λ z. b i ⊗ (c l ⊗ krylov F T v z j)) (plus_comm i l)))
        ∙ sym (twice m b c v j))
