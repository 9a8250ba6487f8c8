-- The companion map of a shaped basis: multiply by x and reduce by the monic polynomial. The polynomials of the map that the
-- rows give commute and kill the basis, so that no nonzero polynomial in x_k alone of degree below D belongs to its ideal.
use Rattle.std.proofs.Common.{◌≡◌, ℕ, zero, suc, ◌<◌, ◌≤◌, Bool, cond, eqb, ◌≢◌, sym, refl, ap, ◌∙◌, ap₂, arith}
use mathlib.Core.Path.{fun_ext}
use native.Mathlib.Decide.{ℕ_discrete, dec_lt}
use lib.Dec.{eqb-suc-zero, eqb-suc-suc}
use Rattle.std.specs.List.{AllByRecursion}
use Rattle.std.proofs.lemmas.Bool.{eq-eqb, ne_eqb}
use Rattle.algebra.specs.Field.{Field}
use Rattle.algebra.specs.Vector.{sum, basis, krylov, LinearMap}
use Rattle.algebra.specs.Monomial.{power}
use Rattle.algebra.specs.Polynomial.{Poly, combination}
use Rattle.algebra.specs.Evaluation.{Commute, evaluate, Evaluates}
use Rattle.algebra.specs.Shape.{monic, solved, shaped}
use Rattle.algebra.proofs.Laws as field
use Rattle.algebra.proofs.Sums as sums
use Rattle.algebra.proofs.Span.{upto, upto_in, upto_off}
use Rattle.algebra.proofs.Maps as maps
use Rattle.algebra.proofs.Evaluation as evaluation
use Rattle.algebra.proofs.Columns as columns

-- the generator that row i stands for
module _ {K : Type 0} (F : Field K) (n k D : ℕ) (rows : ℕ → ℕ → K) where
  abbrev pub generator : ℕ → Poly K n
  generator i = cond (eqb i k) (monic F n k D (rows i)) (solved F n k D i (rows i))

  pub generator_k : generator k ≡ monic F n k D (rows k)
  generator_k = ap (λ (b : Bool). cond b (monic F n k D (rows k)) (solved F n k D k (rows k))) (eq-eqb k k refl)

  pub generator_other : (i : ℕ) → i ≢ k → generator i ≡ solved F n k D i (rows i)
  generator_other i d = ap (λ (b : Bool). cond b (monic F n k D (rows i)) (solved F n k D i (rows i))) (ne_eqb i k d)

  -- what holds of each generator holds of the basis
  pub shaped_all : (P : Poly K n → Type 0) → P (monic F n k D (rows k)) → ((i : ℕ) → i < n → i ≢ k → P (solved F n k D i (rows i))) → (m : ℕ) → m ≤ n → AllByRecursion P (shaped F n k D rows m)
  shaped_all P a b zero l = tt
  shaped_all P a b (suc m) l = (go (ℕ_discrete m k), shaped_all P a b m (omega arith))
    where
      go : Dec (m ≡ k) → P (generator m)
      go (yes e) = rw e (rw generator_k a)
      go (no d) = rw (generator_other m d) (b m (omega arith) d)

module _ {K : Type 0} (F : Field K) (n k d : ℕ) (kn : k < n) (rows : ℕ → ℕ → K) where
  open F use {zer, one, ◌⊕◌, ◌⊗◌, neg, add_assoc, add_comm, add_zero, mul_assoc, mul_comm, distrib}

  infixl 65 ◌⊕◌
  infixl 70 ◌⊗◌
  abbrev D : ℕ
  D = suc d

  abbrev later : (ℕ → K) → ℕ → K
  later v zero = zer
  later v (suc j) = v j

  -- x v - v_d g, in the first D coordinates
  abbrev reduced : (ℕ → K) → ℕ → K
  reduced v j = later v j ⊕ neg one ⊗ (v d ⊗ rows k j)

  abbrev C : (ℕ → K) → ℕ → K
  C v = upto F D (reduced v)

  later_add : (u v : ℕ → K) (j : ℕ) → later (λ i. u i ⊕ v i) j ≡ later u j ⊕ later v j
  later_add u v zero = sym (add_zero zer)
  later_add u v (suc j) = refl

  reduced_add : (u v : ℕ → K) (j : ℕ) → reduced (λ i. u i ⊕ v i) j ≡ reduced u j ⊕ reduced v j
  reduced_add u v j = ap (λ x. x ⊕ neg one ⊗ ((u d ⊕ v d) ⊗ rows k j)) (later_add u v j) ∙ simp (field.distrib_right F, distrib, add_assoc, field.add_left_comm F)

  later_scale : (c : K) (v : ℕ → K) (j : ℕ) → later (λ i. c ⊗ v i) j ≡ c ⊗ later v j
  later_scale c v zero = sym (field.mul_zero F c)
  later_scale c v (suc j) = refl

  later_local : (u v : ℕ → K) → ((i : ℕ) → i < D → u i ≡ v i) → (j : ℕ) → j < D → later u j ≡ later v j
  later_local u v h zero l = refl
  later_local u v h (suc j) l = h j (omega arith)

  -- within D and past it
  inside : (v : ℕ → K) (j : ℕ) → j < D → C v j ≡ reduced v j
  inside v j l = upto_in F D (reduced v) j l

  past : (v : ℕ → K) (j : ℕ) → D ≤ j → C v j ≡ zer
  past v j l = upto_off F D (reduced v) j l

  linear : LinearMap F D C
  linear = record { add = λ u v j. add u v j (dec_lt j D); scale = λ c v j. scale c v j (dec_lt j D); local = λ u v h j l. inside u j l ∙ ap₂ (λ x y. x ⊕ neg one ⊗ (y ⊗ rows k j)) (later_local u v h j l) (h d (omega arith)) ∙ sym (inside v j l) }
    where
      add : (u v : ℕ → K) (j : ℕ) → Dec (j < D) → C (λ i. u i ⊕ v i) j ≡ C u j ⊕ C v j
      add u v j (yes l) =
          inside (λ i. u i ⊕ v i) j l ∙ reduced_add u v j ∙ sym (ap₂ (λ x y. x ⊕ y) (inside u j l) (inside v j l))
      add u v j (no l) = past (λ i. u i ⊕ v i) j (omega arith) ∙ sym (ap₂ (λ x y. x ⊕ y) (past u j (omega arith)) (past v j (omega arith)) ∙ add_zero zer)

      scale : (c : K) (v : ℕ → K) (j : ℕ) → Dec (j < D) → C (λ i. c ⊗ v i) j ≡ c ⊗ C v j
      scale c v j (yes l) =
          inside (λ i. c ⊗ v i) j l
          ∙ ap₂ (λ x y. x ⊕ y) (later_scale c v j) (ap (λ x. neg one ⊗ x) (mul_assoc c (v d) (rows k j)) ∙ field.mul_left_comm F (neg one) c _)
          ∙ sym (distrib _ _ _)
          ∙ ap (λ x. c ⊗ x) (sym (inside v j l))
      scale c v j (no l) = past (λ i. c ⊗ v i) j (omega arith) ∙ sym (ap (λ x. c ⊗ x) (past v j (omega arith)) ∙ field.mul_zero F c)

  later_basis : (r j : ℕ) → later (basis F r) j ≡ basis F (suc r) j
  later_basis r zero = ap (λ b. cond b one zer) (sym (eqb-suc-zero r))
  later_basis r (suc j) = ap (λ b. cond b one zer) (sym (eqb-suc-suc r j))

  abbrev e : ℕ → K
  e = basis F 0

  -- the first D powers of the map at 1 are the unit vectors
  units : (r : ℕ) → r < D → krylov F C e r ≡ basis F r
  units zero h = refl
  units (suc r) h = fun_ext (λ j. ap (λ (v : ℕ → K). C v j) (units r (omega arith)) ∙ go j (dec_lt j D))
    where
      go : (j : ℕ) → Dec (j < D) → C (basis F r) j ≡ basis F (suc r) j
      go j (yes l) =
          inside (basis F r) j l
          ∙ ap₂ (λ x y. x ⊕ neg one ⊗ (y ⊗ rows k j)) (later_basis r j) (sums.basis_other F r d (omega arith))
          ∙ simp (field.zero_mul F, field.mul_zero F, add_zero)
      go j (no l) = past (basis F r) j (omega arith) ∙ sym (sums.basis_other F (suc r) j (omega arith))

  -- the next is the opposite of row k, so that the monic polynomial dies
  monic_dies : (j : ℕ) → krylov F C e D j ⊕ sum F D (λ r. rows k r ⊗ krylov F C e r j) ≡ zer
  monic_dies j = ap₂ (λ (v : ℕ → K) x. C v j ⊕ x) (units d (omega arith)) (sums.sum_ext F D _ _ (λ r p. ap (λ (v : ℕ → K). rows k r ⊗ v j) (units r p))) ∙ go (dec_lt j D)
    where
      go : Dec (j < D) → C (basis F d) j ⊕ sum F D (λ r. rows k r ⊗ basis F r j) ≡ zer
      go (yes l) =
          ap₂ (λ x y. x ⊕ y)
          (inside (basis F d) j l
          ∙ ap₂ (λ x y. x ⊕ neg one ⊗ (y ⊗ rows k j)) (later_basis d j ∙ sums.basis_other F D j (omega arith)) (sums.basis_same F d)
          ∙ simp (field.zero_add F, field.one_mul F))
          (sums.sum_at F D (rows k) j l)
          ∙ add_comm _ _
          ∙ field.minus_self F _
      go (no l) = ap₂ (λ x y. x ⊕ y) (past (basis F d) j (omega arith)) (sums.sum_past F D (rows k) j (omega arith)) ∙ add_zero zer

  -- x_i as a polynomial of the map: row i, and x itself for x_k
  abbrev h : ℕ → ℕ → K
  h i = cond (eqb i k) (basis F 1) (upto F D (rows i))

  abbrev T : ℕ → (ℕ → K) → ℕ → K
  T i = maps.polynomial_of F D C linear (suc D) (h i)

  T_k : T k ≡ C
  T_k = fun_ext (λ v. fun_ext (λ j.
      ap (λ (b : Bool). maps.polynomial_of F D C linear (suc D) (cond b (basis F 1) (upto F D (rows k))) v j) (eq-eqb k k refl)
      ∙ sums.sum_ext F (suc D) _ _ (λ l p. mul_comm _ _)
      ∙ sums.sum_basis F (suc D) 1 (λ l. krylov F C v l j) (omega arith)))

  T_other : (i : ℕ) → i ≢ k → (v : ℕ → K) (j : ℕ) → T i v j ≡ sum F D (λ l. rows i l ⊗ krylov F C v l j)
  T_other i ne v j =
      ap (λ (b : Bool). maps.polynomial_of F D C linear (suc D) (cond b (basis F 1) (upto F D (rows i))) v j) (ne_eqb i k ne)
      ∙ sums.sum_cut F D (suc D) _ (omega arith) (λ l a b. ap (λ x. x ⊗ krylov F C v l j) (upto_off F D (rows i) l a) ∙ field.zero_mul F _)
      ∙ sums.sum_ext F D _ _ (λ l p. ap (λ x. x ⊗ krylov F C v l j) (upto_in F D (rows i) l p))

  commute : Commute n T
  commute i j p q v = maps.polynomials_commute F D C linear (suc D) (h i) (h j) v

  value : Evaluates F n T e
  value = evaluation.evaluates F n D T (λ i. maps.polynomial_linear F D C linear (suc D) (h i)) commute e

  by_k : (r j : ℕ) → krylov F (T k) e r j ≡ krylov F C e r j
  by_k r j = ap (λ (U : (ℕ → K) → ℕ → K). krylov F U e r j) T_k

  evaluate_alone : (m : ℕ) (c : ℕ → K) (j : ℕ) → evaluate F n T e (combination m (power n k) c) j ≡ sum F m (λ l. c l ⊗ krylov F C e l j)
  evaluate_alone m c j = evaluation.evaluate_alone F n T commute e k kn m c j ∙ sums.sum_ext F m _ _ (λ l p. ap (λ x. c l ⊗ x) (by_k l j))

  basis_dies : AllByRecursion (λ l. evaluate F n T e l ≡ (λ j. zer)) (shaped F n k D rows n)
  basis_dies = shaped_all F n k D rows (λ l. evaluate F n T e l ≡ (λ j. zer)) first others n (omega arith)
    where
      first : evaluate F n T e (monic F n k D (rows k)) ≡ (λ j. zer)
      first = fun_ext (λ j.
          ap₂ (λ x y. x ⊕ y) (field.one_mul F _ ∙ ap (λ (u : ℕ → K). u j) (evaluation.act_power F n T commute e k kn D) ∙ by_k D j) (evaluate_alone D (rows k) j)
          ∙ monic_dies j)

      others : (i : ℕ) → i < n → i ≢ k → evaluate F n T e (solved F n k D i (rows i)) ≡ (λ j. zer)
      others i p ne = fun_ext (λ j.
          ap₂ (λ x y. x ⊕ y) (field.one_mul F _ ∙ ap (λ (u : ℕ → K). u j) (evaluation.act_single F n T commute e i p) ∙ T_other i ne e j) (evaluate_alone D _ j ∙ sums.sum_neg F D (rows i) _)
          ∙ field.minus_self F _)

  pub free_below : columns.Free F n (shaped F n k D rows n) D (power n k)
  free_below v m i p =
      sym (evaluate_alone D v i ∙ sums.sum_ext F D _ _ (λ r q. ap (λ (u : ℕ → K). v r ⊗ u i) (units r q)) ∙ sums.sum_at F D v i p)
      ∙ ap (λ (u : ℕ → K). u i) (value.kills (shaped F n k D rows n) basis_dies (combination D (power n k) v) m)

-- no nonzero polynomial in x_k alone of degree below D belongs to the ideal of a shaped basis
pub shaped_free : {K : Type 0} (F : Field K) (n k D : ℕ) → k < n → (rows : ℕ → ℕ → K) → columns.Free F n (shaped F n k D rows n) D (power n k)
shaped_free F n k zero kn rows v m i p = absurd (omega arith)
shaped_free F n k (suc d) kn rows v m i p = free_below F n k d kn rows v m i p
