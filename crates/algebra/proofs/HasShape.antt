-- Which ideals have a shaped basis: those whose first D Krylov vectors are independent. The relations of its rows, and the least
-- degree of a member in x_k alone.
use Rattle.std.proofs.Common.{◌≡◌, ℕ, suc, ◌<◌, ◌≤◌, Bool, ◌≢◌, ◌↔◌, List, sym, refl, ap, ◌∙◌, subst, ap₂, arith}
use native.Mathlib.Decide.{ℕ_discrete}
use Rattle.algebra.specs.Field.{Field}
use Rattle.algebra.specs.Vector.{sum, basis, apply, Combines, Independent, Degree}
use Rattle.algebra.specs.Monomial.{Mono, power}
use Rattle.algebra.specs.Polynomial.{Poly}
use Rattle.algebra.specs.Ideal.{Member, SameIdeal}
use Rattle.algebra.specs.Evaluation.{Commute, evaluate}
use Rattle.algebra.specs.Order.{Ordered}
use Rattle.algebra.specs.Basis.{dim, stair, Passed}
use Rattle.algebra.specs.Matrices.{matrices, Commuting, Agree}
use Rattle.algebra.specs.Shape.{powers, alone, monic, solved, shaped, HasShape, AloneMember, Relations, LeastAlone, ShapeDecided}
use Rattle.algebra.proofs.Laws as field
use Rattle.algebra.proofs.Sums as sums
use Rattle.algebra.proofs.Span as span
use Rattle.algebra.proofs.Ideals as ideals
use Rattle.algebra.proofs.Evaluation as evaluation
use Rattle.algebra.proofs.Columns as columns
use Rattle.algebra.proofs.Agreement as agreement
use Rattle.algebra.proofs.Agreement.{System}
use Rattle.algebra.proofs.Matrices.{is_system}
use Rattle.algebra.proofs.Companion as companion
use Rattle.algebra.proofs.ShapedBasis as shaped_basis

-- of a system whose matrices agree
module _ {K : Type 0} (F : Field K) (n D : ℕ) (s : ℕ → Mono n) (L : List (Poly K n)) (A : ℕ → ℕ → ℕ → K) (B : System F n D s L A) (C : Commuting F n D A) (k : ℕ) (kn : k < n) where
  open F use {zer, one, ◌⊕◌, ◌⊗◌, neg, add_comm}

  infixl 65 ◌⊕◌
  infixl 70 ◌⊗◌
  abbrev T : ℕ → (ℕ → K) → ℕ → K
  T i = apply F D (A i)

  abbrev e : ℕ → K
  e = basis F 0

  abbrev v : ℕ → ℕ → K
  v = powers F D A k

  maps : Commute n T
  maps = agreement.as_maps F n D s L A B C

  -- a polynomial in x_k alone belongs to the ideal exactly when it combines the Krylov vectors to zero
  pub member_alone : (m : ℕ) (c : ℕ → K) → Member F n L (alone F n k m c) ↔ ((j : ℕ) → j < D → sum F m (λ l. c l ⊗ v l j) ≡ zer)
  member_alone m c =
      let x = agreement.member_iff F n D s L A B C (alone F n k m c) in
      (λ i j p. sym (evaluation.evaluate_alone F n T maps e k kn m c j) ∙ x.0 i j p, λ h. x.1 (λ j p. evaluation.evaluate_alone F n T maps e k kn m c j ∙ h j p))

  pub free_from : (d : ℕ) → Independent F D d v → columns.Free F n L d (power n k)
  free_from d free c m = free c ((member_alone d c).0 m)

  abbrev Related : (ℕ → ℕ → K) → Type 0
  Related = Relations F n D A k

  -- the values of the generators
  value_monic : (g : ℕ → K) (j : ℕ) → evaluate F n T e (monic F n k D g) j ≡ sum F D (λ l. g l ⊗ v l j) ⊕ v D j
  value_monic g j = ap₂ (λ x y. x ⊕ y) (field.one_mul F _ ∙ ap (λ (u : ℕ → K). u j) (evaluation.act_power F n T maps e k kn D)) (evaluation.evaluate_alone F n T maps e k kn D g j) ∙ add_comm _ _

  value_solved : (i : ℕ) → i < n → (h : ℕ → K) (j : ℕ) → evaluate F n T e (solved F n k D i h) j ≡ T i e j ⊕ neg one ⊗ sum F D (λ l. h l ⊗ v l j)
  value_solved i l h j = ap₂ (λ x y. x ⊕ y) (field.one_mul F _ ∙ ap (λ (u : ℕ → K). u j) (evaluation.act_single F n T maps e i l)) (evaluation.evaluate_alone F n T maps e k kn D _ j ∙ sums.sum_neg F D h (λ l. v l j))

  monic_member : (rows : ℕ → ℕ → K) → Related rows → Member F n L (monic F n k D (rows k))
  monic_member rows Q = (agreement.member_iff F n D s L A B C (monic F n k D (rows k))).1 (λ j p. value_monic (rows k) j ∙ Q.first j p)

  solved_member : (rows : ℕ → ℕ → K) → Related rows → (i : ℕ) → i < n → i ≢ k → Member F n L (solved F n k D i (rows i))
  solved_member rows Q i l d =
      (agreement.member_iff F n D s L A B C (solved F n k D i (rows i))).1
      (λ j p. value_solved i l (rows i) j ∙ ap (λ x. T i e j ⊕ neg one ⊗ x) (Q.others i l d j p) ∙ field.minus_self F _)

  -- the rows of a shaped basis of the ideal have the relations
  pub related : (rows : ℕ → ℕ → K) → SameIdeal F n L (shaped F n k D rows n) → Related rows
  related rows same = record {
    first = λ j p. sym (value_monic (rows k) j) ∙ (agreement.member_iff F n D s L A B C (monic F n k D (rows k))).0 ((same (monic F n k D (rows k))).1 (shaped_basis.monic_in F n k D kn rows)) j p;
    others = λ i l d j p.
        sym (field.equal_of_minus F _ _
        (sym (value_solved i l (rows i) j) ∙ (agreement.member_iff F n D s L A B C (solved F n k D i (rows i))).0 ((same (solved F n k D i (rows i))).1 (shaped_basis.solved_in F n k D kn rows i l d)) j p));
  }

  -- rows with these relations have the ideal
  pub same_ideal : Independent F D D v → (rows : ℕ → ℕ → K) → Related rows → SameIdeal F n L (shaped F n k D rows n)
  same_ideal free rows Q f = (back, within f)
    where
      G : List (Poly K n)
      G = shaped F n k D rows n

      within : (f : Poly K n) → Member F n G f → Member F n L f
      within f = ideals.ideal-within F n L G (companion.shaped_all F n k D rows (Member F n L) (monic_member rows Q) (solved_member rows Q) n (omega arith)) f

      back : Member F n L f → Member F n G f
      back m =
          let q = shaped_basis.reduced F n k D kn rows B.some f in
          let c = shaped_basis.reduced_good F n k D kn rows B.some f in
          columns.member_zero F n G D (power n k) f q (free_from D free q (columns.member_combination F n L D (power n k) f q (within _ c) m)) c

  -- the rows, where the Krylov vectors are independent: the coordinates of T_k^D e and of the T_i e
  pub found : Independent F D D v → (rows : ℕ → ℕ → K) × Related rows
  found free = ((λ i. pick i (ℕ_discrete i k)), record { first = at-k (ℕ_discrete k k); others = λ i q d. at_i i d (ℕ_discrete i k) })
    where
      pick : (i : ℕ) → Dec (i ≡ k) → ℕ → K
      pick i (yes z) l = neg ((span.spans_once F D v free (v D)).0 l)
      pick i (no d) l = (span.spans_once F D v free (T i e)).0 l

      at-k : (x : Dec (k ≡ k)) (j : ℕ) → j < D → sum F D (λ l. pick k x l ⊗ v l j) ⊕ v D j ≡ zer
      at-k (yes z) j p =
          let x = span.spans_once F D v free (v D) in
          ap₂ (λ a b. a ⊕ b) (sums.sum_neg F D x.0 (λ l. v l j)) (x.1 j p) ∙ add_comm _ _ ∙ field.minus_self F _
      at-k (no d) j p = absurd (d refl)

      at_i : (i : ℕ) → i ≢ k → (x : Dec (i ≡ k)) (j : ℕ) → j < D → sum F D (λ l. pick i x l ⊗ v l j) ≡ T i e j
      at_i i d (yes z) j p = absurd (d z)
      at_i i d (no y) j p = sym ((span.spans_once F D v free (T i e)).1 j p)

  pub free_shape : Independent F D D v → HasShape F n L D k
  free_shape free = let x = found free in (x.0, same_ideal free x.0 x.1)

  pub shape_free : HasShape F n L D k → Independent F D D v
  shape_free x c h l p = companion.shaped_free F n k D kn x.0 c ((x.1 (alone F n k D c)).0 ((member_alone D c).1 h)) l p

  -- where the first d vectors are independent and the next is a combination of them, d is the least degree
  pub least_at : (d : ℕ) → Independent F D d v → (c : ℕ → K) → Combines F D d c v (v d) → LeastAlone F n L k d
  least_at d free c last = (
    (span.relation F d c, span.relation_ne F d c, (member_alone (suc d) _).1 (λ j p. span.relation_zero F d (suc d) c (λ l. v l j) (omega arith) (last j p))),
    shaped_basis.degree_from F n k L d (free_from d free),
  )

  pub least_some : (d : ℕ) × (d ≤ D) × LeastAlone F n L k d × Degree F D v d × Independent F D d v
  least_some = let g = span.degree F D v in (g.0, g.1, least_at g.0 g.3 g.2.0.0 g.2.0.1, g.2, g.3)

  pub least_degree : (d : ℕ) → LeastAlone F n L k d ↔ Degree F D v d
  least_degree d =
      let g = least_some in
      (λ x. subst (Degree F D v) (span.least_once (AloneMember F n L k) g.0 d g.2 x) g.3, λ x. subst (LeastAlone F n L k) (span.least_once _ g.0 d g.3 x) g.2)

  -- a shaped basis has the ideal exactly when the least degree is D
  pub shape_full : (d : ℕ) → LeastAlone F n L k d → HasShape F n L D k ↔ (d ≡ D)
  shape_full d x =
      let g = least_some in
      let is : g.0 ≡ d = span.least_once (AloneMember F n L k) g.0 d g.2 x in
      (λ y. omega (arith, is, g.1, span.no_combination F D D g.0 v (shape_free y) g.3.0.0 g.3.0.1), λ z. free_shape (subst (λ (m : ℕ). Independent F D m v) (is ∙ z) g.4))

  pub shape_known : Dec (HasShape F n L D k)
  shape_known = go (ℕ_discrete least_some.0 D)
    where
      go : Dec (least_some.0 ≡ D) → Dec (HasShape F n L D k)
      go (yes z) = yes ((shape_full least_some.0 least_some.2).1 z)
      go (no z) = no (λ x. z ((shape_full least_some.0 least_some.2).0 x))

-- of polynomials that passed and whose matrices agree
pub shape_decided : {K : Type 0} (F : Field K) (n : ℕ) (before : Mono n → Mono n → Bool) → Ordered n before → (L : List (Poly K n)) → Passed F n before L → Agree F n before L → (k : ℕ) → k < n → ShapeDecided F n before L k
shape_decided F n before O L Q C k kn =
    let D = dim n before L in
    let s = stair n before L in
    let A = matrices F n before L in
    let B = is_system F n before O L Q in
    let x = least_some F n D s L A B C k kn in
    record {
      shape = (shape_free F n D s L A B C k kn, free_shape F n D s L A B C k kn);
      rows = λ rows. (λ same. (shape_free F n D s L A B C k kn (rows, same), related F n D s L A B C k kn rows same), λ x. same_ideal F n D s L A B C k kn x.0 rows x.1);
      least = least_degree F n D s L A B C k kn;
      some = (x.0, x.1, x.2);
      full = shape_full F n D s L A B C k kn;
    }
