-- Agreement: of matrices whose columns are congruent to the products of a staircase and a variable, either all agree, and then
-- the evaluation at them tells membership, or the difference of two products is a nonzero combination in the ideal.
use Rattle.std.proofs.Common.{◌≡◌, ℕ, zero, suc, ◌<◌, ◌≤◌, ◌⊎◌, ◌↔◌, List, ◌∷◌, sym, refl, ap, ◌∙◌, subst, ap₂, inl, inr, arith}
use mathlib.Core.Path.{fun_ext}
use native.Mathlib.Decide.{ℕ_discrete, dec_lt}
use Rattle.std.specs.List.{AllByRecursion}
use Rattle.std.proofs.ByRecursion.{All-weaker}
use Rattle.algebra.specs.Field.{Field}
use Rattle.algebra.specs.Vector.{sum, basis, apply}
use Rattle.algebra.specs.Monomial.{Mono, times, var}
use Rattle.algebra.specs.Monomial as spec
use Rattle.algebra.specs.Polynomial.{Poly, ◌≈◌, term_mul, combination}
use Rattle.algebra.specs.Ideal.{Member, Congruent, SomeCombination}
use Rattle.algebra.specs.Evaluation.{act, Commute, evaluate, Evaluates}
use Rattle.algebra.specs.Matrices.{Commuting}
use Rattle.algebra.proofs.Laws as field
use Rattle.algebra.proofs.Sums as sums
use Rattle.algebra.proofs.Maps as maps
use Rattle.algebra.proofs.Monomials as monos
use Rattle.algebra.proofs.Polynomials as polys
use Rattle.algebra.proofs.Congruence as congruence
use Rattle.algebra.proofs.Evaluation as evaluation
use Rattle.algebra.proofs.Columns as columns

-- of every i below n, or an exception
all_or : {X : Type 0} (n : ℕ) (P : ℕ → Type 0) → ((i : ℕ) → i < n → P i ⊎ X) → ((i : ℕ) → i < n → P i) ⊎ X
all_or zero P d = inl (λ i l. absurd (omega arith))
all_or {X} (suc n) P d = go (all_or n P (λ i l. d i (omega arith))) (d n (omega arith))
  where
    go : ((i : ℕ) → i < n → P i) ⊎ X → P n ⊎ X → ((i : ℕ) → i < suc n → P i) ⊎ X
    go (inr x) y = inr x
    go (inl h) (inr x) = inr x
    go (inl h) (inl y) = inl (λ i l. at i l (ℕ_discrete i n))
      where
        at : (i : ℕ) → i < suc n → Dec (i ≡ n) → P i
        at i l (yes e) = subst P (sym e) y
        at i l (no e) = h i (omega arith)

-- what the staircase s, the generators L and the matrices A of a job have
pub record System {K : Type 0} (F : Field K) (n D : ℕ) (s : ℕ → Mono n) (L : List (Poly K n)) (A : ℕ → ℕ → ℕ → K) : Type 0 where
  pub some : 0 < D
  pub first : s 0 ≡ spec.one n
  pub distinct : (i j : ℕ) → i < D → j < D → s i ≡ s j → i ≡ j
  pub divides : (i k : ℕ) (m : Mono n) → i < D → k < n → s i ≡ times n (var n k) m → (r : ℕ) × (r < D) × (s r ≡ m)
  pub outside : (k i j : ℕ) → D ≤ j → A k j i ≡ F.zer
  pub inner : (k i r : ℕ) → k < n → i < D → r < D → s r ≡ times n (var n k) (s i) → (j : ℕ) → A k j i ≡ basis F r j
  pub good : (k i : ℕ) → k < n → i < D → columns.Good F n L D s (λ j. A k j i) (times n (var n k) (s i))
  pub monic : AllByRecursion (λ l. (k : ℕ) × (i : ℕ) × (k < n) × (i < D) × (◌≈◌ F n l ((F.one, times n (var n k) (s i)) ∷ combination D s (λ j. F.neg (A k j i))))) L

module _ {K : Type 0} (F : Field K) (n D : ℕ) (s : ℕ → Mono n) (L : List (Poly K n)) (A : ℕ → ℕ → ℕ → K) (B : System F n D s L A) where
  open F use {zer, one, ◌⊕◌, ◌⊗◌, neg, add_neg}

  infixl 65 ◌⊕◌
  infixl 70 ◌⊗◌
  abbrev T : ℕ → (ℕ → K) → ℕ → K
  T k = apply F D (A k)

  abbrev φ : Poly K n → ℕ → K
  φ = evaluate F n T (basis F 0)

  -- T_k v is congruent to x_k times v
  pub times_variable : (k : ℕ) → k < n → (v : ℕ → K) → Congruent F n L (combination D s (T k v)) (term_mul F n one (var n k) (combination D s v))
  times_variable k p v =
      congruence.from_mod F n L _ _
      (congruence.mod_resp F n L (λ w. refl) (polys.ev_variable F n (var n k) (combination D s v)) (columns.sound F n L D s (var n k) (A k) v (λ i q. inr (B.good k i p q))))

  -- each monomial is congruent to its vector
  monomial : (m : Mono n) → columns.Good F n L D s (act F n T m (basis F 0)) m
  monomial =
      evaluation.act_ind F n T (columns.Good F n L D s)
      (λ k p v m g. columns.good_times F n L D s (var n k) (A k) v m (λ i q. inr (B.good k i p q)) g)
      (basis F 0)
      (subst (columns.Good F n L D s (basis F 0)) B.first (columns.good_inner F n L D s 0 B.some))

  pub polynomial : (p : Poly K n) → Congruent F n L p (combination D s (φ p))
  polynomial p =
      congruence.from_mod F n L _ _
      (congruence.mod_resp F n L (λ w. refl)
      (λ w. sym (polys.ev_through F p (polys.combination_functional F s D w) (λ m. act F n T m (basis F 0))))
      (congruence.mod_sym F n L (congruence.mod_ev F n L p monomial)))

  -- two matrices one after the other
  twice : (k l : ℕ) (v : ℕ → K) (j : ℕ) → T k (T l v) j ≡ sum F D (λ i. v i ⊗ sum F D (λ r. A k j r ⊗ A l r i))
  twice k l v j = maps.apply_columns F D (A l) v {φ = λ u. T k u j} (maps.coordinate F (maps.apply_linear F D (A k)) j)

  none : (k j : ℕ) (v : ℕ → K) → D ≤ j → T k v j ≡ zer
  none k j v h = sums.sum_zero F D _ (λ i p. ap (λ x. x ⊗ v i) (B.outside k i j h) ∙ field.zero_mul F (v i))

  pub as_maps : Commuting F n D A → Commute n T
  as_maps h k l p q v = fun_ext (λ j. go j (dec_lt j D))
    where
      go : (j : ℕ) → Dec (j < D) → T k (T l v) j ≡ T l (T k v) j
      go j (yes less) = twice k l v j ∙ sums.sum_ext F D _ _ (λ i r. ap (λ x. v i ⊗ x) (h k l p q i j r less)) ∙ sym (twice l k v j)
      go j (no past) = none k j (T l v) (omega arith) ∙ sym (none l j (T k v) (omega arith))

  module _ (h : Commuting F n D A) where
    act_var : (k : ℕ) → k < n → (m : Mono n) → act F n T (times n (var n k) m) (basis F 0) ≡ T k (act F n T m (basis F 0))
    act_var k p m = evaluation.act_var F n T (as_maps h) k p m (basis F 0)

    -- the monomials of the staircase go to the unit vectors
    places : (m : Mono n) (i : ℕ) → i < D → s i ≡ m → act F n T m (basis F 0) ≡ basis F i
    places = monos.mono_ind n (λ m. (i : ℕ) → i < D → s i ≡ m → act F n T m (basis F 0) ≡ basis F i)
        (λ i p e. evaluation.act_one F n T (basis F 0) ∙ ap (basis F) (B.distinct 0 i B.some p (B.first ∙ sym e)))
        (λ k less m ih i p e.
        let d = B.divides i k m p less e in
        act_var k less m
        ∙ ap (T k) (ih d.0 d.1 d.2)
        ∙ fun_ext (λ j. maps.apply_basis F D (A k) d.0 d.1 j ∙ B.inner k d.0 i less d.1 p (e ∙ ap (times n (var n k)) (sym d.2)) j))

    place : (i : ℕ) → i < D → act F n T (s i) (basis F 0) ≡ basis F i
    place i p = places (s i) i p refl

    evaluate_combination : (v : ℕ → K) (j : ℕ) → φ (combination D s v) j ≡ sum F D (λ i. v i ⊗ basis F i j)
    evaluate_combination v j = polys.ev_combination F s D v (λ m. act F n T m (basis F 0) j) ∙ sums.sum_ext F D _ _ (λ i p. ap (λ (u : ℕ → K). v i ⊗ u j) (place i p))

    border_dies : (k i : ℕ) → k < n → i < D → (j : ℕ) → φ ((one, times n (var n k) (s i)) ∷ combination D s (λ r. neg (A k r i))) j ≡ zer
    border_dies k i p q j =
        ap₂ (λ x y. x ⊕ y)
        (field.one_mul F _ ∙ ap (λ (u : ℕ → K). u j) (act_var k p (s i) ∙ ap (T k) (place i q)) ∙ maps.apply_basis F D (A k) i q j)
        (evaluate_combination (λ r. neg (A k r i)) j ∙ go (dec_lt j D))
        ∙ add_neg (A k j i)
      where
        go : Dec (j < D) → sum F D (λ r. neg (A k r i) ⊗ basis F r j) ≡ neg (A k j i)
        go (yes less) = sums.sum_at F D (λ r. neg (A k r i)) j less
        go (no past) = sums.sum_past F D (λ r. neg (A k r i)) j (omega arith) ∙ sym (ap neg (B.outside k i j (omega arith)) ∙ field.neg_zero F)

    value : Evaluates F n T (basis F 0)
    value = evaluation.evaluates F n D T (λ k. maps.apply_linear F D (A k)) (as_maps h) (basis F 0)

    pub kills : (p : Poly K n) → Member F n L p → φ p ≡ (λ j. zer)
    kills p m =
        value.kills L
        (All-weaker _ _
        (λ l c. value.depends l ((one, times n (var n c.0) (s c.1)) ∷ combination D s (λ r. neg (A c.0 r c.1))) c.4 ∙ fun_ext (border_dies c.0 c.1 c.2 c.3))
        L B.monic)
        p m

    -- only the combination zero of the staircase is a member
    pub independent : columns.Free F n L D s
    independent v m j p = sym (evaluate_combination v j ∙ sums.sum_at F D v j p) ∙ ap (λ (u : ℕ → K). u j) (kills (combination D s v) m)

    pub member_iff : (p : Poly K n) → Member F n L p ↔ ((j : ℕ) → j < D → φ p j ≡ zer)
    member_iff p = (λ i j less. ap (λ (u : ℕ → K). u j) (kills p i), back)
      where
        back : ((j : ℕ) → j < D → φ p j ≡ zer) → Member F n L p
        back z = columns.member_zero F n L D s p (φ p) z (polynomial p)

    -- no other combination is congruent to a polynomial
    pub only : (p : Poly K n) (v : ℕ → K) → Congruent F n L p (combination D s v) → (j : ℕ) → j < D → v j ≡ φ p j
    only p v c j l =
        field.equal_of_minus F _ _
        (independent _
        (columns.same_member F n L D s v (φ p) (congruence.mod_sym F n L (congruence.to_mod F n L p (combination D s v) c)) (congruence.mod_sym F n L (congruence.to_mod F n L p (combination D s (φ p)) (polynomial p))))
        j l)

  -- x_k x_l s_i, by the two matrices
  both : (k l i : ℕ) → k < n → l < n → i < D → columns.Good F n L D s (T k (λ j. A l j i)) (times n (var n k) (times n (var n l) (s i)))
  both k l i p q r = columns.good_times F n L D s (var n k) (A k) (λ j. A l j i) _ (λ i less. inr (B.good k i p less)) (B.good l i q r)

  differs : (k l i j : ℕ) → k < n → l < n → i < D → j < D → (T k (λ r. A l r i) j ≡ T l (λ r. A k r i) j → ⊥) → SomeCombination F n L D s
  differs k l i j p q r t d = (
    (λ j. T k (λ r. A l r i) j ⊕ neg one ⊗ T l (λ r. A k r i) j),
    (j, t, λ e. d (field.equal_of_minus F _ _ e)),
    columns.same_member F n L D s _ _ (both k l i p q r) (subst (columns.Good F n L D s (T l (λ r. A k r i))) (monos.exchange n (var n l) (var n k) (s i)) (both l k i q p r)),
  )

  -- the matrices agree, or there is a combination
  pub agree : Commuting F n D A ⊎ SomeCombination F n L D s
  agree = regroup (all_or n _ (λ k p. all_or n _ (λ l q. all_or D _ (λ i r. all_or D _ (λ j t. entry k l i j p q r t (F.same _ _))))))
    where
      Entry : ℕ → ℕ → ℕ → ℕ → Type 0
      Entry k l i j = T k (λ r. A l r i) j ≡ T l (λ r. A k r i) j

      entry : (k l i j : ℕ) → k < n → l < n → i < D → j < D → Dec (Entry k l i j) → Entry k l i j ⊎ SomeCombination F n L D s
      entry k l i j p q r t (yes e) = inl e
      entry k l i j p q r t (no d) = inr (differs k l i j p q r t d)

      regroup : ((k : ℕ) → k < n → (l : ℕ) → l < n → (i : ℕ) → i < D → (j : ℕ) → j < D → Entry k l i j) ⊎ SomeCombination F n L D s → Commuting F n D A ⊎ SomeCombination F n L D s
      regroup (inl h) = inl (λ k l p q i j r t. h k p l q i r j t)
      regroup (inr x) = inr x

  pub agree_none : Commuting F n D A → SomeCombination F n L D s → ⊥
  agree_none h x = x.1.2 (independent h x.0 x.2 x.1.0 x.1.1)

  pub agree_exactly : Commuting F n D A ↔ (SomeCombination F n L D s → ⊥)
  agree_exactly = (agree_none, λ z. pick z agree)
    where
      pick : (SomeCombination F n L D s → ⊥) → Commuting F n D A ⊎ SomeCombination F n L D s → Commuting F n D A
      pick z (inl h) = h
      pick z (inr x) = absurd (z x)
