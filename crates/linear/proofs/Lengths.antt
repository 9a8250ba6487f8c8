-- A recurrence and its connection polynomial: each gives the other, of the same length.
use Rattle.std.proofs.Common.{◌≡◌, ℕ, zero, suc, ◌+◌, ◌-◌, ◌<◌, ◌↔◌, sym, refl, ap, ◌∙◌, subst, ap₂, add_comm as plus_comm, arith}
use Rattle.algebra.specs.Field.{Field}
use Rattle.algebra.specs.Vector.{sum, Least}
use Rattle.linear.specs.Recurrence.{conv, Gen, Recurs}
use Rattle.linear.specs.Massey.{Loop}
use Rattle.algebra.proofs.Laws
use Rattle.algebra.proofs.Sums
use Rattle.linear.proofs.Series
use Rattle.algebra.proofs.Span.{upto, upto_in, upto_off}

module _ {K : Type 0} (F : Field K) where
  open F use {zer, one, ◌⊕◌, ◌⊗◌, neg, inv, add_assoc, add_comm, add_zero, add_neg, mul_assoc, mul_comm, mul_one, distrib, mul_inv, one_ne, same}

  infixl 65 ◌⊕◌
  infixl 70 ◌⊗◌
  -- a connection polynomial read backwards
  pub monic : (s C : ℕ → K) (m N : ℕ) → Gen F s C m N → (j : ℕ) → j + m < N → sum F m (λ i. C (m - i) ⊗ s (j + i)) ⊕ s (j + m) ≡ zer
  monic s C m N g j l =
      ap (λ z. sum F m (λ i. C (m - i) ⊗ s (j + i)) ⊕ z) (sym (ap (λ z. z ⊗ s (j + m)) (ap C {x = m - m} {y = 0} (omega arith) ∙ g.lead) ∙ Laws.one_mul F _))
      ∙ sym (Series.conv_back F m j C s g.deg)
      ∙ g.ann (j + m) (omega arith) l

  pub monic_shifted : (s C : ℕ → K) (m N : ℕ) → Gen F s C m N → (j : ℕ) → j + m < N → sum F m (λ i. C (m - i) ⊗ s (i + j)) ⊕ s (m + j) ≡ zer
  monic_shifted s C m N g j l = ap₂ (λ x y. x ⊕ y) (Sums.sum_ext F m _ _ (λ i k. ap (λ z. C (m - i) ⊗ s z) (plus_comm i j))) (ap s (plus_comm m j)) ∙ monic s C m N g j l

  pub gen→recurs : (s C : ℕ → K) (m T : ℕ) → Gen F s C m T → Recurs F s T m
  gen→recurs s C m T g = (λ i. neg (C (m - i)), λ j l. go j l)
    where
      go : (j : ℕ) → j + m < T → s (j + m) ≡ sum F m (λ i. neg (C (m - i)) ⊗ s (j + i))
      go j l =
          Laws.from_diff F _ _ (
          add_comm _ _
          ∙ ap (λ x. x ⊕ s (j + m)) (sym (Laws.neg_mul F one _ ∙ ap neg (Laws.one_mul F _)) ∙ sym (Sums.sum_scale F m (neg one) _) ∙ Sums.sum_ext F m _ _ (λ i k. ap (λ z. neg one ⊗ z) (Laws.neg_mul F _ _) ∙ Laws.neg_mul F one _ ∙ ap neg (Laws.one_mul F _) ∙ Laws.neg_neg F _))
          ∙ monic s C m T g j l)

  -- the polynomial of a recurrence
  abbrev pub poly : ℕ → (ℕ → K) → ℕ → K
  poly m c zero = one
  poly m c (suc i) = upto F m (λ k. neg (c (m - suc k))) i

  pub recurs→gen : (s : ℕ → K) (m T : ℕ) (x : Recurs F s T m) → Gen F s (poly m x.0) m T
  recurs→gen s m T x = record { lead = refl; deg = deg; ann = λ j l h. subst (λ k. conv F (poly m c) s k ≡ zer) {x = j - m + m} {y = j} (omega arith) (ann (j - m) (omega arith)) }
    where
      c : ℕ → K
      c = x.0

      deg : (i : ℕ) → m < i → poly m c i ≡ zer
      deg zero l = absurd (omega arith)
      deg (suc i) l = upto_off F m _ i (omega arith)

      back : (i k : ℕ) → i < m → m - i ≡ suc k → poly m c (suc k) ≡ neg (c i)
      back i k l e = upto_in F m _ k (omega arith) ∙ ap (λ z. neg (c z)) {x = m - suc k} {y = i} (omega arith)

      here : (i : ℕ) → i < m → poly m c (m - i) ≡ neg (c i)
      here i l = ap (poly m c) {x = m - i} {y = suc (m - suc i)} (omega arith) ∙ back i (m - suc i) l (omega arith)

      self : m - m ≡ 0
      self = omega arith

      ann : (j : ℕ) → j + m < T → conv F (poly m c) s (j + m) ≡ zer
      ann j l =
          Series.conv_back F m j (poly m c) s deg
          ∙ ap₂ (λ u w. u ⊕ poly m c w ⊗ s (j + m))
          (Sums.sum_ext F m _ _ (λ i k. ap (λ z. z ⊗ s (j + i)) (here i k) ∙ Laws.neg_mul F _ _ ∙ sym (Laws.neg_mul F one _ ∙ ap neg (Laws.one_mul F _))) ∙ Sums.sum_scale F m (neg one) (λ i. c i ⊗ s (j + i)))
          self
          ∙ ap₂ (λ u w. neg one ⊗ u ⊕ w) (sym (x.1 j l)) (Laws.one_mul F _)
          ∙ ap (λ z. z ⊕ s (j + m)) (Laws.neg_mul F one _ ∙ ap neg (Laws.one_mul F _)) ∙ Laws.neg_add F _

  -- what the loop ends with is the least length
  pub loop_least : (s C : ℕ → K) (L N : ℕ) (B : ℕ → K) (H m : ℕ) (b : K) → Loop F s C L N B H m b → Least (Recurs F s N) L
  loop_least s C L N B H m b I = (gen→recurs s C L N I.gen, λ k x. I.least (poly k x.0) k (recurs→gen s k N x))

  -- only the words that a recurrence speaks of count
  recurs_local : (s t : ℕ → K) (l N : ℕ) → ((j : ℕ) → j < N → s j ≡ t j) → Recurs F s N l → Recurs F t N l
  recurs_local s t l N h x = (x.0, λ j p. sym (h (j + l) p) ∙ x.1 j p ∙ Sums.sum_ext F l _ _ (λ i q. ap (λ z. x.0 i ⊗ z) (h (j + i) (omega arith))))

  gen_local : (s t C : ℕ → K) (l N : ℕ) → ((j : ℕ) → j < N → s j ≡ t j) → Gen F s C l N → Gen F t C l N
  gen_local s t C l N h g = record { lead = g.lead; deg = g.deg; ann = λ j p q. sym (Series.conv_local F j C s t (λ i b. h i (omega arith))) ∙ g.ann j p q }

  pub first_words : (s t C : ℕ → K) (l N : ℕ) → ((j : ℕ) → j < N → s j ≡ t j) → (Recurs F s N l ↔ Recurs F t N l) × (Gen F s C l N ↔ Gen F t C l N)
  first_words s t C l N h =
      let back : (j : ℕ) → j < N → t j ≡ s j = λ j p. sym (h j p) in
      ((recurs_local s t l N h, recurs_local t s l N back), (gen_local s t C l N h, gen_local t s C l N back))
