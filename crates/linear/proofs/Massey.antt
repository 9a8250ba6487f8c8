-- Massey's lemma, and the three turns of the loop of Berlekamp and Massey: no discrepancy, one that leaves the length, one that makes it longer.
use Rattle.std.proofs.Common.{◌≡◌, ℕ, zero, suc, ◌+◌, ◌-◌, ◌<◌, ◌≤◌, ◌≢◌, sym, refl, ap, ◌∙◌, ap₂, lt_of_not-le, arith}
use native.Mathlib.Decide.{ℕ_discrete, dec_le}
use Rattle.algebra.specs.Field.{Field}
use Rattle.linear.specs.Recurrence.{conv, Gen}
use Rattle.linear.specs.Massey.{shift, Loop, corrected}
use Rattle.algebra.proofs.Laws
use Rattle.linear.proofs.Series

module _ {K : Type 0} (F : Field K) where
  open F use {zer, one, ◌⊕◌, ◌⊗◌, neg, inv, add_assoc, add_comm, add_zero, add_neg, mul_assoc, mul_comm, mul_one, distrib, mul_inv, one_ne, same}

  infixl 65 ◌⊕◌
  infixl 70 ◌⊗◌
  pub massey : (s C E : ℕ → K) (L M N : ℕ) → Gen F s C L N → conv F C s N ≢ zer → Gen F s E M (suc N) → N < L + M
  massey s C E L M N gC ne gE = lt_of_not-le (λ h. ne (sym (right h) ∙ Series.conv_left_comm F N E C s ∙ left h))
    where
      left : L + M ≤ N → conv F C (conv F E s) N ≡ zer
      left h = Series.conv_all F N C (conv F E s) (λ i j e. at i j e (dec_le i L))
        where
          at : (i j : ℕ) → i + j ≡ N → Dec (i ≤ L) → C i ⊗ conv F E s j ≡ zer
          at i j e (yes l) = ap (λ z. C i ⊗ z) (gE.ann j (omega arith) (omega arith)) ∙ Laws.mul_zero F (C i)
          at i j e (no l) = ap (λ z. z ⊗ conv F E s j) (gC.deg i (omega arith)) ∙ Laws.zero_mul F _

      right : L + M ≤ N → conv F E (conv F C s) N ≡ conv F C s N
      right h = Series.conv_first F N E (conv F C s) (λ i j e. at i j e (dec_le (suc i) M)) ∙ ap (λ z. z ⊗ conv F C s N) gE.lead ∙ Laws.one_mul F _
        where
          at : (i j : ℕ) → suc i + j ≡ N → Dec (suc i ≤ M) → E (suc i) ⊗ conv F C s j ≡ zer
          at i j e (yes l) = ap (λ z. E (suc i) ⊗ z) (gC.ann j (omega arith) (omega arith)) ∙ Laws.mul_zero F _
          at i j e (no l) = ap (λ z. z ⊗ conv F C s j) (gE.deg (suc i) (omega arith)) ∙ Laws.zero_mul F _

  pub bound : (s C E : ℕ → K) (L M N : ℕ) → Gen F s C L N → conv F C s N ≢ zer → Gen F s E M (suc N) → suc N - L ≤ M
  bound s C E L M N g ne g' = omega (arith, massey s C E L M N g ne g')

  pub gen_less : (s E : ℕ → K) (M N : ℕ) → Gen F s E M (suc N) → Gen F s E M N
  gen_less s E M N g = record { lead = g.lead; deg = g.deg; ann = λ j l h. g.ann j l (omega arith) }

  module _ (s C : ℕ → K) (L N : ℕ) (B : ℕ → K) (H m : ℕ) (b : K) (I : Loop F s C L N B H m b) where
    -- the discrepancy is zero
    pub step_same : conv F C s N ≡ zer → Loop F s C L (suc N) B H (suc m) b
    step_same e = record {
      gen = record { lead = I.gen.lead; deg = I.gen.deg; ann = λ j l h. at j l h (ℕ_discrete j N) };
      least = λ E M g. I.least E M (gen_less s E M N g);
      size = omega arith;
      sizes = omega arith;
      ahead = omega arith;
      deg_B = I.deg_B;
      unit = I.unit;
      old = λ p j l h. I.old p j l (omega arith);
      fails = λ p j h. I.fails p j (omega arith);
    }
      where
        at : (j : ℕ) → L ≤ j → j < suc N → Dec (j ≡ N) → conv F C s j ≡ zer
        at j l h (yes p) = rw p e
        at j l h (no p) = I.gen.ann j l (omega arith)

    fixed : (L' : ℕ) → L ≤ L' → m + H ≤ L' → Gen F s (corrected F C (conv F C s N) B m b) L' (suc N)
    fixed L' h h' = record {
      lead = ap₂ (λ x y. x ⊕ neg (d ⊗ inv b) ⊗ y) I.gen.lead (Series.shift_zero F m B I.ahead) ∙ ap (λ z. one ⊕ z) (Laws.mul_zero F _) ∙ add_zero one;
      deg = λ i l. ap₂ (λ x y. x ⊕ neg (d ⊗ inv b) ⊗ y) (I.gen.deg i (omega arith)) (Series.shift_deg F m H B I.deg_B i (omega arith)) ∙ none _;
      ann = λ j l k. at j l k (ℕ_discrete j N);
    }
      where
        d : K
        d = conv F C s N

        none : (a : K) → zer ⊕ a ⊗ zer ≡ zer
        none a = ap (λ z. zer ⊕ z) (Laws.mul_zero F a) ∙ add_zero zer

        moved : (j : ℕ) → m ≤ j → conv F (shift F m B) s j ≡ conv F B s (j - m)
        moved j l = ap (conv F (shift F m B) s) {x = j} {y = j - m + m} (omega arith) ∙ Series.conv_shift F m (j - m) B s

        at : (j : ℕ) → L' ≤ j → j < suc N → Dec (j ≡ N) → conv F (corrected F C d B m b) s j ≡ zer
        at j l k (no p) =
            Series.conv_axpy F j C (shift F m B) s _
            ∙ ap₂ (λ x y. x ⊕ neg (d ⊗ inv b) ⊗ y) (I.gen.ann j (omega arith) (omega arith)) (moved j (omega (arith, I.sizes)) ∙ I.old (omega (arith, I.sizes)) (j - m) (omega arith) (omega arith))
            ∙ none _
        at j l k (yes p) =
            Series.conv_axpy F j C (shift F m B) s _
            ∙ ap₂ (λ x y. x ⊕ neg (d ⊗ inv b) ⊗ y) (ap (conv F C s) p) (moved j (omega (arith, I.sizes)) ∙ I.fails (omega (arith, I.sizes)) (j - m) (omega arith))
            ∙ ap (λ z. d ⊕ z) (Laws.neg_mul F _ b ∙ ap neg (Laws.quot F d b I.unit)) ∙ add_neg d

    -- the discrepancy is not zero, and the length stays
    pub step_short : conv F C s N ≢ zer → N < L + L → Loop F s (corrected F C (conv F C s N) B m b) L (suc N) B H (suc m) b
    step_short ne l = record {
      gen = fixed L (omega arith) (omega arith);
      least = λ E M g. I.least E M (gen_less s E M N g);
      size = omega arith;
      sizes = omega arith;
      ahead = omega arith;
      deg_B = I.deg_B;
      unit = I.unit;
      old = λ p j l h. I.old p j l (omega arith);
      fails = λ p j h. I.fails p j (omega arith);
    }

    -- the discrepancy is not zero, and the length grows
    pub step_long : conv F C s N ≢ zer → L + L ≤ N → Loop F s (corrected F C (conv F C s N) B m b) (suc N - L) (suc N) C L 1 (conv F C s N)
    step_long ne l = record {
      gen = fixed (suc N - L) (omega arith) (omega arith);
      least = λ E M g. omega (arith, massey s C E L M N I.gen ne g);
      size = omega arith;
      sizes = omega arith;
      ahead = omega arith;
      deg_B = I.gen.deg;
      unit = ne;
      old = λ p j l h. I.gen.ann j l (omega arith);
      fails = λ p j h. ap (conv F C s) (omega arith);
    }

  -- before the first element
  abbrev pub one_poly : ℕ → K
  one_poly zero = one
  one_poly (suc i) = zer

  pub start : (s : ℕ → K) → Loop F s one_poly 0 0 one_poly 0 1 one
  start s = record {
    gen = record { lead = refl; deg = beyond; ann = λ j l h. absurd (omega arith) };
    least = λ E M g. omega arith;
    size = omega arith;
    sizes = omega arith;
    ahead = omega arith;
    deg_B = beyond;
    unit = one_ne;
    old = λ p. absurd (omega arith);
    fails = λ p. absurd (omega arith);
  }
    where
      beyond : (i : ℕ) → 0 < i → one_poly i ≡ zer
      beyond zero l = absurd (omega arith)
      beyond (suc i) l = refl
