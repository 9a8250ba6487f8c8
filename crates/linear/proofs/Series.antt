-- Products of power series: their laws, a product by a power of x, and a coefficient as the sum that a program adds up.
use Rattle.std.proofs.Common.{◌≡◌, ℕ, zero, suc, ◌+◌, ◌-◌, ◌<◌, ◌≤◌, sym, refl, ap, ◌∙◌, ap₂, add-zero as plus-zero, add-suc, arith}
use native.Mathlib.Nat.{suc-sub-suc, sub-zero}
use Rattle.algebra.specs.Field.{Field}
use Rattle.algebra.specs.Vector.{sum}
use Rattle.linear.specs.Recurrence.{conv}
use Rattle.linear.specs.Massey.{shift}
use Rattle.algebra.proofs.Laws
use Rattle.algebra.proofs.Sums

module _ {K : Type 0} (F : Field K) where
  open F use {zer, one, ◌⊕◌, ◌⊗◌, neg, inv, add_assoc, add_comm, add_zero, add_neg, mul_assoc, mul_comm, mul_one, distrib, mul_inv, one_ne, same}

  infixl 65 ◌⊕◌
  infixl 70 ◌⊗◌
  pub conv_axpy : (n : ℕ) (f g s : ℕ → K) (a : K) → conv F (λ i. f i ⊕ a ⊗ g i) s n ≡ conv F f s n ⊕ a ⊗ conv F g s n
  conv_axpy zero f g s a = Laws.distrib_right F (f 0) (a ⊗ g 0) (s 0) ∙ ap (λ z. f 0 ⊗ s 0 ⊕ z) (mul_assoc a (g 0) (s 0))
  conv_axpy (suc n) f g s a =
      ap (λ z. (f 0 ⊕ a ⊗ g 0) ⊗ s (suc n) ⊕ z) (conv_axpy n (λ i. f (suc i)) (λ i. g (suc i)) s a)
      ∙ shuffle (f 0) (g 0) (s (suc n)) (conv F (λ i. f (suc i)) s n) (conv F (λ i. g (suc i)) s n)
    where
      shuffle : (x y z u w : K) → (x ⊕ a ⊗ y) ⊗ z ⊕ (u ⊕ a ⊗ w) ≡ x ⊗ z ⊕ u ⊕ a ⊗ (y ⊗ z ⊕ w)
      shuffle x y z u w = simp (Laws.distrib_right F, distrib, mul_assoc, add_assoc, Laws.add_left_comm F, add_comm)

  -- a coefficient needs no later ones
  pub conv_local : (n : ℕ) (f g h : ℕ → K) → ((j : ℕ) → j ≤ n → g j ≡ h j) → conv F f g n ≡ conv F f h n
  conv_local zero f g h e = ap (λ z. f 0 ⊗ z) (e 0 (omega arith))
  conv_local (suc n) f g h e = ap₂ (λ x y. f 0 ⊗ x ⊕ y) (e (suc n) (omega arith)) (conv_local n (λ i. f (suc i)) g h (λ j l. e j (omega arith)))

  pub conv_all : (n : ℕ) (f u : ℕ → K) → ((i j : ℕ) → i + j ≡ n → f i ⊗ u j ≡ zer) → conv F f u n ≡ zer
  conv_all zero f u h = h 0 0 (omega arith)
  conv_all (suc n) f u h = ap₂ (λ x y. x ⊕ y) (h 0 (suc n) (omega arith)) (conv_all n (λ i. f (suc i)) u (λ i j e. h (suc i) j (omega arith))) ∙ add_zero zer

  pub conv_first : (n : ℕ) (f u : ℕ → K) → ((i j : ℕ) → suc i + j ≡ n → f (suc i) ⊗ u j ≡ zer) → conv F f u n ≡ f 0 ⊗ u n
  conv_first zero f u h = refl
  conv_first (suc n) f u h = ap (λ z. f 0 ⊗ u (suc n) ⊕ z) (conv_all n (λ i. f (suc i)) u (λ i j e. h i j (omega arith))) ∙ add_zero _

  pub conv_left_comm : (n : ℕ) (f g h : ℕ → K) → conv F f (conv F g h) n ≡ conv F g (conv F f h) n
  conv_left_comm zero f g h = Laws.mul_left_comm F (f 0) (g 0) (h 0)
  conv_left_comm (suc zero) f g h = shuffle (f 0) (g 0) (f 1) (g 1) (h 0) (h 1)
    where
      shuffle : (a b c d x y : K) → a ⊗ (b ⊗ y ⊕ d ⊗ x) ⊕ c ⊗ (b ⊗ x) ≡ b ⊗ (a ⊗ y ⊕ c ⊗ x) ⊕ d ⊗ (a ⊗ x)
      shuffle a b c d x y = simp (distrib, Laws.mul_left_comm F, add_assoc, add_comm)
  conv_left_comm (suc (suc n)) f g h =
      let f' : ℕ → K = λ i. f (suc i) in
      let g' : ℕ → K = λ i. g (suc i) in
      ap (λ z. f 0 ⊗ conv F g h (suc (suc n)) ⊕ z) (conv_left_comm (suc n) f' g h)
      ∙ ap (λ z. f 0 ⊗ conv F g h (suc (suc n)) ⊕ (g 0 ⊗ conv F f' h (suc n) ⊕ z)) (conv_left_comm n g' f' h)
      ∙ shuffle (f 0) (g 0) (h (suc (suc n))) (conv F g' h (suc n)) (conv F f' h (suc n)) (conv F f' (conv F g' h) n)
      ∙ ap (λ z. g 0 ⊗ conv F f h (suc (suc n)) ⊕ z) (sym (conv_left_comm (suc n) g' f h))
    where
      shuffle : (a b c x y z : K) → a ⊗ (b ⊗ c ⊕ x) ⊕ (b ⊗ y ⊕ z) ≡ b ⊗ (a ⊗ c ⊕ y) ⊕ (a ⊗ x ⊕ z)
      shuffle a b c x y z = simp (distrib, Laws.mul_left_comm F, add_assoc, Laws.add_left_comm F, add_comm)

  pub conv_shift : (m k : ℕ) (f s : ℕ → K) → conv F (shift F m f) s (k + m) ≡ conv F f s k
  conv_shift zero k f s = ap (conv F f s) (plus-zero k)
  conv_shift (suc m) k f s = rw add-suc (ap (λ z. z ⊕ conv F (shift F m f) s (k + m)) (Laws.zero_mul F _) ∙ Laws.zero_add F _ ∙ conv_shift m k f s)

  pub shift_deg : (m H : ℕ) (f : ℕ → K) → ((i : ℕ) → H < i → f i ≡ zer) → (i : ℕ) → m + H < i → shift F m f i ≡ zer
  shift_deg zero H f h i l = h i (omega arith)
  shift_deg (suc m) H f h zero l = refl
  shift_deg (suc m) H f h (suc i) l = shift_deg m H f h i (omega arith)

  pub shift_zero : (m : ℕ) (f : ℕ → K) → 0 < m → shift F m f 0 ≡ zer
  shift_zero zero f l = absurd (omega arith)
  shift_zero (suc m) f l = refl

  pub shift_low : (m : ℕ) (f : ℕ → K) (i : ℕ) → i < m → shift F m f i ≡ zer
  shift_low zero f i l = absurd (omega arith)
  shift_low (suc m) f zero l = refl
  shift_low (suc m) f (suc i) l = shift_low m f i (omega arith)

  pub shift_at : (m : ℕ) (f : ℕ → K) (k : ℕ) → shift F m f (k + m) ≡ f k
  shift_at zero f k = ap f (plus-zero k)
  shift_at (suc m) f k = rw add-suc (shift_at m f k)

  pub conv_sum : (n : ℕ) (f s : ℕ → K) → conv F f s n ≡ sum F (suc n) (λ i. f i ⊗ s (n - i))
  conv_sum zero f s = sym (Laws.zero_add F _)
  conv_sum (suc n) f s =
      ap₂ (λ x y. f 0 ⊗ s x ⊕ y) (sym (sub-zero (suc n))) (conv_sum n (λ i. f (suc i)) s ∙ Sums.sum_ext F (suc n) _ _ (λ i l. ap (λ z. f (suc i) ⊗ s z) (sym (suc-sub-suc n i))))
      ∙ sym (Sums.sum_head F (suc n) (λ i. f i ⊗ s (suc n - i)))

  -- the discrepancy, as a program adds it up: the first k terms, where f is zero from k on
  pub conv_cut : (k n : ℕ) (f s : ℕ → K) → k ≤ suc n → ((i : ℕ) → k ≤ i → f i ≡ zer) → conv F f s n ≡ sum F k (λ i. f i ⊗ s (n - i))
  conv_cut k n f s l h = conv_sum n f s ∙ Sums.sum_cut F k (suc n) _ l (λ i m m'. ap (λ z. z ⊗ s (n - i)) (h i m) ∙ Laws.zero_mul F _)

  -- the same sum from its other end
  pub conv_back : (m j : ℕ) (f s : ℕ → K) → ((i : ℕ) → m < i → f i ≡ zer) → conv F f s (j + m) ≡ sum F (suc m) (λ i. f (m - i) ⊗ s (j + i))
  conv_back zero j f s h = conv_first (j + 0) f s (λ i k e. ap (λ z. z ⊗ s k) (h (suc i) (omega arith)) ∙ Laws.zero_mul F _) ∙ sym (Laws.zero_add F _)
  conv_back (suc m) j f s h =
      ap (conv F f s) (add-suc j m)
      ∙ ap (λ z. f 0 ⊗ s (suc (j + m)) ⊕ z) (conv_back m j (λ i. f (suc i)) s (λ i l. h (suc i) (omega arith)) ∙ Sums.sum_ext F (suc m) _ _ (λ i l. ap (λ z. f z ⊗ s (j + i)) {x = suc (m - i)} {y = suc m - i} (omega arith)))
      ∙ add_comm _ _
      ∙ ap₂ (λ x y. sum F (suc m) (λ i. f (suc m - i) ⊗ s (j + i)) ⊕ f x ⊗ s y) {x = 0} {y = suc m - suc m} (omega arith) (sym (add-suc j m))
