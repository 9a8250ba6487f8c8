-- Lists made and searched by tests: what any, build, joined, least and filter give.
use Rattle.std.proofs.Common.{◌≡◌, ℕ, zero, suc, ◌<◌, ◌≤◌, Bool, true, false, cond, List, [], ◌∷◌, ◌++◌, length, get_or, filter, sym, refl, ap, ◌∙◌, arith}
use mathlib.Core.Bool.{false≢true}
use Rattle.std.specs.List.{AllByRecursion}
use Rattle.std.proofs.ByRecursion.{All-append}
use Rattle.algebra.specs.Lists.{any, build, joined, least}

module _ {A : Type 0} where
  pub any_index : (p : A → Bool) (d : A) (l : List A) → any p l ≡ true → (i : ℕ) × (i < length l) × (p (get_or l i d) ≡ true)
  any_index p d [] e = absurd (false≢true e)
  any_index p d (a ∷ l) e = go (p a) refl e (any_index p d l)
    where
      go : (b : Bool) → p a ≡ b → cond b true (any p l) ≡ true → (any p l ≡ true → (i : ℕ) × (i < length l) × (p (get_or l i d) ≡ true)) → (i : ℕ) × (i < suc (length l)) × (p (get_or (a ∷ l) i d) ≡ true)
      go true h e ih = (0, omega arith, h)
      go false h e ih = let x = ih e in (suc x.0, omega (arith, x.1), x.2)

  pub any_at : (p : A → Bool) (d : A) (l : List A) (i : ℕ) → i < length l → p (get_or l i d) ≡ true → any p l ≡ true
  any_at p d [] i l e = absurd (omega arith)
  any_at p d (a ∷ xs) zero l e = ap (λ b. cond b true (any p xs)) e
  any_at p d (a ∷ xs) (suc i) l e = go (p a) (any_at p d xs i (omega arith) e)
    where
      go : (b : Bool) → any p xs ≡ true → cond b true (any p xs) ≡ true
      go true h = refl
      go false h = h

  pub all_both : (P Q : A → Type 0) (l : List A) → AllByRecursion P l → AllByRecursion Q l → AllByRecursion (λ a. P a × Q a) l
  all_both P Q [] h g = tt
  all_both P Q (a ∷ l) h g = ((h.0, g.0), all_both P Q l h.1 g.1)

  pub all_joined : (P : A → Type 0) (n : ℕ) (f : ℕ → List A) → ((i : ℕ) → i < n → AllByRecursion P (f i)) → AllByRecursion P (joined n f)
  all_joined P zero f h = tt
  all_joined P (suc n) f h = All-append P (f 0) _ (h 0 (omega arith)) (all_joined P n (λ i. f (suc i)) (λ i q. h (suc i) (omega arith)))

  pub all_kept : (P : A → Type 0) (p : A → Bool) (l : List A) → AllByRecursion P l → AllByRecursion (λ a. P a × (p a ≡ true)) (filter p l)
  all_kept P p [] h = tt
  all_kept P p (a ∷ l) h = go (p a) refl (all_kept P p l h.1)
    where
      go : (b : Bool) → p a ≡ b → AllByRecursion (λ a. P a × (p a ≡ true)) (filter p l) → AllByRecursion (λ a. P a × (p a ≡ true)) (cond b (a ∷ filter p l) (filter p l))
      go true e x = ((h.0, e), x)
      go false e x = x

  any_append_l : (p : A → Bool) (l m : List A) → any p l ≡ true → any p (l ++ m) ≡ true
  any_append_l p [] m e = absurd (false≢true e)
  any_append_l p (a ∷ l) m e = go (p a) e (any_append_l p l m)
    where
      go : (b : Bool) → cond b true (any p l) ≡ true → (any p l ≡ true → any p (l ++ m) ≡ true) → cond b true (any p (l ++ m)) ≡ true
      go true e ih = refl
      go false e ih = ih e

  any_append_r : (p : A → Bool) (l m : List A) → any p m ≡ true → any p (l ++ m) ≡ true
  any_append_r p [] m e = e
  any_append_r p (a ∷ l) m e = go (p a) (any_append_r p l m e)
    where
      go : (b : Bool) → any p (l ++ m) ≡ true → cond b true (any p (l ++ m)) ≡ true
      go true h = refl
      go false h = h

  pub any_joined : (p : A → Bool) (n : ℕ) (f : ℕ → List A) (i : ℕ) → i < n → any p (f i) ≡ true → any p (joined n f) ≡ true
  any_joined p zero f i l e = absurd (omega arith)
  any_joined p (suc n) f zero l e = any_append_l p (f 0) _ e
  any_joined p (suc n) f (suc i) l e = any_append_r p (f 0) _ (any_joined p n (λ i. f (suc i)) i (omega arith) e)

  pub get_or_build : (n : ℕ) (f : ℕ → A) (d : A) (i : ℕ) → i < n → get_or (build n f) i d ≡ f i
  get_or_build zero f d i l = absurd (omega arith)
  get_or_build (suc n) f d zero l = refl
  get_or_build (suc n) f d (suc i) l = get_or_build n (λ i. f (suc i)) d i (omega arith)

  pub get_d_past : (n : ℕ) (f : ℕ → A) (d : A) (i : ℕ) → n ≤ i → get_or (build n f) i d ≡ d
  get_d_past zero f d i l = refl
  get_d_past (suc n) f d zero l = absurd (omega arith)
  get_d_past (suc n) f d (suc i) l = get_d_past n (λ i. f (suc i)) d i (omega arith)

-- the least that passes
pub least_found : (n : ℕ) (p : ℕ → Bool) (i : ℕ) → i < n → p i ≡ true → (least n p < n) × (p (least n p) ≡ true)
least_found zero p i l e = absurd (omega arith)
least_found (suc n) p i l e = go (p 0) refl i l e (least_found n (λ j. p (suc j)))
  where
    go : (b : Bool) → p 0 ≡ b → (i : ℕ) → i < suc n → p i ≡ true → ((i : ℕ) → i < n → p (suc i) ≡ true → (least n (λ j. p (suc j)) < n) × (p (suc (least n (λ j. p (suc j)))) ≡ true)) → (cond b 0 (suc (least n (λ j. p (suc j)))) < suc n) × (p (cond b 0 (suc (least n (λ j. p (suc j))))) ≡ true)
    go true h i l e ih = (omega arith, h)
    go false h zero l e ih = absurd (false≢true (sym h ∙ e))
    go false h (suc i) l e ih = let x = ih i (omega arith) e in (omega (arith, x.0), x.1)

pub least_first : (n : ℕ) (p : ℕ → Bool) (i : ℕ) → i < n → p i ≡ true → least n p ≤ i
least_first zero p i l e = absurd (omega arith)
least_first (suc n) p i l e = go (p 0) refl i l e (least_first n (λ j. p (suc j)))
  where
    go : (b : Bool) → p 0 ≡ b → (i : ℕ) → i < suc n → p i ≡ true → ((i : ℕ) → i < n → p (suc i) ≡ true → least n (λ j. p (suc j)) ≤ i) → cond b 0 (suc (least n (λ j. p (suc j)))) ≤ i
    go true h i l e ih = omega arith
    go false h zero l e ih = absurd (false≢true (sym h ∙ e))
    go false h (suc i) l e ih = omega (arith, ih i (omega arith) e)
