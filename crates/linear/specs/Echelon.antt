-- Rows in echelon form, and the reduction of a vector by them.
--   reduced add mul neg u p x n   the vector x after the first n rows: of each row u i in turn is subtracted the multiple that leaves zero at its pivot place p i
--   Depends F d v j               v j is a combination of v 0 .. v (j - 1), in d places
--   Echelon F d n v u p           the first n rows, each of d places and then n coordinates: one at their own pivot, zero at earlier ones, each the combination of v 0 .. v (n - 1) that its coordinates say, and together they reduce each of these to zero
--   Taken F d N n v u p           what the elimination of v 0 .. v (n - 1) leaves, with room for N coordinates: none of them depends on those before it, they are independent, the rows stand in echelon, and later coordinates are zero
-- Used by: the contracts of the elimination. Theorems: in the proofs' Echelon.
use Rattle.std.specs.Prelude.{◌≡◌, ℕ, zero, suc, ◌+◌, ◌<◌, ◌≤◌}
use Rattle.algebra.specs.Field.{Field}
use Rattle.algebra.specs.Vector.{sum, Combines, Independent}

module _ {A : Type 0} (add mul : A → A → A) (neg : A → A) where
  abbrev pub reduced : (ℕ → ℕ → A) → (ℕ → ℕ) → (ℕ → A) → ℕ → ℕ → A
  reduced u p x zero k = x k
  reduced u p x (suc i) k = add (reduced u p x i k) (mul (neg (reduced u p x i (p i))) (u i k))

module _ {K : Type 0} (F : Field K) where
  open F use {zer, one, ◌⊕◌, ◌⊗◌, neg}

  infixl 65 ◌⊕◌
  infixl 70 ◌⊗◌
  abbrev pub Depends : ℕ → (ℕ → ℕ → K) → ℕ → Type 0
  Depends d v j = (c : ℕ → K) × Combines F d j c v (v j)

  pub record Echelon (d n : ℕ) (v u : ℕ → ℕ → K) (p : ℕ → ℕ) : Type 0 where
    pub pivot_in : (i : ℕ) → i < n → p i < d
    pub pivot_one : (i : ℕ) → i < n → u i (p i) ≡ one
    pub pivot_clear : (i l : ℕ) → i < l → l < n → u l (p i) ≡ zer
    pub coordinates : (i k : ℕ) → i < n → k < d → u i k ≡ sum F n (λ l. u i (d + l) ⊗ v l k)
    pub reduces : (l k : ℕ) → l < n → k < d → reduced ◌⊕◌ ◌⊗◌ neg u p (v l) n k ≡ zer

  pub record Taken (d N n : ℕ) (v u : ℕ → ℕ → K) (p : ℕ → ℕ) : Type 0 where
    pub fresh : (j : ℕ) → j < n → Depends d v j → ⊥
    pub independent : Independent F d n v
    pub echelon : Echelon d n v u p
    pub blank : (i l : ℕ) → i < n → n ≤ l → l < N → u i (d + l) ≡ zer
