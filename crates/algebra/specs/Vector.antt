-- Vectors: functions from places to elements, of which the first D places count.
--   sum n f              f 0 + .. + f (n - 1)
--   dot n f g            the sum of f i times g i over the first n places
--   basis i j            the coordinate j of the unit vector i
--   Combines D n c v w   w is the combination of v 0 .. v (n - 1) by the coefficients c, in the first D coordinates
--   Independent D n v    only the coefficients zero combine v 0 .. v (n - 1) to zero
--   LinearMap D T        T is linear, and the first D coordinates of its result need only those of its argument
--   apply D A v          the matrix A of D columns at the vector v; A j i stands in row j and column i
--   krylov T e j         e, T e, T (T e), ..
--   Least P m            m is the least number with P
--   Degree D v d         d is the least place at which v d is a combination of the vectors before it
-- Used by: matrices, shaped bases, sequences and tables.
use Rattle.std.specs.Prelude.{◌≡◌, ℕ, zero, suc, ◌<◌, ◌≤◌, cond, ◌==◌}
use Rattle.algebra.specs.Field.{Field}

abbrev pub Least : (ℕ → Type 0) → ℕ → Type 0
Least P m = P m × ((k : ℕ) → P k → m ≤ k)

module _ {K : Type 0} (F : Field K) where
  open F use {zer, one, ◌⊕◌, ◌⊗◌}

  infixl 65 ◌⊕◌
  infixl 70 ◌⊗◌
  abbrev pub sum : ℕ → (ℕ → K) → K
  sum zero f = zer
  sum (suc n) f = sum n f ⊕ f n

  abbrev pub dot : ℕ → (ℕ → K) → (ℕ → K) → K
  dot n f g = sum n (λ i. f i ⊗ g i)

  abbrev pub basis : ℕ → ℕ → K
  basis i j = cond (i == j) one zer

  abbrev pub Combines : ℕ → ℕ → (ℕ → K) → (ℕ → ℕ → K) → (ℕ → K) → Type 0
  Combines D n c v w = (i : ℕ) → i < D → w i ≡ sum n (λ j. c j ⊗ v j i)

  abbrev pub Independent : ℕ → ℕ → (ℕ → ℕ → K) → Type 0
  Independent D n v = (c : ℕ → K) → ((i : ℕ) → i < D → sum n (λ j. c j ⊗ v j i) ≡ zer) → (j : ℕ) → j < n → c j ≡ zer

  pub record LinearMap (D : ℕ) (T : (ℕ → K) → ℕ → K) : Type 0 where
    pub add : (f g : ℕ → K) (j : ℕ) → T (λ i. f i ⊕ g i) j ≡ T f j ⊕ T g j
    pub scale : (c : K) (f : ℕ → K) (j : ℕ) → T (λ i. c ⊗ f i) j ≡ c ⊗ T f j
    pub local : (f g : ℕ → K) → ((i : ℕ) → i < D → f i ≡ g i) → (j : ℕ) → j < D → T f j ≡ T g j

  abbrev pub apply : ℕ → (ℕ → ℕ → K) → (ℕ → K) → ℕ → K
  apply D A v j = sum D (λ i. A j i ⊗ v i)

  abbrev pub krylov : ((ℕ → K) → ℕ → K) → (ℕ → K) → ℕ → ℕ → K
  krylov T e zero = e
  krylov T e (suc j) = T (krylov T e j)

  abbrev pub Degree : ℕ → (ℕ → ℕ → K) → ℕ → Type 0
  Degree D v d = Least (λ m. (c : ℕ → K) × Combines D m c v (v m)) d
