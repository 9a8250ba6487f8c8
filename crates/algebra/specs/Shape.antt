-- Bases shaped in one variable x_k: one polynomial in x_k alone, and every other variable written from it.
--   alone F n k D g              the polynomial in x_k alone with the coefficients g below D, constant first
--   monic F n k D g              x_k^D plus that polynomial
--   solved F n k D i h           x_i minus the polynomial h of x_k
--   shaped F n k D rows m        the basis shaped in x_k of the rows: row k is that of the monic polynomial, row i that of h_i; of x_0 .. x_(m-1)
--   HasShape F n L D k          some basis shaped in x_k has the ideal of L
--   AloneMember F n L k d       a member in x_k alone of degree d
--   LeastAlone F n L k d        d is the least degree of a nonzero member in x_k alone
--   powers F D A k               the Krylov vectors of the matrix A k: its powers at the unit vector of the monomial 1
--   vectors F n before L k       those of the multiplication matrix T_k
--   Relations F n D A k rows     row k combines the Krylov vectors to the opposite of the next one, and row i to T_i at the monomial 1
--   ShapeDecided F n before L   a shaped basis has the ideal exactly when the first D Krylov vectors are independent; its rows are those with the
--                                relations; the least degree alone is the Krylov degree, and it is D exactly when such a basis has the ideal
--   ShapesHold                  so it is for polynomials that passed and whose matrices agree, over every lawful field
--   ShapesEqual                 two shaped bases of one ideal in one variable are equal
-- Used by: the last questions of a conversion and what it writes.
use Rattle.std.specs.Prelude.{◌≡◌, ℕ, zero, suc, ◌<◌, ◌≤◌, Bool, cond, ◌≢◌, ◌↔◌, List, [], ◌∷◌, ◌==◌}
use Rattle.field.specs.Meaning.{FieldMeaning, FieldLaws}
use Rattle.algebra.specs.Field.{Field}
use Rattle.algebra.specs.Vector.{sum, basis, apply, krylov, Independent, Least, Degree}
use Rattle.algebra.specs.Elements.{Elem, field_of}
use Rattle.algebra.specs.Monomial.{Mono, var, power}
use Rattle.algebra.specs.Polynomial.{Poly, combination}
use Rattle.algebra.specs.Ideal.{Member, SameIdeal}
use Rattle.algebra.specs.Order.{Ordered}
use Rattle.algebra.specs.Basis.{dim, Passed}
use Rattle.algebra.specs.Matrices.{matrices, Agree}

module _ {K : Type 0} (F : Field K) where
  abbrev pub powers : ℕ → (ℕ → ℕ → ℕ → K) → ℕ → ℕ → ℕ → K
  powers D A k = krylov F (apply F D (A k)) (basis F 0)

  module _ (n : ℕ) where
    abbrev pub alone : ℕ → ℕ → (ℕ → K) → Poly K n
    alone k D g = combination D (power n k) g

    abbrev pub monic : ℕ → ℕ → (ℕ → K) → Poly K n
    monic k D g = (F.one, power n k D) ∷ alone k D g

    abbrev pub solved : ℕ → ℕ → ℕ → (ℕ → K) → Poly K n
    solved k D i h = (F.one, var n i) ∷ alone k D (λ j. F.neg (h j))

    abbrev pub shaped : ℕ → ℕ → (ℕ → ℕ → K) → ℕ → List (Poly K n)
    shaped k D rows zero = []
    shaped k D rows (suc m) = cond (m == k) (monic k D (rows m)) (solved k D m (rows m)) ∷ shaped k D rows m

    abbrev pub HasShape : List (Poly K n) → ℕ → ℕ → Type 0
    HasShape L D k = (rows : ℕ → ℕ → K) × SameIdeal F n L (shaped k D rows n)

    abbrev pub AloneMember : List (Poly K n) → ℕ → ℕ → Type 0
    AloneMember L k d = (c : ℕ → K) × (c d ≢ F.zer) × Member F n L (alone k (suc d) c)

    abbrev pub LeastAlone : List (Poly K n) → ℕ → ℕ → Type 0
    LeastAlone L k d = Least (AloneMember L k) d

    pub record Relations (D : ℕ) (A : ℕ → ℕ → ℕ → K) (k : ℕ) (rows : ℕ → ℕ → K) : Type 0 where
      pub first : (j : ℕ) → j < D → F.◌⊕◌ (sum F D (λ l. F.◌⊗◌ (rows k l) (powers D A k l j))) (powers D A k D j) ≡ F.zer
      pub others : (i : ℕ) → i < n → i ≢ k → (j : ℕ) → j < D → sum F D (λ l. F.◌⊗◌ (rows i l) (powers D A k l j)) ≡ apply F D (A i) (basis F 0) j

    module _ (before : Mono n → Mono n → Bool) (L : List (Poly K n)) where
      abbrev pub vectors : ℕ → ℕ → ℕ → K
      vectors k = powers (dim n before L) (matrices F n before L) k

      pub record ShapeDecided (k : ℕ) : Type 0 where
        pub shape : HasShape L (dim n before L) k ↔ Independent F (dim n before L) (dim n before L) (vectors k)
        pub rows : (rows : ℕ → ℕ → K) → SameIdeal F n L (shaped k (dim n before L) rows n) ↔ (Independent F (dim n before L) (dim n before L) (vectors k) × Relations (dim n before L) (matrices F n before L) k rows)
        pub least : (d : ℕ) → LeastAlone L k d ↔ Degree F (dim n before L) (vectors k) d
        pub some : (d : ℕ) × (d ≤ dim n before L) × LeastAlone L k d
        pub full : (d : ℕ) → LeastAlone L k d → HasShape L (dim n before L) k ↔ (d ≡ dim n before L)

abbrev pub ShapesHold : Type 0
ShapesHold = (m : FieldMeaning) (laws : FieldLaws m) (n : ℕ) (before : Mono n → Mono n → Bool) → Ordered n before → (L : List (Poly (Elem m) n)) → Passed (field_of m laws) n before L
    → Agree (field_of m laws) n before L → (k : ℕ) → k < n → ShapeDecided (field_of m laws) n before L k

abbrev pub ShapesEqual : Type 0
ShapesEqual = (m : FieldMeaning) (laws : FieldLaws m) (n k : ℕ) → k < n → (D D' : ℕ) (a b : ℕ → ℕ → Elem m) → SameIdeal (field_of m laws) n (shaped (field_of m laws) n k D a n) (shaped (field_of m laws) n k D' b n)
    → (D ≡ D') × ((i l : ℕ) → i < n → l < D → a i l ≡ b i l)
