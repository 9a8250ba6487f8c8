-- Words with a multiple of words added: one place more, all places, and what stands at a place then.
use Rattle.std.proofs.Common.{◌≡◌, ℕ, zero, suc, ◌<◌, ◌≤◌, min, List, [], ◌∷◌, length, get_or, take, set, refl, ap, arith}
use Rattle.field.specs.Meaning.{FieldMeaning}
use Rattle.linear.specs.Words.{added}

module _ (m : FieldMeaning) (w : ℕ) where
  pub added_more : (xs ys : List ℕ) (i : ℕ) → i < length xs → i < length ys → set (added m w (take i xs) ys) i (m.add (get_or (added m w (take i xs) ys) i 0) (m.mul w (get_or xs i 0))) ≡ added m w (take (suc i) xs) ys
  added_more [] ys i l l' = absurd (omega arith)
  added_more (x ∷ xs) [] i l l' = absurd (omega arith)
  added_more (x ∷ xs) (y ∷ ys) zero l l' = refl
  added_more (x ∷ xs) (y ∷ ys) (suc i) l l' = ap (λ zs. m.add y (m.mul w x) ∷ zs) (added_more xs ys i (omega arith) (omega arith))

  pub added_all : (xs ys : List ℕ) (n : ℕ) → min (length xs) (length ys) ≤ n → added m w (take n xs) ys ≡ added m w xs ys
  added_all [] ys zero l = refl
  added_all [] ys (suc n) l = refl
  added_all (x ∷ xs) [] zero l = refl
  added_all (x ∷ xs) [] (suc n) l = refl
  added_all (x ∷ xs) (y ∷ ys) zero l = absurd (omega arith)
  added_all (x ∷ xs) (y ∷ ys) (suc n) l = ap (λ zs. m.add y (m.mul w x) ∷ zs) (added_all xs ys n (omega arith))

  pub length_added : (xs ys : List ℕ) → length (added m w xs ys) ≡ length ys
  length_added [] ys = refl
  length_added (x ∷ xs) [] = refl
  length_added (x ∷ xs) (y ∷ ys) = ap suc (length_added xs ys)

  pub added_at : (xs ys : List ℕ) (k : ℕ) → k < length xs → k < length ys → get_or (added m w xs ys) k 0 ≡ m.add (get_or ys k 0) (m.mul w (get_or xs k 0))
  added_at [] ys k l l' = absurd (omega arith)
  added_at (x ∷ xs) [] k l l' = absurd (omega arith)
  added_at (x ∷ xs) (y ∷ ys) zero l l' = refl
  added_at (x ∷ xs) (y ∷ ys) (suc k) l l' = added_at xs ys k (omega arith) (omega arith)
