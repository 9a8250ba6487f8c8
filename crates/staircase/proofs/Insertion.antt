-- A loop that looks for the place of an element in an increasing list, and the shift that makes room for it.
use Rattle.std.proofs.Common.{◌≡◌, ℕ, ◌+◌, ◌-◌, ◌<◌, ◌≤◌, List, [], ◌∷◌, ◌++◌, length, get_or, take, drop, set, Ordering, Less, Equal, Greater, sym, ap, ◌∙◌, subst, ap₂, append_assoc, arith, take-append-drop}
use lib.Seq.{paste}
use Rattle.std.specs.List.{insert}
use Rattle.std.proofs.lemmas.List.{at_drop_more, at_drop_all, take_more, drop_more, drop_all, length-take-le, length-append, length-drop, set_at, take_at, take-take, drop-take, drop-drop, drop-set-lt}
use Rattle.std.proofs.lemmas.List.Edits.{drop-paste}
use Rattle.staircase.specs.Sorting.{put, inserted_by, sorted_by}

module _ {A : Type 0} (cmp : A → A → Ordering) (m : A) (xs : List A) (i : ℕ) (inv : inserted_by cmp m xs ≡ take i xs ++ inserted_by cmp m (drop i xs)) where
  turn : (d : A) → i < length xs → (r : Ordering) → r ≡ cmp m (get_or xs i d) → inserted_by cmp m xs ≡ take i xs ++ put cmp m (get_or xs i d) (drop (i + 1) xs) (inserted_by cmp m (drop (i + 1) xs)) r
  unfolding inserted_by
  turn d h r e = inv ∙ ap (λ (y : List A). take i xs ++ y) (at_drop_more (inserted_by cmp m) xs i d h ∙ ap (put cmp m (get_or xs i d) (drop (i + 1) xs) (inserted_by cmp m (drop (i + 1) xs))) (sym e))

  pub put_here : (d : A) → i < length xs → Less ≡ cmp m (get_or xs i d) → inserted_by cmp m xs ≡ insert xs i m
  put_here d h e = turn d h Less e ∙ ap (λ (y : List A). take i xs ++ m ∷ y) (sym (drop_more xs i d h))

  pub put_there : (d : A) → i < length xs → Equal ≡ cmp m (get_or xs i d) → inserted_by cmp m xs ≡ xs
  put_there d h e = turn d h Equal e ∙ ap (λ (y : List A). take i xs ++ y) (sym (drop_more xs i d h)) ∙ take-append-drop i xs

  pub put_more : (d : A) → i < length xs → Greater ≡ cmp m (get_or xs i d) → inserted_by cmp m xs ≡ take (i + 1) xs ++ inserted_by cmp m (drop (i + 1) xs)
  put_more d h e = turn d h Greater e ∙ sym (append_assoc (take i xs) (get_or xs i d ∷ []) _) ∙ ap (λ (y : List A). y ++ inserted_by cmp m (drop (i + 1) xs)) (sym (take_more xs i d h))

  pub put_last : i ≡ length xs → inserted_by cmp m xs ≡ insert xs (length xs) m
  unfolding inserted_by
  put_last e = subst (λ (j : ℕ). inserted_by cmp m xs ≡ insert xs j m) e (inv ∙ ap (λ (y : List A). take i xs ++ y) (at_drop_all (inserted_by cmp m) xs i (omega arith) ∙ ap (λ (y : List A). m ∷ y) (sym (drop_all i xs (omega arith)))))

-- what stands from `at` on moved up by one, and m put at `at`: the front is the longer list, and what follows stays
module _ {A : Type 0} (l : List A) (at count : ℕ) (m d : A) (le : at ≤ count) (lt : count < length l) where
  pub shifted : take (count + 1) (set (paste l (at + 1) (drop at l) (count - at)) at m) ≡ insert (take count l) at m
  shifted =
      let T : List A = take at l in
      let x : A = get_or l at d in
      let C : List A = take (count - at) (drop at l) in
      let Z : List A = drop (at + 1 + (count - at)) l in
      let lenT : length T ≡ at = length-take-le at l (omega arith) in
      let lenC : length C ≡ count - at = length-take-le (count - at) (drop at l) (omega (arith, length-drop at l)) in
      let lenTC : length (T ++ m ∷ C) ≡ count + 1 = length-append T (m ∷ C) ∙ omega (arith, lenT, lenC) in
      ap (λ (y : List A). take (count + 1) (set ((y ++ C) ++ Z) at m)) (take_more l at d (omega arith))
      ∙ ap (λ (y : List A). take (count + 1) (set y at m)) (append_assoc (T ++ x ∷ []) C Z ∙ append_assoc T (x ∷ []) (C ++ Z))
      ∙ ap (take (count + 1)) (set_at T x (C ++ Z) m at lenT ∙ sym (append_assoc T (m ∷ C) Z))
      ∙ take_at (T ++ m ∷ C) Z (count + 1) lenTC
      ∙ ap₂ (λ (y z : List A). y ++ m ∷ z) (sym (take-take at count l le)) (sym (ap (λ (k : ℕ). drop at (take k l)) (omega arith) ∙ drop-take at (count - at) l))

  pub shifted_rest : drop (count + 1) (set (paste l (at + 1) (drop at l) (count - at)) at m) ≡ drop (count + 1) l
  shifted_rest =
      let s : at + 1 + (count - at) ≡ count + 1 = omega arith in
      drop-set-lt (count + 1) (paste l (at + 1) (drop at l) (count - at)) at m (omega arith)
      ∙ subst (λ (k : ℕ). drop k (paste l (at + 1) (drop at l) (count - at)) ≡ drop k l) s (drop-paste l (at + 1) (drop at l) (count - at) (omega arith) (omega (arith, length-drop at l)))

-- a sorted list has no member twice, so that it may be shorter
inserted_shorter : {A : Type 0} (cmp : A → A → Ordering) (m : A) (l : List A) → length (inserted_by cmp m l) ≤ length l + 1
unfolding inserted_by
inserted_shorter cmp m [] = omega arith
inserted_shorter {A} cmp m (a ∷ l) = go (cmp m a) (inserted_shorter cmp m l)
  where
    go : (r : Ordering) → length (inserted_by cmp m l) ≤ length l + 1 → length (put cmp m a l (inserted_by cmp m l) r) ≤ length (a ∷ l) + 1
    go Less ih = omega arith
    go Equal ih = omega arith
    go Greater ih = omega (arith, ih)

pub sorted_shorter : {A : Type 0} (cmp : A → A → Ordering) (l : List A) → length (sorted_by cmp l) ≤ length l
unfolding sorted_by
sorted_shorter cmp [] = omega arith
sorted_shorter cmp (a ∷ l) = omega (arith, inserted_shorter cmp a (sorted_by cmp l), sorted_shorter cmp l)

-- lists with one rest from a place on have one from any later place
pub drops_on : {A : Type 0} (i k : ℕ) (xs ys : List A) → i ≤ k → drop i xs ≡ drop i ys → drop k xs ≡ drop k ys
drops_on {A} i k xs ys h e =
    let s : i + (k - i) ≡ k = omega arith in
    subst (λ (j : ℕ). drop j xs ≡ drop j ys) s (sym (drop-drop (k - i) i xs) ∙ ap (drop (k - i)) e ∙ drop-drop (k - i) i ys)
