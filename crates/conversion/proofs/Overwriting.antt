-- A list of which one part is written over: its length, and each of its words.
use Rattle.std.proofs.Common.{◌≡◌, ℕ, zero, suc, ◌+◌, ◌-◌, ◌*◌, ◌<◌, ◌≤◌, List, length, get_or, take, drop, sym, ap, ◌∙◌, subst, suc-mul, add-mul, one-mul, zero-mul, arith, length-append, length-drop, length-take, rules}
use native.Mathlib.Decide.{dec_lt}
use borrow.Rule.Slice.PartMut.{put_mid}
use Rattle.std.proofs.lemmas.Nat.{mul-le}
use Rattle.std.proofs.lemmas.List.{places}

module _ (a k : ℕ) (xs ys : List ℕ) (fits : a + k ≤ length xs) (same : length ys ≡ k) where
  pub mid_length : length (put_mid a k xs ys) ≡ length xs
  mid_length = simp (length-append, length-take, length-drop) (omega arith)

  pub mid_below : (i : ℕ) → i < a → get_or (put_mid a k xs ys) i 0 ≡ get_or xs i 0
  mid_below i h = search (rules, places)

  pub mid_in : (j : ℕ) → j < k → get_or (put_mid a k xs ys) (a + j) 0 ≡ get_or ys j 0
  mid_in j h = search (rules, places)

  pub mid_above : (i : ℕ) → a + k ≤ i → get_or (put_mid a k xs ys) i 0 ≡ get_or xs i 0
  mid_above i h = search (rules, places)

  -- what holds of each word of the list and of each word written holds after
  pub mid_each : (P : ℕ → Type 0) → ((i : ℕ) → i < length xs → P (get_or xs i 0)) → ((j : ℕ) → j < k → P (get_or ys j 0)) → (i : ℕ) → i < length xs → P (get_or (put_mid a k xs ys) i 0)
  mid_each P old new i l = go (dec_lt i a) (dec_lt i (a + k))
    where
      go : Dec (i < a) → Dec (i < a + k) → P (get_or (put_mid a k xs ys) i 0)
      go (yes h) e = subst P (sym (mid_below i h)) (old i l)
      go (no h) (yes e) =
          let at : a + (i - a) ≡ i = omega arith in
          subst P (sym (ap (λ (x : ℕ). get_or (put_mid a k xs ys) x 0) (sym at) ∙ mid_in (i - a) (omega arith))) (new (i - a) (omega arith))
      go (no h) (no e) = subst P (sym (mid_above i (omega arith))) (old i l)

pub part_length : (a k : ℕ) (xs : List ℕ) → a + k ≤ length xs → length (take k (drop a xs)) ≡ k
part_length a k xs h = simp (length-take, length-drop) (omega arith)

-- words that go on after the first d: the second half is written over
pub joined_halves : (P : ℕ → ℕ → Type 0) (d w : ℕ) (xs ys : List ℕ) → d + w ≤ length xs → length ys ≡ w → w ≡ d → ((j : ℕ) → j < d → P j (get_or xs j 0)) → ((j : ℕ) → j < d → P (d + j) (get_or ys j 0)) → (j : ℕ) → j < d + d → P j (get_or (put_mid d w xs ys) j 0)
joined_halves P d w xs ys fits same e first second j h = go (dec_lt j d)
  where
    go : Dec (j < d) → P j (get_or (put_mid d w xs ys) j 0)
    go (yes l) = subst (P j) (sym (mid_below d w xs ys fits same j l)) (first j l)
    go (no l) =
        let at : d + (j - d) ≡ j = omega arith in
        subst (λ (i : ℕ). P i (get_or (put_mid d w xs ys) i 0)) at (subst (P (d + (j - d))) (sym (mid_in d w xs ys fits same (j - d) (omega arith))) (second (j - d) (omega arith)))
