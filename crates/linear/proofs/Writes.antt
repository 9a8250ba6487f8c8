-- Lists that a loop writes word by word, and parts that are lent.
--   each        what holds of each word written, by its place, holds after the next is written
--   put         the words before a place are those of a function, and so is the one that is written there; put_from the same from a place on
--   padded      words with one word after them, so often
--   part        the words lent by a range, with their number and each of them
use Rattle.std.proofs.Common.{◌≡◌, ℕ, zero, suc, ◌+◌, ◌-◌, ◌<◌, ◌≤◌, ◌≢◌, List, [], ◌∷◌, ◌++◌, length, get_or, take, drop, replicate, set, refl, arith, length-drop, length-take, get_or-drop, get_or-set_other, get_or-take, get_or-set_same, below_more}
use Rattle.std.proofs.lemmas.List.{get_or-replicate}

pub each : (xs : List ℕ) (i w : ℕ) (P : ℕ → ℕ → Type 0) → i < length xs → ((k : ℕ) → k < i → P k (get_or xs k 0)) → P i w → (k : ℕ) → k < i + 1 → P k (get_or (set xs i w) k 0)
each xs i w P l below here =
    below_more _ _
    (λ k h. let ne : k ≢ i = omega arith in rw get_or-set_other (below k h))
    (rw get_or-set_same here)

pub put : (xs : List ℕ) (i w : ℕ) (f : ℕ → ℕ) → i < length xs → ((k : ℕ) → k < i → get_or xs k 0 ≡ f k) → w ≡ f i → (k : ℕ) → k < i + 1 → get_or (set xs i w) k 0 ≡ f k
put xs i w f = each xs i w (λ k x. x ≡ f k)

pub put_from : (xs : List ℕ) (s i w : ℕ) (f : ℕ → ℕ) → s + i < length xs → ((k : ℕ) → k < i → get_or xs (s + k) 0 ≡ f k) → w ≡ f i → (k : ℕ) → k < i + 1 → get_or (set xs (s + i) w) (s + k) 0 ≡ f k
put_from xs s i w f l below here =
    below_more _ _
    (λ k h. let ne : s + k ≢ s + i = omega arith in rw get_or-set_other (below k h))
    (rw get_or-set_same here)

pub padded : (xs : List ℕ) (n z k : ℕ) → k < length xs + n → get_or (xs ++ replicate n z) k 0 ≡ get_or xs k z
padded [] n z k h = get_or-replicate n k z 0 (omega arith)
padded (x ∷ xs) n z zero h = refl
padded (x ∷ xs) n z (suc k) h = padded xs n z k (omega arith)

abbrev pub part : ℕ → ℕ → List ℕ → List ℕ
part start size xs = take (start + size - start) (drop start xs)

pub part_length : (start size : ℕ) (xs : List ℕ) → start + size ≤ length xs → length (part start size xs) ≡ size
part_length start size xs h = simp (length-take, length-drop) (omega arith)

pub part_word : (start size : ℕ) (xs : List ℕ) (k : ℕ) → k < size → get_or (part start size xs) k 0 ≡ get_or xs (start + k) 0
part_word start size xs k h = let l : k < start + size - start = omega arith in rw (get_or-take, get_or-drop)
