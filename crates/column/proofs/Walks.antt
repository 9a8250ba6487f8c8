-- The loops over a line: one step of each, over the bytes that are left.
-- Used by: take_words, put_columns.
use Rattle.std.proofs.Common.{◌≡◌, ℕ, suc, ◌+◌, ◌-◌, ◌*◌, ◌<◌, ◌≤◌, List, [], ◌∷◌, ◌++◌, length, get_or, take, drop, set, unwrap_or, sym, refl, ap, ◌∙◌, arith, length-append}
use Rattle.std.proofs.lemmas.List.{append_assoc, drop-drop, flat_map_more, take_all, take_more, take_more_set}
use Rattle.column.specs.Column.{Word, column, reading}
use Rattle.column.specs.Line.{columns, values}
use Rattle.column.specs.Place.{put}
use Rattle.column.proofs.Columns.{column_length}
use Rattle.column.proofs.Places.{put_none, put_put}

-- from column to column

pub values_none : (c i : ℕ) (bs : List ℕ) → c ≤ i → values (c - i) bs ≡ []
unfolding values
values_none c i bs h = let e : c - i ≡ 0 = omega arith in ap (λ n. values n bs) e

module _ (bytes : List ℕ) (c i : ℕ) (h : i < c) where
  values_more : values (c - i) (drop (11 * i) bytes) ≡ unwrap_or (reading (take 11 (drop (11 * i) bytes))) 0 ∷ values (c - (i + 1)) (drop (11 * (i + 1)) bytes)
  unfolding values
  values_more =
      let left : c - i ≡ suc (c - (i + 1)) = omega arith in
      let n : 11 * i + 11 ≡ 11 * (i + 1) = omega arith in
      ap (λ n. values n (drop (11 * i) bytes)) left
      ∙ ap (λ bs. unwrap_or (reading (take 11 (drop (11 * i) bytes))) 0 ∷ values (c - (i + 1)) bs) (drop-drop 11 (11 * i) bytes ∙ ap (λ n. drop n bytes) n)

  -- the words that stand, then those to come
  pub words_more : (words : List ℕ) (w : ℕ) → i < length words → w ≡ unwrap_or (reading (take 11 (drop (11 * i) bytes))) 0
      → take (i + 1) (set words i w) ++ values (c - (i + 1)) (drop (11 * (i + 1)) bytes) ≡ take i words ++ values (c - i) (drop (11 * i) bytes)
  words_more words w k e =
      let to-come : List ℕ = values (c - (i + 1)) (drop (11 * (i + 1)) bytes) in
      ap (λ xs. xs ++ to-come) (take_more_set words i w k)
      ∙ append_assoc (take i words) (w ∷ []) to-come
      ∙ ap (λ v. take i words ++ (v ∷ to-come)) e
      ∙ ap (λ xs. take i words ++ xs) (sym values_more)

columns_more : (ws : List ℕ) (i : ℕ) → i < length ws → columns (take (i + 1) ws) ≡ columns (take i ws) ++ column (get_or ws i 0)
unfolding columns
columns_more ws i h = ap columns (take_more ws i 0 h) ∙ sym (flat_map_more column [] (take i ws) (get_or ws i 0))

-- the columns that stand, and how many bytes they are
abbrev pub Written : List ℕ → List ℕ → ℕ → List ℕ → ℕ → Type 0
Written out start at ws i = (out ≡ put start at (columns (take i ws))) × (length (columns (take i ws)) ≡ 11 * i)

pub written_none : (out ws : List ℕ) (at : ℕ) → Written out out at ws 0
unfolding columns
written_none out ws at = (sym (put_none out at), refl)

pub written_all : (out start ws : List ℕ) (at i : ℕ) → length ws ≤ i → Written out start at ws i → out ≡ put start at (columns ws)
written_all out start ws at i h (is, _) = is ∙ ap (λ xs. put start at (columns xs)) (take_all i ws h)

pub written_more : (out new start ws : List ℕ) (at i : ℕ) → at ≤ length start → i < length ws → Word (get_or ws i 0)
    → Written out start at ws i → new ≡ put out (at + 11 * i) (column (get_or ws i 0)) → Written new start at ws (i + 1)
written_more out new start ws at i h k w (is, n) e =
    let w' : ℕ = get_or ws i 0 in (
      e
          ∙ ap (λ xs. put xs (at + 11 * i) (column w')) is
          ∙ ap (λ m. put (put start at (columns (take i ws))) (at + m) (column w')) (sym n)
          ∙ put_put start (columns (take i ws)) (column w') at h
          ∙ ap (put start at) (sym (columns_more ws i k)),
      ap length (columns_more ws i k) ∙ length-append (columns (take i ws)) (column w') ∙ omega (arith, column_length w' w),
    )
