-- Bytes put at a place of a buffer: a part written anew, one part after another, and the two answers of a write.
-- Used by: put_column, write_column, write_line.
use Rattle.std.proofs.Common.{◌≡◌, ℕ, suc, ◌+◌, ◌<◌, ◌≤◌, true, false, cond, List, [], ◌∷◌, ◌++◌, length, take, drop, set, Some, None, sym, ap, ◌∙◌, add-zero, arith, length-append, take-append-drop}
use borrow.Rule.Slice.PartMut.{put_mid}
use Rattle.std.specs.Bool.{then_some}
use Rattle.std.proofs.lemmas.List.{append_assoc, drop-append-le, drop-drop, drop_at, set_split, take_at, length-take-le}
use Rattle.std.proofs.lemmas.Bool.{le-leb, lt-leb}
use Rattle.column.specs.Place.{room, put, placed, after}

-- a part that was lent and written
pub put_from_part : (out ys zs : List ℕ) (at k : ℕ) → zs ≡ ys → k ≡ length ys → put_mid at k out zs ≡ put out at ys
unfolding put
put_from_part out ys zs at k e n =
    ap (λ xs. take at out ++ (xs ++ drop k (drop at out))) e
    ∙ ap (λ xs. take at out ++ (ys ++ xs)) (drop-drop k at out ∙ ap (λ m. drop (at + m) out) n)

pub put_none : (out : List ℕ) (at : ℕ) → put out at [] ≡ out
unfolding put
put_none out at = ap (λ m. take at out ++ drop m out) (add-zero at) ∙ take-append-drop at out

pub put_byte : (out : List ℕ) (at b : ℕ) → at < length out → set out at b ≡ put out at (b ∷ [])
unfolding put
put_byte out at b h = let n : suc at ≡ at + 1 = omega arith in set_split out at b h ∙ ap (λ m. take at out ++ (b ∷ drop m out)) n

module _ (out xs ys : List ℕ) (at : ℕ) (h : at ≤ length out) where
  front_length : length (take at out ++ xs) ≡ at + length xs
  front_length = length-append (take at out) xs ∙ ap (λ n. n + length xs) (length-take-le at out h)

  -- one after the other is both at once
  pub put_put : put (put out at xs) (at + length xs) ys ≡ put out at (xs ++ ys)
  unfolding put
  put_put =
      let end : ℕ = at + length xs in
      let whole : take at out ++ (xs ++ drop end out) ≡ (take at out ++ xs) ++ drop end out = sym (append_assoc (take at out) xs (drop end out)) in
      let front : take end (put out at xs) ≡ take at out ++ xs = ap (take end) whole ∙ take_at (take at out ++ xs) (drop end out) end front_length in
      let rest : drop end (put out at xs) ≡ drop end out = ap (drop end) whole ∙ drop_at (take at out ++ xs) (drop end out) end front_length in
      let after_both : drop (end + length ys) (put out at xs) ≡ drop (at + length (xs ++ ys)) out =
      sym (drop-drop (length ys) end (put out at xs)) ∙ ap (drop (length ys)) rest ∙ drop-drop (length ys) end out
      ∙ ap (λ n. drop n out) (omega (arith, length-append xs ys)) in
      ap (λ zs. zs ++ (ys ++ drop (end + length ys) (put out at xs))) front
      ∙ append_assoc (take at out) xs (ys ++ drop (end + length ys) (put out at xs))
      ∙ ap (λ zs. take at out ++ (xs ++ (ys ++ zs))) after_both
      ∙ ap (λ zs. take at out ++ zs) (sym (append_assoc xs ys (drop (at + length (xs ++ ys)) out)))

-- what was put stands there
pub drop_put : (out ys : List ℕ) (at : ℕ) → at ≤ length out → drop at (put out at ys) ≡ ys ++ drop (at + length ys) out
unfolding put
drop_put out ys at h = drop_at (take at out) (ys ++ drop (at + length ys) out) at (length-take-le at out h)

module _ (out ys : List ℕ) (at n : ℕ) (l : length ys ≡ n) where
  pub with_room : at + n ≤ length out → (Some (at + n) ≡ after out at ys) × (put out at ys ≡ placed out at ys)
  with_room h =
      let t : room out at ys ≡ true = le-leb (at + length ys) (length out) (omega arith) in
      (ap (λ m. Some (at + m)) (sym l) ∙ ap (λ b. then_some b (at + length ys)) (sym t), ap (λ b. cond b (put out at ys) out) (sym t))

  pub without_room : length out < at + n → (None ≡ after out at ys) × (out ≡ placed out at ys)
  without_room h =
      let t : room out at ys ≡ false = lt-leb (at + length ys) (length out) (omega arith) in
      (ap (λ b. then_some b (at + length ys)) (sym t), ap (λ b. cond b (put out at ys) out) (sym t))

-- what is written at the front of a front stands at the front of the whole
pub at_front : (out front new ys : List ℕ) (k : ℕ) → front ≡ take k out → k ≤ length out → new ≡ put front 0 ys → length ys ≤ k → new ++ drop k out ≡ put out 0 ys
unfolding put
at_front out front new ys k e room is short =
    let long : length (take k out) ≡ k = length-take-le k out room in
    ap (λ xs. xs ++ drop k out) (is ∙ ap (λ xs. ys ++ drop (0 + length ys) xs) e)
    ∙ append_assoc ys (drop (0 + length ys) (take k out)) (drop k out)
    ∙ ap (λ xs. ys ++ xs) (sym (drop-append-le (0 + length ys) (take k out) (drop k out) (omega arith)) ∙ ap (drop (0 + length ys)) (take-append-drop k out))
