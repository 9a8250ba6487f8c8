-- Lists of words that are elements: what they read as, whole and in parts.
use Rattle.std.proofs.Common.{◌≡◌, ℕ, zero, suc, ◌+◌, ◌<◌, ◌≤◌, T, List, [], ◌∷◌, length, get_or, sym, refl, ◌∙◌, subst, arith}
use Rattle.field.specs.Meaning.{FieldMeaning, FieldLaws}
use Rattle.algebra.specs.Elements.{Elem, Elems, elem_path, read}
use Rattle.algebra.proofs.Elements
use Rattle.linear.proofs.Writes.{part, part_length, part_word}

module _ (m : FieldMeaning) (laws : FieldLaws m) where
  pub read_word : (xs : List ℕ) (k : ℕ) → k < length xs → T (m.elem (get_or xs k 0)) → (read m laws xs k).0 ≡ get_or xs k 0
  read_word [] k l t = absurd (omega arith)
  read_word (x ∷ xs) zero l t = Elements.el_word m laws x t
  read_word (x ∷ xs) (suc k) l t = read_word xs k (omega arith) t

  -- the words of a vector, zero past its end
  pub read_all : (xs : List ℕ) (k : ℕ) → Elems m xs → get_or xs k m.zero ≡ (read m laws xs k).0
  read_all [] k t = refl
  read_all (x ∷ xs) zero t = sym (Elements.el_word m laws x (t 0 (omega arith)))
  read_all (x ∷ xs) (suc k) t = read_all xs k (λ j l. t (suc j) (omega arith))

  -- a word is an element if it is the word of one
  pub in_field : (x : Elem m) (w : ℕ) → w ≡ x.0 → T (m.elem w)
  in_field x w e = subst (λ u. T (m.elem u)) (sym e) x.1

  -- a list reads as the element whose word it holds
  pub read_is : (xs : List ℕ) (k : ℕ) (x : Elem m) → k < length xs → get_or xs k 0 ≡ x.0 → read m laws xs k ≡ x
  read_is xs k x l e = elem_path m (read_word xs k l (in_field x _ e) ∙ e)

  -- a part reads as the list from its beginning on
  pub part_elems : (start size : ℕ) (xs : List ℕ) → start + size ≤ length xs → Elems m xs → Elems m (part start size xs)
  part_elems start size xs h t k l =
      let e = part_length start size xs h in
      let b : k < size = omega arith in
      subst (λ w. T (m.elem w)) (sym (part_word start size xs k b)) (t (start + k) (omega arith))

  pub part_read : (start size : ℕ) (xs : List ℕ) → start + size ≤ length xs → Elems m xs → (k : ℕ) → k < size → read m laws (part start size xs) k ≡ read m laws xs (start + k)
  part_read start size xs h t k l =
      let e = part_length start size xs h in
      read_is (part start size xs) k _ (omega arith) (part_word start size xs k l ∙ sym (read_word xs (start + k) (omega arith) (t (start + k) (omega arith))))
