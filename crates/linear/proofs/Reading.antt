-- What words and lists of words stand for: an element is its word, and a word that is none counts as zero in a product.
use Rattle.std.proofs.Common.{◌≡◌, ℕ, zero, suc, ◌+◌, ◌<◌, ◌≤◌, Bool, true, false, ◌&&◌, T, List, [], ◌∷◌, length, get_or, sym, refl, ap, ◌∙◌, subst, ap₂, add-one, arith}
use Rattle.field.specs.Meaning.{FieldMeaning, FieldLaws, FieldTotal}
use Rattle.algebra.specs.Vector.{sum, dot}
use Rattle.algebra.specs.Elements.{Elem, field_of, el, el_by, read}
use Rattle.linear.specs.Words.{sum_words}
use Rattle.algebra.proofs.Laws
use Rattle.algebra.proofs.Elements

pub sum_same : (m : FieldMeaning) (n : ℕ) (f g : ℕ → ℕ) → ((i : ℕ) → i < n → f i ≡ g i) → sum_words m n f ≡ sum_words m n g
sum_same m zero f g h = refl
sum_same m (suc n) f g h = ap₂ m.add (sum_same m n f g (λ i l. h i (omega arith))) (h n (omega arith))

-- one term more, as a loop adds it
pub sum_more : (m : FieldMeaning) (i : ℕ) (f : ℕ → ℕ) {s t x : ℕ} → s ≡ sum_words m i f → t ≡ f i → x ≡ m.add s t → x ≡ sum_words m (i + 1) f
sum_more m i f e e' is = is ∙ ap₂ m.add e e' ∙ ap (λ n. sum_words m n f) (sym (add-one i))

module _ (m : FieldMeaning) (laws : FieldLaws m) where
  pub el_none : (w : ℕ) → m.elem w ≡ false → (el m laws w).0 ≡ m.zero
  unfolding el el_by
  el_none w e = go (m.elem w) (λ t. t) e
    where
      go : (b : Bool) (f : T b → T (m.elem w)) → b ≡ false → (el_by m laws w b f).0 ≡ m.zero
      go true f e = absurd (subst T e tt)
      go false f e = refl

  pub el_of : (x : Elem m) (w : ℕ) → w ≡ x.0 → el m laws w ≡ x
  el_of x w e = ap (el m laws) e ∙ Elements.el_elem m laws x

  pub read_at : (xs : List ℕ) (k : ℕ) → k < length xs → read m laws xs k ≡ el m laws (get_or xs k 0)
  read_at [] k l = absurd (omega arith)
  read_at (x ∷ xs) zero l = refl
  read_at (x ∷ xs) (suc k) l = read_at xs k (omega arith)

  pub read_past : (xs : List ℕ) (k : ℕ) → length xs ≤ k → read m laws xs k ≡ (field_of m laws).zer
  read_past [] k l = refl
  read_past (x ∷ xs) zero l = absurd (omega arith)
  read_past (x ∷ xs) (suc k) l = read_past xs k (omega arith)

  pub sum_read : (n : ℕ) (f : ℕ → ℕ) (g : ℕ → Elem m) → ((i : ℕ) → i < n → f i ≡ (g i).0) → sum_words m n f ≡ (sum (field_of m laws) n g).0
  sum_read zero f g h = refl
  sum_read (suc n) f g h = ap₂ m.add (sum_read n f g (λ i l. h i (omega arith))) (h n (omega arith))

  module _ (out : FieldTotal m) where
    -- a product of words is that of what they stand for
    pub mul_el : (a b : ℕ) → m.mul a b ≡ ((field_of m laws).◌⊗◌ (el m laws a) (el m laws b)).0
    mul_el a b = go (m.elem a) (m.elem b) refl refl
      where
        zero_left : (y : Elem m) → m.mul m.zero y.0 ≡ m.zero
        zero_left y = ap (λ (x : Elem m). x.0) (Laws.zero_mul (field_of m laws) y)

        zero_right : (x : Elem m) → m.mul x.0 m.zero ≡ m.zero
        zero_right x = ap (λ (x : Elem m). x.0) (Laws.mul_zero (field_of m laws) x)

        go : (p q : Bool) → m.elem a ≡ p → m.elem b ≡ q → m.mul a b ≡ m.mul (el m laws a).0 (el m laws b).0
        go true true e e' = ap₂ m.mul (sym (Elements.el_word m laws a (subst T (sym e) tt))) (sym (Elements.el_word m laws b (subst T (sym e') tt)))
        go false q e e' = out.mul_out a b (ap (λ x. x && m.elem b) e) ∙ sym (ap (λ x. m.mul x (el m laws b).0) (el_none a e) ∙ zero_left (el m laws b))
        go true false e e' = out.mul_out a b (ap₂ ◌&&◌ e e') ∙ sym (ap (λ x. m.mul (el m laws a).0 x) (el_none b e') ∙ zero_right (el m laws a))

    -- the sum of the products of the words at one place, in both lists
    pub dot_read : (xs ys : List ℕ) (n : ℕ) → n ≤ length xs → n ≤ length ys → sum_words m n (λ i. m.mul (get_or xs i 0) (get_or ys i 0)) ≡ (dot (field_of m laws) n (read m laws xs) (read m laws ys)).0
    dot_read xs ys n l l' = sum_read n _ _ (λ i h. mul_el (get_or xs i 0) (get_or ys i 0) ∙ ap₂ (λ (x y : Elem m). m.mul x.0 y.0) (sym (read_at xs i (omega arith))) (sym (read_at ys i (omega arith))))
