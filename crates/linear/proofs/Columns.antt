-- A column times a word, added to words: what is skipped, added without a product, or added by products is the same sum.
use Rattle.std.proofs.Common.{◌≡◌, ℕ, zero, suc, ◌+◌, ◌*◌, ◌<◌, ◌≤◌, Bool, true, false, cond, ◌&&◌, T, List, [], ◌∷◌, ◌++◌, map, length, get_or, take, drop, set, sym, refl, ap, ◌∙◌, subst, ap₂, add-one, arith, length-drop, length-take, get_or-drop, get_or-set_other, get_or-take, get_or-set_same}
use mathlib.Core.Path.{fun_ext}
use Rattle.std.proofs.lemmas.List.{length-append, length-take-le, take_at}
use native.Mathlib.Decide.{ℕ_discrete}
use Rattle.std.specs.List.{range_with_len}
use Rattle.std.proofs.lemmas.Bool.{eq-eqb, ne_eqb}
use Rattle.std.proofs.lemmas.List.FromFn.{length-map-range_with_len, get_or-map-range_with_len}
use Rattle.field.specs.Meaning.{FieldMeaning, FieldLaws, FieldTotal}
use Rattle.algebra.specs.Vector.{apply}
use Rattle.algebra.specs.Elements.{Elem, Elems, field_of, el, read}
use Rattle.linear.specs.Words.{sum_words, added}
use Rattle.linear.specs.Step.{Fits, entry, row_words, product_words, matrix, Stepped}
use Rattle.linear.specs.declared.step.Place.{Place}
use Rattle.linear.specs.declared.step.Place.TheVariants.{Stair, Border}
use Rattle.algebra.proofs.Laws
use Rattle.algebra.proofs.Elements
use Rattle.linear.proofs.Reading
use Rattle.linear.proofs.Adding

module _ (m : FieldMeaning) (laws : FieldLaws m) (out : FieldTotal m) where
  -- a sum is an element, whatever is added
  pub add_elem : (a b : ℕ) → T (m.elem (m.add a b))
  add_elem a b = go (m.elem a) (m.elem b) refl refl
    where
      none : (m.elem a && m.elem b) ≡ false → T (m.elem (m.add a b))
      none e = subst (λ w. T (m.elem w)) (sym (out.add_out a b e)) laws.zero_in

      go : (p q : Bool) → m.elem a ≡ p → m.elem b ≡ q → T (m.elem (m.add a b))
      go true true e e' = laws.add_in a b (subst T (sym e) tt) (subst T (sym e') tt)
      go false q e e' = none (ap (λ x. x && m.elem b) e)
      go true false e e' = none (ap₂ ◌&&◌ e e')

  pub sum_elem : (n : ℕ) (f : ℕ → ℕ) → T (m.elem (sum_words m n f))
  sum_elem zero f = laws.zero_in
  sum_elem (suc n) f = add_elem (sum_words m n f) (f n)

  -- words stay elements when a multiple is added
  pub elems_added : (q : ℕ) (b c : List ℕ) → Elems m c → Elems m (added m q b c)
  elems_added q [] c els k l = els k l
  elems_added q (x ∷ b) [] els k l = els k l
  elems_added q (x ∷ b) (y ∷ c) els zero l = add_elem y (m.mul q x)
  elems_added q (x ∷ b) (y ∷ c) els (suc k) l = elems_added q b c (λ j h. els (suc j) (omega arith)) k (omega arith)

  mul_none : (a : ℕ) → m.mul a m.zero ≡ m.zero
  mul_none a =
      Reading.mul_el m laws out a m.zero
      ∙ ap (λ x. m.mul (el m laws a).0 x) (Elements.el_word m laws m.zero laws.zero_in)
      ∙ ap (λ (x : Elem m). x.0) (Laws.mul_zero (field_of m laws) (el m laws a))

  mul_swap : (a b : ℕ) → m.mul a b ≡ m.mul b a
  mul_swap a b = Reading.mul_el m laws out a b ∙ ap (λ (x : Elem m). x.0) ((field_of m laws).mul_comm (el m laws a) (el m laws b)) ∙ sym (Reading.mul_el m laws out b a)

  -- a word zero adds nothing
  pub skipped : (x e w : ℕ) → T (m.elem x) → w ≡ m.zero → x ≡ m.add x (m.mul e w)
  skipped x e w t is = sym (ap (m.add x) (ap (m.mul e) is ∙ mul_none e) ∙ laws.add_zero x t)

  -- a unit vector adds the word at its place
  pub unit_added : (ys columns : List ℕ) (stride p w x : ℕ) → p < length ys → x ≡ m.add (get_or ys p 0) w → T (m.elem w) → Elems m ys → (j : ℕ) → j < length ys → get_or (set ys p x) j 0 ≡ m.add (get_or ys j 0) (m.mul (entry m columns stride (Stair p) j) w)
  unit_added ys columns stride p w x l is t els j h = go (ℕ_discrete j p)
    where
      go : Dec (j ≡ p) → get_or (set ys p x) j 0 ≡ m.add (get_or ys j 0) (m.mul (entry m columns stride (Stair p) j) w)
      go (yes e) = rw e (get_or-set_same ys p x 0 l ∙ is ∙ ap (m.add (get_or ys p 0)) (sym (ap (λ b. m.mul (cond b m.one m.zero) w) (eq-eqb p p refl) ∙ mul_swap m.one w ∙ laws.mul_one w t)))
      go (no e) =
          get_or-set_other ys p j x 0 e
          ∙ sym (ap (m.add (get_or ys j 0)) (ap (λ b. m.mul (cond b m.one m.zero) w) (ne_eqb p j (λ q. e (sym q))) ∙ mul_swap m.zero w ∙ mul_none w) ∙ laws.add_zero (get_or ys j 0) (els j h))

  -- a border column adds its words times the word
  pub column_added : (ys columns : List ℕ) (stride c w : ℕ) → c * stride + length ys ≤ length columns → (j : ℕ) → j < length ys → get_or (added m w (take (length ys) (drop (c * stride) columns)) ys) j 0 ≡ m.add (get_or ys j 0) (m.mul (entry m columns stride (Border c) j) w)
  column_added ys columns stride c w fits j h =
      Adding.added_at m w (take (length ys) (drop (c * stride) columns)) ys j (simp (length-take, length-drop) (omega arith)) h
      ∙ ap (m.add (get_or ys j 0)) (ap (m.mul w) (get_or-take (length ys) (drop (c * stride) columns) j 0 h ∙ get_or-drop (c * stride) columns j 0) ∙ mul_swap w _)

  module _ (places : List Place) (columns : List ℕ) (stride : ℕ) where
    -- one column more in each row
    pub row_more : (v xs : List ℕ) (j i y : ℕ) → get_or xs j 0 ≡ row_words m places columns stride v j i → y ≡ m.add (get_or xs j 0) (m.mul (entry m columns stride (get_or places i (Stair 0)) j) (get_or v i 0)) → y ≡ row_words m places columns stride v j (i + 1)
    row_more v xs j i y e is = is ∙ ap (λ x. m.add x (m.mul (entry m columns stride (get_or places i (Stair 0)) j) (get_or v i 0))) e ∙ ap (row_words m places columns stride v j) (sym (add-one i))

    -- words that are sums so far are elements
    pub rows_elems : (v xs : List ℕ) (d i : ℕ) → length xs ≡ d → ((j : ℕ) → j < d → get_or xs j 0 ≡ row_words m places columns stride v j i) → Elems m xs
    rows_elems v xs d i l h j b = subst (λ w. T (m.elem w)) (sym (h j (omega arith))) (sum_elem i _)

    -- of the product only the first d places and words count
    pub product_front : (d : ℕ) (v : List ℕ) → product_words m d (take d places) columns stride (take d v) ≡ product_words m d places columns stride v
    product_front d v =
        ap (λ (f : ℕ → ℕ). map f (range_with_len 0 d))
        (fun_ext (λ j. Reading.sum_same m d _ _ (λ i l. ap₂ (λ (p : Place) (w : ℕ). m.mul (entry m columns stride p j) w) (get_or-take d places i (Stair 0) l) (get_or-take d v i 0 l))))

    pub product_of_front : (d : ℕ) (v : List ℕ) → d ≤ length places → product_words m (length (take d places)) (take d places) columns stride (take d v) ≡ product_words m d places columns stride v
    product_of_front d v l = ap (λ n. product_words m n (take d places) columns stride (take d v)) (length-take-le d places l) ∙ product_front d v

    pub product_elems : (d : ℕ) (v xs : List ℕ) → xs ≡ product_words m d places columns stride v → Elems m xs
    product_elems d v xs e = rows_elems v xs d d (ap length e ∙ length-map-range_with_len _ 0 d) (λ j l. ap (λ (zs : List ℕ). get_or zs j 0) e ∙ get_or-map-range_with_len _ 0 d j j 0 l (omega arith))

    -- in elements the product is the matrix applied
    pub product_applies : (d : ℕ) (v xs : List ℕ) → d ≤ length v → d ≤ length xs → take d xs ≡ product_words m d places columns stride v → (j : ℕ) → j < d → read m laws xs j ≡ apply (field_of m laws) d (matrix m laws places columns stride) (read m laws v) j
    product_applies d v xs lv lx e j l =
        Reading.read_at m laws xs j (omega arith)
        ∙ Reading.el_of m laws _ (get_or xs j 0)
        (sym (get_or-take d xs j 0 l) ∙ ap (λ (zs : List ℕ). get_or zs j 0) e ∙ get_or-map-range_with_len _ 0 d j j 0 l (omega arith)
        ∙ Reading.sum_read m laws d _ _ (λ i h. Reading.mul_el m laws out _ (get_or v i 0) ∙ ap (λ (x : Elem m). m.mul (matrix m laws places columns stride j i).0 x.0) (sym (Reading.read_at m laws v i (omega arith)))))

-- the product of the first d places and words, written over the first d words
pub stepped : (m : FieldMeaning) → FieldLaws m → FieldTotal m → (d : ℕ) (places : List Place) (columns : List ℕ) (stride : ℕ) (v xs ys : List ℕ) → Fits d places (length columns) stride (length v) (length xs) → length ys ≡ d
    → (Elems m (take d v) → ys ≡ product_words m (length (take d places)) (take d places) columns stride (take d v))
    → Elems m (take d v) → Stepped m d places columns stride v (ys ++ drop d xs)
stepped m laws out d places columns stride v xs ys fit long is els =
    let whole = ys ++ drop d xs in
    let product : take d whole ≡ product_words m d places columns stride v = take_at ys (drop d xs) d long ∙ is els ∙ product_of_front m laws out places columns stride d v fit.enough_places in
    record {
      product = product;
      elements = product_elems m laws out places columns stride d v (take d whole) product;
      applied = λ laws'. product_applies m laws' out places columns stride d v whole fit.enough_words (simp length-append (omega arith)) product;
    }
