-- One turn of the loop of Berlekamp and Massey on lists of words: the discrepancy, the corrected polynomial, and what holds after.
use Rattle.std.proofs.Common.{◌≡◌, ℕ, zero, suc, ◌+◌, ◌-◌, ◌<◌, ◌≤◌, T, ◌≢◌, List, [], ◌∷◌, ◌++◌, length, get_or, take, drop, Some, None, sym, refl, ap, ◌∙◌, subst, ap₂, arith}
use mathlib.Core.Path.{fun_ext, transport}
use native.Mathlib.Decide.{ℕ_discrete, dec_lt}
use Rattle.field.specs.Meaning.{FieldMeaning, FieldLaws, FieldTotal}
use Rattle.algebra.specs.Field.{Field}
use Rattle.algebra.specs.Vector.{Least}
use Rattle.algebra.specs.Elements.{Elem, Elems, elem_path, field_of, inverse_by, el, read}
use Rattle.linear.specs.Words.{sum_words, added}
use Rattle.linear.specs.Recurrence.{conv, Gen, Recurs, ShortestBy}
use Rattle.linear.specs.Massey.{shift, corrected, Loop, HeldBy}
use Rattle.algebra.proofs.Laws
use Rattle.algebra.proofs.Elements
use Rattle.linear.proofs.Series
use Rattle.linear.proofs.Massey
use Rattle.linear.proofs.Lengths
use Rattle.linear.proofs.Reading
use Rattle.linear.proofs.Columns

loop_along : {K : Type 0} (F : Field K) (s : ℕ → K) {C C' : ℕ → K} → C ≡ C' → {l l' : ℕ} → l ≡ l' → {N N' : ℕ} → N ≡ N' → {B B' : ℕ → K} → B ≡ B' → {h h' : ℕ} → h ≡ h' → {k k' : ℕ} → k ≡ k' → {b b' : K} → b ≡ b' → Loop F s C l N B h k b → Loop F s C' l' N' B' h' k' b'
loop_along F s p q r v t u w I = transport (λ i. Loop F s (p i) (q i) (r i) (v i) (t i) (u i) (w i)) I

module _ (m : FieldMeaning) (laws : FieldLaws m) where
  -- the inverse that the field answers is the one of its elements
  inverse_word : (x : Elem m) → x.0 ≢ m.zero → (i : ℕ) → m.inv x.0 ≡ Some i → ((field_of m laws).inv x).0 ≡ i
  unfolding inverse_by
  inverse_word x ne i is = go (ℕ_discrete x.0 m.zero)
    where
      go : (y : Dec (x.0 ≡ m.zero)) → (inverse_by m laws x y).0 ≡ i
      go (yes e) = absurd (ne e)
      go (no d) = let e = (laws.inverse x.0 x.1 d).1 in cc

  pub inverse_there : (s c b : List ℕ) (l n k w : ℕ) → HeldBy m laws s c b l n k w → m.inv w ≡ None → ⊥
  inverse_there s c b l n k w I is =
      let e = (laws.inverse w I.elem_w (λ e. I.kept.unit (Reading.el_of m laws (field_of m laws).zer w e))).1 in
      let z : ◌≡◌ {A = ℕ} 0 1 = cc in omega arith

  pub sizes : (s c b : List ℕ) (l n k w : ℕ) → HeldBy m laws s c b l n k w → (l ≤ n) × (k + l ≤ n + 1)
  sizes s c b l n k w I = (I.kept.size, omega (arith, I.kept.sizes))

  module _ (out : FieldTotal m) (q : ℕ) (Q : Elem m) (is : q ≡ Q.0) where
    -- words with a multiple added read as the sum, where nothing is added past their end
    read_added : (b c : List ℕ) → Elems m c → ((i : ℕ) → length c ≤ i → read m laws b i ≡ (field_of m laws).zer) → (i : ℕ) → read m laws (added m q b c) i ≡ (field_of m laws).◌⊕◌ (read m laws c i) ((field_of m laws).◌⊗◌ Q (read m laws b i))
    read_added [] c els past i = sym (ap ((field_of m laws).◌⊕◌ (read m laws c i)) (Laws.mul_zero (field_of m laws) Q) ∙ (field_of m laws).add_zero _)
    read_added (x ∷ b) [] els past i = sym (ap (λ z. (field_of m laws).◌⊕◌ (field_of m laws).zer ((field_of m laws).◌⊗◌ Q z)) (past i (omega arith)) ∙ ap ((field_of m laws).◌⊕◌ (field_of m laws).zer) (Laws.mul_zero (field_of m laws) Q) ∙ (field_of m laws).add_zero _)
    read_added (x ∷ b) (y ∷ c) els past zero =
        Reading.el_of m laws _ (m.add y (m.mul q x))
        (ap₂ m.add (sym (Elements.el_word m laws y (els 0 (omega arith)))) (Reading.mul_el m laws out q x ∙ ap (λ (z : Elem m). m.mul z.0 (el m laws x).0) (Reading.el_of m laws Q q is)))
    read_added (x ∷ b) (y ∷ c) els past (suc i) = read_added b c (λ k l. els (suc k) (omega arith)) (λ k l. past (suc k) (omega arith)) i

    read_corrected : (k : ℕ) (b c : List ℕ) → Elems m c → ((i : ℕ) → length c ≤ i → shift (field_of m laws) k (read m laws b) i ≡ (field_of m laws).zer) → (i : ℕ) → read m laws (take k c ++ added m q b (drop k c)) i ≡ (field_of m laws).◌⊕◌ (read m laws c i) ((field_of m laws).◌⊗◌ Q (shift (field_of m laws) k (read m laws b) i))
    read_corrected zero b c els past i = read_added b c els past i
    read_corrected (suc k) b [] els past i = ap (λ (zs : List ℕ). read m laws zs i) (added_none b) ∙ sym (ap (λ z. (field_of m laws).◌⊕◌ (field_of m laws).zer ((field_of m laws).◌⊗◌ Q z)) (past i (omega arith)) ∙ ap ((field_of m laws).◌⊕◌ (field_of m laws).zer) (Laws.mul_zero (field_of m laws) Q) ∙ (field_of m laws).add_zero _)
      where
        added_none : (b : List ℕ) → added m q b [] ≡ []
        added_none [] = refl
        added_none (x ∷ b) = refl
    read_corrected (suc k) b (y ∷ c) els past zero = sym (ap ((field_of m laws).◌⊕◌ (el m laws y)) (Laws.mul_zero (field_of m laws) Q) ∙ (field_of m laws).add_zero _)
    read_corrected (suc k) b (y ∷ c) els past (suc i) = read_corrected k b c (λ j l. els (suc j) (omega arith)) (λ j l. past (suc j) (omega arith)) i

  elems_corrected : FieldTotal m → (q k : ℕ) (b c : List ℕ) → Elems m c → Elems m (take k c ++ added m q b (drop k c))
  elems_corrected out q zero b c els j l = Columns.elems_added m laws out q b c els j l
  elems_corrected out q (suc k) b [] els j l = Columns.elems_added m laws out q b [] els j l
  elems_corrected out q (suc k) b (y ∷ c) els zero l = els 0 (omega arith)
  elems_corrected out q (suc k) b (y ∷ c) els (suc j) l = elems_corrected out q k b c (λ i h. els (suc i) (omega arith)) j (omega arith)

  module _ (out : FieldTotal m) (s c b : List ℕ) (l n k w : ℕ) (I : HeldBy m laws s c b l n k w) (within : n < length s) (lc : length c ≡ length s + 1) (d : ℕ)
      (is : d ≡ sum_words m (l + 1) (λ i. m.mul (get_or c i 0) (get_or s (n - i) 0))) where
    -- the word that the program adds up is the discrepancy
    found : conv (field_of m laws) (read m laws c) (read m laws s) n ≡ el m laws d
    found =
        Series.conv_cut (field_of m laws) (l + 1) n (read m laws c) (read m laws s) (omega (arith, I.kept.size)) (λ i h. I.kept.gen.deg i (omega arith))
        ∙ sym (Reading.el_of m laws _ d
        (is ∙ Reading.sum_read m laws (l + 1) _ _ (λ i h.
        Reading.mul_el m laws out (get_or c i 0) (get_or s (n - i) 0)
        ∙ ap₂ (λ (x y : Elem m). m.mul x.0 y.0) (sym (Reading.read_at m laws c i (omega (arith, I.kept.size)))) (sym (Reading.read_at m laws s (n - i) (omega arith))))))

    elem_d : T (m.elem d)
    elem_d = subst (λ u. T (m.elem u)) (sym is) (Columns.sum_elem m laws out (l + 1) _)

    pub held_same : d ≡ m.zero → HeldBy m laws s c b l (n + 1) (k + 1) w
    held_same e = record {
      elems_c = I.elems_c;
      elems_b = I.elems_b;
      elem_w = I.elem_w;
      kept = loop_along (field_of m laws) (read m laws s) {C = read m laws c} refl refl {N = suc n} (omega arith) {B = read m laws b} refl {h = suc n - (l + k)} (omega arith) {k = suc k} (omega arith) refl
          (Massey.step_same (field_of m laws) _ _ l n _ _ k _ I.kept (found ∙ Reading.el_of m laws (field_of m laws).zer d e));
    }

    module _ (ne : d ≢ m.zero) (i q : ℕ) (inverse : m.inv w ≡ Some i) (q-is : q ≡ m.neg (m.mul d i)) (c' : List ℕ) (c'-is : c' ≡ take k c ++ added m q b (drop k c)) where
      differs : conv (field_of m laws) (read m laws c) (read m laws s) n ≢ (field_of m laws).zer
      differs e = ne (sym (Elements.el_word m laws d elem_d) ∙ ap (λ (x : Elem m). x.0) (sym found ∙ e))

      missed : (el m laws w).0 ≢ m.zero
      missed e = I.kept.unit (elem_path m e)

      Q : Elem m
      Q = (field_of m laws).neg ((field_of m laws).◌⊗◌ (conv (field_of m laws) (read m laws c) (read m laws s) n) ((field_of m laws).inv (el m laws w)))

      Q-is : q ≡ Q.0
      unfolding Q
      Q-is =
          q-is
          ∙ ap₂ (λ x y. m.neg (m.mul x y)) (sym (Elements.el_word m laws d elem_d) ∙ ap (λ (x : Elem m). x.0) (sym found))
          (sym (inverse_word (el m laws w) missed i (ap m.inv (Elements.el_word m laws w I.elem_w) ∙ inverse)))

      new-read : corrected (field_of m laws) (read m laws c) (conv (field_of m laws) (read m laws c) (read m laws s) n) (read m laws b) k (el m laws w) ≡ read m laws c'
      unfolding Q
      new-read = fun_ext (λ j. sym (ap (λ (zs : List ℕ). read m laws zs j) c'-is ∙ read_corrected out q Q Q-is k b c I.elems_c
          (λ j h. Series.shift_deg (field_of m laws) k (suc n - (l + k)) (read m laws b) I.kept.deg_B j (omega (arith, I.kept.sizes))) j))

      new-elems : Elems m c'
      new-elems = subst (Elems m) (sym c'-is) (elems_corrected out q k b c I.elems_c)

      pub held-short : n < l + l → HeldBy m laws s c' b l (n + 1) (k + 1) w
      held-short h = record {
        elems_c = new-elems;
        elems_b = I.elems_b;
        elem_w = I.elem_w;
        kept = loop_along (field_of m laws) (read m laws s) new-read refl {N = suc n} (omega arith) {B = read m laws b} refl {h = suc n - (l + k)} (omega arith) {k = suc k} (omega arith) refl
            (Massey.step_short (field_of m laws) _ _ l n _ _ k _ I.kept differs h);
      }

      pub held-long : (b' : List ℕ) → b' ≡ c → l + l ≤ n → HeldBy m laws s c' b' (n + 1 - l) (n + 1) 1 d
      held-long b' e h = record {
        elems_c = new-elems;
        elems_b = subst (Elems m) (sym e) I.elems_c;
        elem_w = elem_d;
        kept = loop_along (field_of m laws) (read m laws s) new-read {l = suc n - l} (omega arith) {N = suc n} (omega arith) (ap (read m laws) (sym e)) {h = l} (omega arith) refl found
            (Massey.step_long (field_of m laws) _ _ l n _ _ k _ I.kept differs h);
      }

  -- the polynomial one
  one_read : (c : List ℕ) → 0 < length c → get_or c 0 0 ≡ m.one → ((k : ℕ) → 0 < k → k < length c → get_or c k 0 ≡ m.zero) → Elems m c × (Massey.one_poly (field_of m laws) ≡ read m laws c)
  one_read c l first others = (els, fun_ext (λ i. sym (same i)))
    where
      els : Elems m c
      els zero h = subst (λ w. T (m.elem w)) (sym first) laws.one_in
      els (suc k) h = subst (λ w. T (m.elem w)) (sym (others (suc k) (omega arith) h)) laws.zero_in

      later : (i : ℕ) → Dec (suc i < length c) → read m laws c (suc i) ≡ (field_of m laws).zer
      later i (yes h) = Reading.read_at m laws c (suc i) h ∙ Reading.el_of m laws (field_of m laws).zer _ (others (suc i) (omega arith) h)
      later i (no h) = Reading.read_past m laws c (suc i) (omega arith)

      same : (i : ℕ) → read m laws c i ≡ Massey.one_poly (field_of m laws) i
      same zero = Reading.read_at m laws c 0 l ∙ Reading.el_of m laws (field_of m laws).one _ first
      same (suc i) = later i (dec_lt (suc i) (length c))

  pub held_start : (s c b : List ℕ) (w : ℕ) → w ≡ m.one
      → 0 < length c → get_or c 0 0 ≡ m.one → ((k : ℕ) → 0 < k → k < length c → get_or c k 0 ≡ m.zero)
      → 0 < length b → get_or b 0 0 ≡ m.one → ((k : ℕ) → 0 < k → k < length b → get_or b k 0 ≡ m.zero)
      → HeldBy m laws s c b 0 0 1 w
  held_start s c b w is lc fc oc lb fb ob =
      let x = one_read c lc fc oc in
      let y = one_read b lb fb ob in
      record {
        elems_c = x.0;
        elems_b = y.0;
        elem_w = subst (λ u. T (m.elem u)) (sym is) laws.one_in;
        kept = transport (λ i. Loop (field_of m laws) (read m laws s) (x.1 i) 0 0 (y.1 i) 0 1 (sym (Reading.el_of m laws (field_of m laws).one w is) i)) (Massey.start (field_of m laws) (read m laws s));
      }

  -- after the last word
  pub shortest : (s c b : List ℕ) (l n k w : ℕ) → HeldBy m laws s c b l n k w → n ≡ length s → ShortestBy m laws s c l
  shortest s c b l n k w I e = record {
    least = subst (λ N. Least (Recurs (field_of m laws) (read m laws s) N) l) e (Lengths.loop_least (field_of m laws) _ _ l n _ _ k _ I.kept);
    connection = subst (λ N. Gen (field_of m laws) (read m laws s) (read m laws c) l N) e I.kept.gen;
    elements = I.elems_c;
    within = omega (arith, I.kept.size);
  }
