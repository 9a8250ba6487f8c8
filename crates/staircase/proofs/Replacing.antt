-- The columns and places of the code against the forms of the definitions: the second rule is a matrix step.
use Rattle.std.proofs.Common.{◌≡◌, ℕ, zero, suc, ◌+◌, ◌-◌, ◌*◌, ◌<◌, ◌≤◌, Bool, true, false, cond, eqb, ◌≢◌, ◌⊎◌, List, ◌∷◌, ◌++◌, length, get_or, take, drop, sym, refl, ap, ◌∙◌, subst, ap₂, inl, inr, mul-le-mul_right, suc-mul, arith}
use mathlib.Core.Bool.{false≢true}
use native.Mathlib.Decide.{dec_lt}
use lib.Seq.{paste}
use Rattle.std.proofs.lemmas.List.{ext_get_or, length-take-le, length-append, get_or_append_left, get_or-append_right, get_or-take, get_or-drop, get_or_default}
use Rattle.std.proofs.lemmas.List.FromFn.{length-map-range_with_len, get_or-map-range_with_len}
use Rattle.std.proofs.lemmas.Bool.{cases_Bool, eq-eqb, eqb-true}
use Rattle.field.specs.Meaning.{FieldMeaning}
use Rattle.algebra.specs.Lists.{any, build}
use Rattle.algebra.specs.Monomial.{Mono, one, times, var, equal}
use Rattle.algebra.specs.NormalForm.{Table, total, look, form, replaced}
use Rattle.algebra.specs.Elements.{Elems}
use Rattle.algebra.specs.Words.{words}
use Rattle.algebra.proofs.Lists as tests
use Rattle.algebra.proofs.Monomials as monos
use Rattle.linear.specs.Words.{sum_words}
use Rattle.linear.specs.Step.{entry, row_words, product_words}
use Rattle.linear.specs.declared.step.Place.{Place}
use Rattle.linear.specs.declared.step.Place.TheVariants.{Stair, Border}
use Rattle.staircase.specs.Places.{PlaceOf}
use Rattle.staircase.specs.Steps.{OnceEach, ColumnsHold, StepsReplace, ColumnMore, ColumnsNone, ColumnStepped}
use Rattle.staircase.proofs.Opposites.{length_build}

-- at places of a list with no repeat, equal monomials are equal places
same_test : (n : ℕ) (S : List (Mono n)) → OnceEach n S → (p j : ℕ) → p < length S → j < length S → equal n (get_or S j (one n)) (get_or S p (one n)) ≡ eqb p j
same_test n S once p j hp hj = go (cases_Bool (eqb p j))
  where
    go : (eqb p j ≡ true) ⊎ (eqb p j ≡ false) → equal n (get_or S j (one n)) (get_or S p (one n)) ≡ eqb p j
    go (inl e) = subst (λ (i : ℕ). equal n (get_or S j (one n)) (get_or S i (one n)) ≡ true) (sym (eqb-true p j e)) (monos.equal_refl n (get_or S j (one n))) ∙ sym e
    go (inr e) = monos.equal_not n _ _ (λ q. false≢true (sym e ∙ eq-eqb p j (sym (once j p hj hp q)))) ∙ sym e

module _ (m : FieldMeaning) (n : ℕ) (S E : List (Mono n)) (tab : Table ℕ n) (columns : List ℕ) (stride : ℕ) where
  pub entry_form : OnceEach n S → ColumnsHold m n S E tab columns stride → (t : Mono n) (p : Place) → PlaceOf n S E t p → (j : ℕ) → j < length S → entry m columns stride p j ≡ get_or (form (words m) n S tab t) j m.zero
  entry_form once hold t (Stair p) (hp, e) j hj =
      let row : ℕ → ℕ = λ j. cond (equal n (get_or S j (one n)) t) m.one m.zero in
      let in_s : any (equal n t) S ≡ true = monos.among_has n t S (p, hp, e) in
      sym (ap (λ (b : Bool). get_or (cond b (build (length S) row) (look n tab t)) j m.zero) in_s
      ∙ tests.get_or_build (length S) row m.zero j hj
      ∙ ap (λ (y : Mono n). cond (equal n (get_or S j (one n)) y) m.one m.zero) (sym e)
      ∙ ap (λ (b : Bool). cond b m.one m.zero) (same_test n S once p j hp hj))
  entry_form once hold t (Border c) (out, hc, e) j hj =
      hold c j hc hj
      ∙ ap (λ (y : Mono n). get_or (look n tab y) j m.zero) e
      ∙ sym (outside (cases_Bool (any (equal n t) S)))
    where
      outside : (any (equal n t) S ≡ true) ⊎ (any (equal n t) S ≡ false) → get_or (form (words m) n S tab t) j m.zero ≡ get_or (look n tab t) j m.zero
      outside (inl q) = absurd (out (monos.has_among n t S q))
      outside (inr q) = ap (λ (b : Bool). get_or (cond b (build (length S) (λ j. cond (equal n (get_or S j (one n)) t) m.one m.zero)) (look n tab t)) j m.zero) q

total_words : (m : FieldMeaning) (n : ℕ) (f g : ℕ → ℕ) → ((i : ℕ) → i < n → f i ≡ g i) → sum_words m n f ≡ total (words m) n g
total_words m zero f g h = refl
total_words m (suc n) f g h = ap₂ m.add (total_words m n f g (λ i l. h i (omega arith))) (h n (omega arith))

pub steps_replace : StepsReplace
steps_replace m n S E tab columns stride once hold k places at v u same =
    ext_get_or 0 (product_words m D places columns stride v) (replaced (words m) n S tab k u) (length-map-range_with_len row 0 D ∙ sym (length_build D made)) (λ j l.
    let q : j < D = omega (arith, length-map-range_with_len row 0 D) in
    get_or-map-range_with_len row 0 D j j 0 q (omega arith)
    ∙ total_words m D _ _ (λ i h. ap₂ m.mul (entry_form m n S E tab columns stride once hold _ _ (at i h) j q) (same i h))
    ∙ sym (tests.get_or_build D made 0 j q))
  where
    D : ℕ
    D = length S

    row : ℕ → ℕ
    row j = row_words m places columns stride v j (length S)

    made : ℕ → ℕ
    made j = total (words m) (length S) (λ i. m.mul (get_or (form (words m) n S tab (times n (var n k) (get_or S i (one n)))) j m.zero) (get_or u i m.zero))

pub columns_none : ColumnsNone
columns_none m n S E columns stride h b j p q = h b j p q

-- ---- what a paste leaves at each place

module _ (d s : List ℕ) (at c : ℕ) (room : at + c ≤ length d) (len : length s ≡ c) where
  front : length (take at d) ≡ at
  front = length-take-le at d (omega arith)

  both : length (take at d ++ take c s) ≡ at + c
  both = length-append (take at d) (take c s) ∙ ap₂ ◌+◌ front (length-take-le c s (omega arith))

  paste_below : (i : ℕ) → i < at → get_or (paste d at s c) i 0 ≡ get_or d i 0
  paste_below i h = get_or_append_left (take at d ++ take c s) (drop (at + c) d) 0 i (omega (arith, both)) ∙ get_or_append_left (take at d) (take c s) 0 i (omega (arith, front)) ∙ get_or-take at d i 0 h

  paste_within : (j : ℕ) → j < c → get_or (paste d at s c) (at + j) 0 ≡ get_or s j 0
  paste_within j h =
      get_or_append_left (take at d ++ take c s) (drop (at + c) d) 0 (at + j) (omega (arith, both))
      ∙ get_or-append_right (take at d) (take c s) at (at + j) 0 front (omega arith)
      ∙ ap (λ (k : ℕ). get_or (take c s) k 0) (omega arith)
      ∙ get_or-take c s j 0 h

  paste_above : (i : ℕ) → at + c ≤ i → get_or (paste d at s c) i 0 ≡ get_or d i 0
  paste_above i h = get_or-append_right (take at d ++ take c s) (drop (at + c) d) (at + c) i 0 both h ∙ get_or-drop (at + c) d (i - (at + c)) 0 ∙ ap (λ (k : ℕ). get_or d k 0) (omega arith)

-- a column ends before the next one begins
pub before_column : (a b stride : ℕ) → a < b → a * stride + stride ≤ b * stride
before_column a b stride h = subst (λ (x : ℕ). x ≤ b * stride) (suc-mul a stride) (mul-le-mul_right {m = suc a} {n = b} stride h)

pub column_more : ColumnMore
column_more m n S E tab columns stride once hold short at hat room col len b j hb hj = go (dec_lt b at) (dec_lt at b)
  where
    other : b ≢ at → look n ((get_or E at (one n), col) ∷ tab) (get_or E b (one n)) ≡ look n tab (get_or E b (one n))
    other d = ap (λ (c : Bool). cond c col (look n tab (get_or E b (one n)))) (monos.equal_not n (get_or E at (one n)) (get_or E b (one n)) (λ q. d (once b at hb hat (sym q))))

    go : Dec (b < at) → Dec (at < b) → get_or (paste columns (at * stride) col (length S)) (b * stride + j) 0 ≡ get_or (look n ((get_or E at (one n), col) ∷ tab) (get_or E b (one n))) j m.zero
    go (yes q) y = paste_below columns col (at * stride) (length S) room len (b * stride + j) (omega (arith, before_column b at stride q)) ∙ hold b j hb hj ∙ sym (ap (λ (c : List ℕ). get_or c j m.zero) (other (λ e. absurd (omega arith))))
    go (no p) (yes q) = paste_above columns col (at * stride) (length S) room len (b * stride + j) (omega (arith, before_column at b stride q)) ∙ hold b j hb hj ∙ sym (ap (λ (c : List ℕ). get_or c j m.zero) (other (λ e. absurd (omega arith))))
    go (no p) (no q) =
        let e : b ≡ at = omega arith in
        ap (λ (i : ℕ). get_or (paste columns (at * stride) col (length S)) (i * stride + j) 0) e
        ∙ paste_within columns col (at * stride) (length S) room len j hj
        ∙ get_or_default col j 0 m.zero (omega arith)
        ∙ sym (ap (λ (c : Bool). get_or (cond c col (look n tab (get_or E b (one n)))) j m.zero) (subst (λ (i : ℕ). equal n (get_or E at (one n)) (get_or E i (one n)) ≡ true) (sym e) (monos.equal_refl n (get_or E at (one n)))))

-- column `to` by the second rule: the step of column `from`, written at its place
pub column_stepped : (m : FieldMeaning) (d : ℕ) (places : List Place) (columns : List ℕ) (stride from to : ℕ) (out after : List ℕ) → to * stride + d ≤ length columns
    → (Elems m (take d (drop (from * stride) columns)) → take d out ≡ product_words m d places columns stride (take d (drop (from * stride) columns))) → d ≤ length out → after ≡ paste columns (to * stride) (take d out) d
    → ColumnStepped m d places columns stride from to after
column_stepped m d places columns stride from to out after room stepped long is n S E tab k len w =
    subst (λ (x : List ℕ). ColumnsHold m n S E ((get_or E to (one n), col) ∷ tab) x stride) (sym (is ∙ ap₂ (λ (x : List ℕ) (c : ℕ). paste columns (to * stride) x c) made (sym len)))
    (column_more m n S E tab columns stride w.once_edges w.holds w.short to w.to_in (omega arith) col (length_build (length S) _))
  where
    u : List ℕ
    u = form (words m) n S tab (get_or E from (one n))

    col : List ℕ
    col = replaced (words m) n S tab k (form (words m) n S tab (get_or E from (one n)))

    v : List ℕ
    v = take d (drop (from * stride) columns)

    outside : (any (equal n (get_or E from (one n))) S ≡ true) ⊎ (any (equal n (get_or E from (one n))) S ≡ false) → form (words m) n S tab (get_or E from (one n)) ≡ look n tab (get_or E from (one n))
    outside (inl q) = absurd (w.from_out (monos.has_among n _ S q))
    outside (inr q) = ap (λ (b : Bool). cond b (build (length S) (λ j. cond (equal n (get_or S j (one n)) (get_or E from (one n))) m.one m.zero)) (look n tab (get_or E from (one n)))) q

    reads : (i : ℕ) → i < length S → get_or (take d (drop (from * stride) columns)) i 0 ≡ get_or (form (words m) n S tab (get_or E from (one n))) i m.zero
    reads i h = get_or-take d (drop (from * stride) columns) i 0 (omega arith) ∙ get_or-drop (from * stride) columns i 0 ∙ w.holds from i w.from_in h ∙ ap (λ (c : List ℕ). get_or c i m.zero) (sym (outside (cases_Bool _)))

    made : take d out ≡ replaced (words m) n S tab k (form (words m) n S tab (get_or E from (one n)))
    made =
        stepped (subst (λ (c : ℕ). Elems m (take c (drop (from * stride) columns))) len w.elements)
        ∙ ap (λ (c : ℕ). product_words m c places columns stride (take d (drop (from * stride) columns))) (sym len)
        ∙ steps_replace m n S E tab columns stride w.once_stairs w.holds k places w.products _ _ reads
