-- Words that stand for a vector: what they read as, and what a step and a dot product make of them.
use Rattle.std.proofs.Common.{◌≡◌, ℕ, ◌+◌, ◌<◌, ◌≤◌, min, T, List, length, get_or, take, drop, sym, ap, ◌∙◌, subst, arith, get_or-drop, get_or-take}
use Rattle.std.proofs.lemmas.List.{length-take-le}
use Rattle.field.specs.Meaning.{FieldMeaning, FieldLaws}
use Rattle.algebra.specs.Vector.{dot}
use Rattle.algebra.specs.Elements.{Elem, Elems, field_of, read}
use Rattle.algebra.proofs.Sums as sums
use Rattle.algebra.proofs.Maps.{krylov_more}
use Rattle.linear.specs.Words.{DotOf}
use Rattle.linear.proofs.WordLists.{read_word, read_is}
use Rattle.tables.specs.declared.tables.Tables.{Tables}
use Rattle.tables.specs.Holds.{stair_count, entry_of, Stepped}
use Rattle.conversion.specs.Powers.{Stands, StandsAt, map_of, power, measure}

module _ (m : FieldMeaning) (laws : FieldLaws m) where
  -- a word of an element is one
  pub elem_by : (w : ℕ) (x : Elem m) → w ≡ x.0 → T (m.elem w)
  elem_by w x e = subst (λ u. T (m.elem u)) (sym e) x.1

  pub front_elems : (d : ℕ) (xs : List ℕ) (f : ℕ → Elem m) → d ≤ length xs → Stands m d xs f → Elems m (take d xs)
  front_elems d xs f l s j h =
      let b : j < d = omega (arith, length-take-le d xs l) in
      elem_by _ (f j) (get_or-take d xs j 0 b ∙ s j b)

  pub stands_read : (d : ℕ) (xs : List ℕ) (f : ℕ → Elem m) → d ≤ length xs → Stands m d xs f → (j : ℕ) → j < d → read m laws xs j ≡ f j
  stands_read d xs f l s j h = read_is m laws xs j (f j) (omega arith) (s j h)

  -- a step of words that stand for f writes those of the matrix at f
  pub steps : (t : Tables) (k : ℕ) (v out : List ℕ) (f : ℕ → Elem m) → stair_count t ≤ length v → stair_count t ≤ length out → Stepped m t k v out → Stands m (stair_count t) v f → Stands m (stair_count t) out (map_of m laws t k f)
  steps t k v out f lv lo w s j h =
      let e : T (m.elem (get_or out j 0)) = subst (λ u. T (m.elem u)) (get_or-take (stair_count t) out j 0 h) (w.elements j (omega (arith, length-take-le (stair_count t) out lo))) in
      sym (read_word m laws out j (omega arith) e)
      ∙ ap (λ (x : Elem m). x.0) (w.applied laws j h ∙ sums.sum_ext (field_of m laws) (stair_count t) _ _ (λ i p. ap (λ x. (field_of m laws).◌⊗◌ (entry_of m laws t k j i) x) (stands_read (stair_count t) v f lv s i p)))

  -- a dot product with words that stand for f
  pub dots : (d : ℕ) (r v : List ℕ) (w : ℕ) (f : ℕ → Elem m) → length r ≡ d → d ≤ length v → DotOf m r v w → Stands m d v f → w ≡ (dot (field_of m laws) d (read m laws r) f).0
  dots d r v w f e l h s =
      let same : min (length r) (length v) ≡ d = omega arith in
      h laws
      ∙ ap (λ (n : ℕ). (dot (field_of m laws) n (read m laws r) (read m laws v)).0) same
      ∙ ap (λ (x : Elem m). x.0) (sums.sum_ext (field_of m laws) d _ _ (λ i p. ap (λ x. (field_of m laws).◌⊗◌ (read m laws r i) x) (stands_read d v f l s i p)))

  -- and so do their first n words
  pub front_reads : (d n : ℕ) (xs : List ℕ) (f : ℕ → Elem m) → d ≤ n → n ≤ length xs → Stands m d xs f → (j : ℕ) → j < d → read m laws (take n xs) j ≡ f j
  front_reads d n xs f l h s j p = read_is m laws (take n xs) j (f j) (omega (arith, length-take-le n xs h)) (get_or-take n xs j 0 (omega arith) ∙ s j p)

  -- a part that is lent
  pub part_stands : (d a w : ℕ) (xs : List ℕ) (f : ℕ → Elem m) → d ≤ w → StandsAt m d a xs f → Stands m d (take w (drop a xs)) f
  part_stands d a w xs f l s j h = get_or-take w (drop a xs) j 0 (omega arith) ∙ get_or-drop a xs j 0 ∙ s j h

  -- the words measured from a power on are those further on
  pub measure_more : (t : Tables) (k : ℕ) (r : List ℕ) (f : ℕ → Elem m) (l j : ℕ) → measure m laws t k r (power m laws t k f l) j ≡ measure m laws t k r f (l + j)
  measure_more t k r f l j = ap (dot (field_of m laws) (stair_count t) (read m laws r)) (krylov_more (field_of m laws) (map_of m laws t k) f l j)
