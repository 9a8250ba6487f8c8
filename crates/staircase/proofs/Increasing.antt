-- Lists of records and lists of monomials of n variables: members, sorting and the way back.
use Rattle.std.proofs.Common.{◌≡◌, ℕ, ◌<◌, ◌≤◌, Bool, true, false, cond, List, [], ◌∷◌, map, length, get_or, Ordering, Less, Equal, Greater, sym, refl, ap, ◌∙◌, subst, ap₂, arith}
use native.Mathlib.Decide.{dec_lt}
use Rattle.std.specs.List.{ContainsAt as Has, AllByRecursion}
use Rattle.std.proofs.lemmas.List.{length-map, get_or-map, get_or_default}
use Rattle.std.proofs.ByRecursion.{All-weaker, All-map}
use Rattle.order.specs.declared.monomial.Monomial.{Monomial}
use Rattle.order.specs.Monomials as record_of
use Rattle.order.specs.Monomials.{variables, largest}
use Rattle.order.specs.Laws.{Comparison, OrderLaws}
use Rattle.algebra.specs.Monomial.{Mono, one, times, var, equal, Among}
use Rattle.algebra.specs.Order.{Small}
use Rattle.algebra.specs.Records.{nested, flat, Within, less, before_by}
use Rattle.algebra.specs.Staircase.{insert, sorted}
use Rattle.algebra.proofs.Monomials as monos
use Rattle.algebra.proofs.Records as records
use Rattle.staircase.specs.Sorting.{put, inserted_by, sorted_by}

module _ (n : ℕ) (fits : n ≤ variables) where
  -- a record of n variables with exponents that the laws of an order ask for
  abbrev pub Fine : Monomial → Type 0
  Fine m = Within n m × record_of.Small m

  pub small_record : (m : Monomial) → Within n m → Small n (nested n m) → record_of.Small m
  small_record m w s k h = go (dec_lt k n)
    where
      go : Dec (k < n) → record_of.exponent m k ≤ largest
      go (yes q) = omega (arith, s k q, records.exponent_nested n fits m k q)
      go (no q) = omega (arith, w k (omega arith))

  pub nested_once : (x y : Monomial) → Within n x → Within n y → nested n x ≡ nested n y → x ≡ y
  nested_once x y v w e = sym (records.forth n fits x v) ∙ ap (flat n) e ∙ records.forth n fits y w

  -- the monomial of a product by a variable
  pub nested_raise : (k : ℕ) → k < n → (m : Monomial) → nested n (record_of.raise k m) ≡ times n (var n k) (nested n m)
  nested_raise k kn m = let K = records.nested_keeps n fits in K.products (record_of.variable k) m ∙ ap (λ (x : Mono n). times n x (nested n m)) (K.variable k kn)

  -- records that have n variables are those of their monomials
  pub flat_nested : (l : List Monomial) → AllByRecursion (Within n) l → map (flat n) (map (nested n) l) ≡ l
  flat_nested [] w = refl
  flat_nested (m ∷ l) w = ap₂ (λ (x : Monomial) (y : List Monomial). x ∷ y) (records.forth n fits m w.0) (flat_nested l w.1)

  pub nested_flat : (l : List (Mono n)) → map (nested n) (map (flat n) l) ≡ l
  nested_flat [] = refl
  nested_flat (m ∷ l) = ap₂ (λ (x : Mono n) (y : List (Mono n)). x ∷ y) (records.back n fits m) (nested_flat l)

  pub among_nested : (l : List Monomial) (m : Monomial) → Has l m → Among n (nested n m) (map (nested n) l)
  among_nested l m h = (h.0, subst (λ (x : ℕ). h.0 < x) (sym (length-map l (nested n))) h.1, get_or-map (nested n) l h.0 record_of.one (one n) h.1 ∙ ap (nested n) (h.2 record_of.one))

  pub nested_among : (l : List Monomial) (t : Mono n) → Among n t (map (nested n) l) → (m : Monomial) × Has l m × (nested n m ≡ t)
  nested_among l t a =
      let p : a.0 < length l = omega (arith, a.1, length-map l (nested n)) in
      (get_or l a.0 record_of.one, (a.0, p, λ d. get_or_default l a.0 d record_of.one p), sym (get_or-map (nested n) l a.0 record_of.one (one n) p) ∙ a.2)

  module _ (cmp : Comparison) (O : OrderLaws cmp) where
    compared : (x y : Monomial) → Fine x → Fine y → (r : Ordering) → r ≡ cmp x y → before_by cmp n (nested n x) (nested n y) ≡ less r
    compared x y v w r e = ap₂ (λ (a b : Monomial). less (cmp a b)) (records.forth n fits x v.0) (records.forth n fits y w.0) ∙ ap less (sym e)

    pub fine_inserted : (m : Monomial) (l : List Monomial) → Fine m → AllByRecursion Fine l → AllByRecursion Fine (inserted_by cmp m l)
    unfolding inserted_by
    fine_inserted m [] fm fl = (fm, tt)
    fine_inserted m (a ∷ l) fm fl = go (cmp m a) (fine_inserted m l fm fl.1)
      where
        go : (r : Ordering) → AllByRecursion Fine (inserted_by cmp m l) → AllByRecursion Fine (put cmp m a l (inserted_by cmp m l) r)
        go Less ih = (fm, fl)
        go Equal ih = fl
        go Greater ih = (fl.0, ih)

    -- the answers before and equal, put into the definition of insert
    abbrev made : Monomial → Monomial → List Monomial → Bool → Bool → List (Mono n)
    made m a l b c = cond b (nested n m ∷ nested n a ∷ map (nested n) l) (cond c (nested n a ∷ map (nested n) l) (nested n a ∷ insert n (before_by cmp n) (nested n m) (map (nested n) l)))

    nested_inserted : (m : Monomial) (l : List Monomial) → Fine m → AllByRecursion Fine l → map (nested n) (inserted_by cmp m l) ≡ insert n (before_by cmp n) (nested n m) (map (nested n) l)
    unfolding inserted_by
    nested_inserted m [] fm fl = refl
    nested_inserted m (a ∷ l) fm fl = go (cmp m a) refl (nested_inserted m l fm fl.1)
      where
        apart : (b : Bool) → equal n (nested n m) (nested n a) ≡ b → Greater ≡ cmp m a → b ≡ false
        apart false q e = refl
        apart true q e = absurd (differ (e ∙ ap (cmp m) (sym (nested_once m a fm.0 fl.0.0 (monos.equal_eq n _ _ q))) ∙ O.self m fm.1))
          where
            differ : Greater ≡ Equal → ⊥
            differ w = let z : ◌≡◌ {A = ℕ} 0 1 = cc in omega arith

        go : (r : Ordering) → r ≡ cmp m a → map (nested n) (inserted_by cmp m l) ≡ insert n (before_by cmp n) (nested n m) (map (nested n) l) → map (nested n) (put cmp m a l (inserted_by cmp m l) r) ≡ made m a l (before_by cmp n (nested n m) (nested n a)) (equal n (nested n m) (nested n a))
        go Less e ih = sym (ap (λ (b : Bool). made m a l b (equal n (nested n m) (nested n a))) (compared m a fm fl.0 Less e))
        go Equal e ih = sym (ap₂ (made m a l) (compared m a fm fl.0 Equal e) (subst (λ (y : Monomial). equal n (nested n m) (nested n y) ≡ true) (O.equal m a fm.1 fl.0.1 (sym e)) (monos.equal_refl n (nested n m))))
        go Greater e ih = ap (λ (y : List (Mono n)). nested n a ∷ y) ih ∙ sym (ap₂ (made m a l) (compared m a fm fl.0 Greater e) (apart (equal n (nested n m) (nested n a)) refl e))

    pub fine_sorted : (l : List Monomial) → AllByRecursion Fine l → AllByRecursion Fine (sorted_by cmp l)
    unfolding sorted_by
    fine_sorted [] fl = tt
    fine_sorted (a ∷ l) fl = fine_inserted a (sorted_by cmp l) fl.0 (fine_sorted l fl.1)

    pub nested_sorted : (l : List Monomial) → AllByRecursion Fine l → map (nested n) (sorted_by cmp l) ≡ sorted n (before_by cmp n) (map (nested n) l)
    unfolding sorted_by
    nested_sorted [] fl = refl
    nested_sorted (a ∷ l) fl = nested_inserted a (sorted_by cmp l) fl.0 (fine_sorted l fl.1) ∙ ap (insert n (before_by cmp n) (nested n a)) (nested_sorted l fl.1)

    -- a sorted list of records is that of the sorted list of their monomials
    pub sorted_records : (l : List Monomial) → AllByRecursion Fine l → (S : List (Mono n)) → sorted n (before_by cmp n) (map (nested n) l) ≡ S → sorted_by cmp l ≡ map (flat n) S
    sorted_records l fl S e = sym (flat_nested (sorted_by cmp l) (All-weaker Fine (Within n) (λ m f. f.0) (sorted_by cmp l) (fine_sorted l fl))) ∙ ap (map (flat n)) (nested_sorted l fl ∙ e)

  pub small_nested : (l : List Monomial) → AllByRecursion Fine l → AllByRecursion (Small n) (map (nested n) l)
  small_nested l fl = All-map (Small n) (nested n) l (All-weaker Fine (λ m. Small n (nested n m)) (λ m f. (records.nested_keeps n fits).bounds m f.1) l fl)
