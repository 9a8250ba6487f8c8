-- Two matrices commute where they do at each unit vector.
use Rattle.std.proofs.Common.{◌≡◌, ℕ, ◌<◌, ◌≤◌, Bool, true, false, T, ◌↔◌, List, length, get_or, take, set, replicate, sym, refl, ap, ◌∙◌, subst, ap₂, arith, length-set}
use native.Mathlib.Decide.{ℕ_discrete, dec_lt}
use lib.ListN.{length-replicate, get_or-replicate}
use Rattle.std.proofs.lemmas.List.{get_or-set_same, get_or-set_other, length-take-le, get_or-take, same_lists}
use Rattle.std.proofs.lemmas.Grind.{get_or_default_zero}
use Rattle.std.specs.Bool.{Decides}
use mathlib.Core.Bool.{false≢true}
use denote.Param.Members.{Mut}
use Rattle.std.specs.declared.ops.Range.{Range}
use Rattle.std.specs.Prelude.{Option, MatchOption}
use Rattle.std.specs.Bool.{MatchBool}
use Rattle.std.specs.Fn.{Called}
use Rattle.std.specs.Iterator.{YieldsThen}
use Rattle.std.specs.List.{FoldsTo, AllWithin, HoldsAt, range_with_len}
use Rattle.std.proofs.iter.Yields.{nat_range_steps}
use Rattle.std.proofs.lemmas.Iterator.{cases_from_all, YieldsList-from_range}
use Rattle.std.proofs.lemmas.List.FromFn.{get_or-range_with_len, length-range_with_len}
use Rattle.field.specs.Meaning.{FieldMeaning, FieldLaws}
use Rattle.order.specs.Laws.{Comparison}
use Rattle.algebra.specs.Field.{Field}
use Rattle.algebra.specs.Vector.{sum, basis}
use Rattle.algebra.specs.Elements.{Elem, Elems, field_of, el, read}
use Rattle.algebra.specs.Records.{before_by}
use Rattle.algebra.specs.Matrices.{Agree}
use Rattle.algebra.proofs.Elements.{el_once}
use Rattle.algebra.proofs.Sums as sums
use Rattle.linear.proofs.Reading as reading
use Rattle.runs.specs.Job.{Term}
use Rattle.runs.specs.Generators.{generators, Tk}
use Rattle.tables.specs.declared.tables.Tables.{Tables}
use Rattle.tables.specs.Holds.{stair_count, entry_of, Holds, Stepped}
use Rattle.tables.specs.Agreeing.{product_entry, Commute}

module _ (m : FieldMeaning) (z o i : ℕ) (is_zero : z ≡ m.zero) (is_one : o ≡ m.one) (inside : i < 48) where
  -- the unit vector at place i
  pub unit_length : length (set (replicate 48 z) i o) ≡ 48
  unit_length = length-set (replicate 48 z) i o ∙ length-replicate 48 z

  unit_here : get_or (set (replicate 48 z) i o) i 0 ≡ m.one
  unit_here = get_or-set_same (replicate 48 z) i o 0 (omega (arith, length-replicate 48 z)) ∙ is_one

  unit_off : (s : ℕ) → s < 48 → (i ≡ s → ⊥) → get_or (set (replicate 48 z) i o) s 0 ≡ m.zero
  unit_off s h d = get_or-set_other (replicate 48 z) i s o 0 (λ e. d (sym e)) ∙ get_or-replicate 48 s z 0 h ∙ is_zero

  pub unit_elems : FieldLaws m → (d : ℕ) → d ≤ 48 → Elems m (take d (set (replicate 48 z) i o))
  unit_elems laws d short s h =
      let l : s < d = omega (arith, length-take-le d (set (replicate 48 z) i o) (omega (arith, unit_length))) in
      subst (λ (w : ℕ). T (m.elem w)) (sym (get_or-take d (set (replicate 48 z) i o) s 0 l)) (go s (omega arith) (ℕ_discrete i s))
    where
      go : (s : ℕ) → s < 48 → Dec (i ≡ s) → T (m.elem (get_or (set (replicate 48 z) i o) s 0))
      go s l (yes e) = subst (λ (k : ℕ). T (m.elem (get_or (set (replicate 48 z) i o) k 0))) e (subst (λ (w : ℕ). T (m.elem w)) (sym unit_here) laws.one_in)
      go s l (no d) = subst (λ (w : ℕ). T (m.elem w)) (sym (unit_off s l d)) laws.zero_in

  module _ (laws : FieldLaws m) where
    abbrev F : Field (Elem m)
    F = field_of m laws

    unit_read : (s : ℕ) → s < 48 → read m laws (set (replicate 48 z) i o) s ≡ basis F i s
    unit_read s h = reading.read_at m laws (set (replicate 48 z) i o) s (omega (arith, unit_length)) ∙ go (ℕ_discrete i s)
      where
        go : Dec (i ≡ s) → el m laws (get_or (set (replicate 48 z) i o) s 0) ≡ basis F i s
        go (yes e) = subst (λ (k : ℕ). el m laws (get_or (set (replicate 48 z) i o) k 0) ≡ basis F i k) e (reading.el_of m laws F.one _ unit_here ∙ sym (sums.basis_same F i))
        go (no d) = reading.el_of m laws F.zer _ (unit_off s h d) ∙ sym (sums.basis_other F i s d)

    -- two steps from it
    pub two_steps : (t : Tables) → stair_count t ≤ 48 → i < stair_count t → (k l : ℕ) (between out : List ℕ) → Stepped m t l (set (replicate 48 z) i o) between → Stepped m t k between out
        → (j : ℕ) → j < stair_count t → read m laws out j ≡ product_entry m laws t k l j i
    two_steps t short hi k l between out first then j hj =
        then.applied laws j hj
        ∙ sums.sum_ext F (stair_count t) _ _ (λ r hr. ap (F.◌⊗◌ (entry_of m laws t k j r)) (first.applied laws r hr
        ∙ sums.sum_ext F (stair_count t) _ _ (λ s hs. ap (F.◌⊗◌ (entry_of m laws t l r s)) (unit_read s (omega arith)))
        ∙ sums.sum_basis F (stair_count t) i (entry_of m laws t l r) hi))

-- a test tells whether what it decides holds
pub tells : {P Q : Type 0} (b : Bool) → Decides b P → (P ↔ Q) → T b ↔ Q
tells true d e = (λ _. e.0 (d.0 refl), λ _. tt)
tells false d e = (λ f. absurd f, λ q. false≢true (d.1 (e.1 q)))

-- `all` over the numbers below n tells whether each has what the test tells of it
pub all_tell : {F : Type 0} {g : Mut F (ℕ × Unit {0}) Bool} {s : Range ℕ} (n : ℕ) (P : ℕ → Type 0) (u : Range ℕ) (f : F) (r : Bool)
    → s ≡ record { start = 0; end = n }
    → (xs : List ℕ) × (o : Option ℕ) × (j : F) × YieldsThen nat_range_steps s xs o u × FoldsTo (λ i x q. Called g i (x, tt) true q) f xs j
    × MatchOption o (r ≡ true) (λ x. (r ≡ false) × ((h : F) × Called g j (x, tt) false h))
    → ((x : ℕ) (b : Bool) (q : F) → Called g f (x, tt) b q → (q ≡ f) × (x < n → T b ↔ P x))
    → T r ↔ ((k : ℕ) → k < n → P k)
all_tell n P u f r e ran h = told r (cases_from_all u f r (λ k. k < n → P k) (λ k. k < n → P k → ⊥) ran (YieldsList-from_range 0 n n e (omega arith)) (λ x q c. let w = h x true q c in (w.0, λ l. (w.1 l).0 tt)) (λ x q c l p. ((h x false q c).1 l).1 p))
  where
    at : (j : ℕ) → j < n → get_or (range_with_len 0 n) j 0 ≡ j
    at j l = get_or-range_with_len 0 n j 0 l ∙ omega arith

    told : (r : Bool) → MatchBool r (AllWithin (λ k. k < n → P k) (range_with_len 0 n) 0 (length (range_with_len 0 n))) ((k : ℕ) × (k < length (range_with_len 0 n)) × HoldsAt (λ k. k < n → P k → ⊥) (range_with_len 0 n) k) → T r ↔ ((k : ℕ) → k < n → P k)
    told true h = (λ _ k l. subst (λ k. k < n → P k) (at k l) (h k 0 (omega arith) (omega (arith, l, length-range_with_len 0 n))) l, λ _. tt)
    told false h = let l : h.0 < n = omega (arith, h.1, length-range_with_len 0 n) in (λ f. absurd f, λ y. subst (λ k. k < n → P k → ⊥) (at h.0 l) (h.2 0) l (y h.0 l))

-- the first words of two lists are the same where each is
pub fronts_same : (d : ℕ) (a b : List ℕ) → d ≤ length a → d ≤ length b → (take d a ≡ take d b) ↔ ((j : ℕ) → j < d → get_or a j 0 ≡ get_or b j 0)
fronts_same d a b la lb = (
  λ e j l. sym (get_or-take d a j 0 l) ∙ ap (λ (xs : List ℕ). get_or xs j 0) e ∙ get_or-take d b j 0 l,
  λ h. same_lists (take d a) (take d b) (length-take-le d a la ∙ sym (length-take-le d b lb)) (λ k x l. let q : k < d = omega (arith, length-take-le d a la) in get_or-take d a k x q ∙ get_or_default_zero a k x (omega arith) ∙ h k q ∙ sym (get_or_default_zero b k x (omega arith)) ∙ sym (get_or-take d b k x q)),
)

-- words of elements are the same where the elements are
module _ (m : FieldMeaning) (laws : FieldLaws m) where
  pub words_same : (d : ℕ) (a b : List ℕ) → d ≤ length a → d ≤ length b → Elems m (take d a) → Elems m (take d b)
      → ((j : ℕ) → j < d → get_or a j 0 ≡ get_or b j 0) ↔ ((j : ℕ) → j < d → read m laws a j ≡ read m laws b j)
  words_same d a b la lb ea eb =
      (λ h j l. at a la j l ∙ ap (el m laws) (h j l) ∙ sym (at b lb j l), λ h j l. el_once m laws _ _ (elem a la ea j l) (elem b lb eb j l) (sym (at a la j l) ∙ h j l ∙ at b lb j l))
    where
      at : (x : List ℕ) → d ≤ length x → (j : ℕ) → j < d → read m laws x j ≡ el m laws (get_or x j 0)
      at x h j l = reading.read_at m laws x j (omega arith)

      elem : (x : List ℕ) → d ≤ length x → Elems m (take d x) → (j : ℕ) → j < d → T (m.elem (get_or x j 0))
      elem x h e j l = subst (λ (w : ℕ). T (m.elem w)) (get_or-take d x j 0 l) (e j (omega (arith, length-take-le d x h)))

  -- the matrices that tables hold agree where any two of them commute
  module _ (cmp : Comparison) (n : ℕ) (ps : List (List Term)) (t : Tables) (H : Holds m laws cmp n ps t) where
    abbrev A : ℕ → ℕ → ℕ → Elem m
    A = Tk m laws cmp n ps

    product_is : (k l : ℕ) → k < n → l < n → (j i : ℕ) → j < stair_count t → i < stair_count t
        → product_entry m laws t k l j i ≡ sum (field_of m laws) (stair_count t) (λ r. (field_of m laws).◌⊗◌ (A k j r) (A l r i))
    product_is k l kn ln j i hj hi = sums.sum_ext (field_of m laws) (stair_count t) _ _ (λ r hr. ap₂ (field_of m laws).◌⊗◌ (H.entries k j r kn hj hr) (H.entries l r i ln hr hi))

    abbrev Same : ℕ → ℕ → ℕ → Type 0
    Same d k l = (i j : ℕ) → i < d → j < d → sum (field_of m laws) d (λ r. (field_of m laws).◌⊗◌ (A k j r) (A l r i)) ≡ sum (field_of m laws) d (λ r. (field_of m laws).◌⊗◌ (A l j r) (A k r i))

    same_is : (k l : ℕ) → k < n → l < n → Commute m laws t k l ↔ Same (stair_count t) k l
    same_is k l kn ln = (
      λ h i j hi hj. sym (product_is k l kn ln j i hj hi) ∙ h i hi j hj ∙ product_is l k ln kn j i hj hi,
      λ h i hi j hj. product_is k l kn ln j i hj hi ∙ h i j hi hj ∙ sym (product_is l k ln kn j i hj hi),
    )

    pub commuting : ((l : ℕ) → l < n → (k : ℕ) → k < l → Commute m laws t k l) ↔ Agree (field_of m laws) n (before_by cmp n) (generators m laws n ps)
    commuting = (
      λ h k l kn ln. subst (λ (d : ℕ). Same d k l) H.size (λ i j hi hj. go h k l kn ln i j hi hj (dec_lt k l) (dec_lt l k)),
      λ h l ln k kl. let kn : k < n = omega arith in (same_is k l kn ln).1 (subst (λ (d : ℕ). Same d k l) (sym H.size) (h k l kn ln)),
    )
      where
        go : ((l : ℕ) → l < n → (k : ℕ) → k < l → Commute m laws t k l) → (k l : ℕ) → k < n → l < n → (i j : ℕ) → i < stair_count t → j < stair_count t → Dec (k < l) → Dec (l < k)
            → sum (field_of m laws) (stair_count t) (λ r. (field_of m laws).◌⊗◌ (A k j r) (A l r i)) ≡ sum (field_of m laws) (stair_count t) (λ r. (field_of m laws).◌⊗◌ (A l j r) (A k r i))
        go h k l kn ln i j hi hj (yes p) q = (same_is k l kn ln).0 (h l ln k p) i j hi hj
        go h k l kn ln i j hi hj (no p) (yes q) = sym ((same_is l k ln kn).0 (h k kn l q) i j hi hj)
        go h k l kn ln i j hi hj (no p) (no q) =
            let e : k ≡ l = omega arith in
            subst (λ (a : ℕ). sum (field_of m laws) (stair_count t) (λ r. (field_of m laws).◌⊗◌ (A k j r) (A a r i)) ≡ sum (field_of m laws) (stair_count t) (λ r. (field_of m laws).◌⊗◌ (A a j r) (A k r i))) e refl
