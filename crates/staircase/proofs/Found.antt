-- What the walk finds is the staircase: every monomial of it is free, and every free monomial is reached by products from 1.
use Rattle.std.proofs.Common.{◌≡◌, ℕ, ◌<◌, ◌≤◌, Bool, true, cond, ◌≢◌, List, [], ◌∷◌, map, length, get_or, take, Some, sym, refl, ap, ◌∙◌, subst, ap₂, arith}
use Rattle.std.specs.List.{ContainsAt as Has, AllByRecursion}
use Rattle.std.proofs.lemmas.List.{length-map, length-take-le, get_or-map, get_or_default}
use Rattle.std.proofs.ByRecursion.{All-get_or, All-from_get_or, all-has}
use Rattle.std.proofs.lemmas.Bool.{not-true, not_from_false}
use Rattle.order.specs.declared.monomial.Monomial.{Monomial}
use Rattle.order.specs.Monomials as record_of
use Rattle.order.specs.Monomials.{largest, raise, raised}
use Rattle.order.specs.Laws.{Comparison, OrderLaws}
use Rattle.algebra.specs.Lists.{any}
use Rattle.algebra.specs.Monomial.{Mono, one, times, var, exponent, divides, Among}
use Rattle.algebra.specs.Order.{Ordered}
use Rattle.algebra.specs.Records.{nested, flat, Within, before_by}
use Rattle.algebra.specs.Staircase.{free, sorted}
use Rattle.algebra.proofs.Monomials as monos
use Rattle.algebra.proofs.Records as records
use Rattle.algebra.proofs.Sorting as sorting
use Rattle.algebra.proofs.Staircase as stair
use Rattle.staircase.specs.Sorting.{sorted_by}
use Rattle.staircase.specs.Walk.{Free, Good, Walked}
use Rattle.staircase.specs.Stairs.{Leading, stairs_of}
use Rattle.staircase.proofs.Distinct.{no_longer}
use Rattle.staircase.proofs.Increasing as lists
use Rattle.staircase.proofs.Walking.{raised_is}

module _ (n : ℕ) (leads : List Monomial) (Q : Leading n leads) where
  abbrev corners : List (Mono n)
  corners = map (nested n) leads

  any_nested : (ls : List Monomial) → AllByRecursion (Within n) ls → (m : Monomial) → any (λ (l : Mono n). divides n l (nested n m)) (map (nested n) ls) ≡ any (λ d. record_of.divides d m) ls
  any_nested [] w m = refl
  any_nested (d ∷ ls) w m = ap₂ (λ (b c : Bool). cond b true c) (sym ((records.nested_keeps n Q.few).divisors d m w.0)) (any_nested ls w.1 m)

  free_nested : (m : Monomial) → Free leads m → free n corners (nested n m) ≡ true
  free_nested m f = not_from_false _ (any_nested leads Q.within m ∙ f)

  nested_free : (m : Monomial) → free n corners (nested n m) ≡ true → Free leads m
  nested_free m f = sym (any_nested leads Q.within m) ∙ not-true _ f

  -- a product of a free monomial and a variable is a record
  free_raised : (m : Monomial) → Free leads m → (k : ℕ) → k < n → raised k m ≡ Some (raise k m)
  free_raised m f k kn =
      let s = stair.free_up_small n corners Q.bounded (nested n m) (free_nested m f) k kn k kn in
      let e : exponent n (nested n m) k < largest = omega (arith, s, monos.exp_raise n k kn (nested n m)) in
      raised_is k m (omega (arith, Q.few)) (omega (arith, e, records.exponent_nested n Q.few m k kn))

  fine_good : (l : List Monomial) → Good n leads l → AllByRecursion (lists.Fine n Q.few) l
  fine_good l g = All-from_get_or (lists.Fine n Q.few) l record_of.one (λ i h.
      let w = All-get_or (Within n) l i record_of.one h g.within in
      (w, lists.small_record n Q.few (get_or l i record_of.one) w (stair.free_small n corners Q.bounded _ (free_nested _ (All-get_or (Free leads) l i record_of.one h g.frees)))))

  found_free : (l : List Monomial) → Good n leads l → (t : Mono n) → Among n t (map (nested n) l) → free n corners t ≡ true
  found_free l g t a = let x = lists.nested_among n Q.few l t a in subst (λ (y : Mono n). free n corners y ≡ true) x.2 (free_nested x.0 (all-has (Free leads) l x.0 g.frees x.1))

  -- every free monomial is found, by induction over its variables
  free_found : (l : List Monomial) → Walked n leads l (length l) → (t : Mono n) → free n corners t ≡ true → Among n t (map (nested n) l)
  free_found l w = monos.mono_ind n (λ t. free n corners t ≡ true → Among n t (map (nested n) l)) start step
    where
      ones : nested n record_of.one ≡ one n
      ones = (records.nested_keeps n Q.few).ones

      start : free n corners (one n) ≡ true → Among n (one n) (map (nested n) l)
      start f = subst (λ (y : Mono n). Among n y (map (nested n) l)) ones (lists.among_nested n Q.few l record_of.one (w.start (nested_free record_of.one (subst (λ (y : Mono n). free n corners y ≡ true) (sym ones) f))))

      step : (k : ℕ) → k < n → (t : Mono n) → (free n corners t ≡ true → Among n t (map (nested n) l)) → free n corners (times n (var n k) t) ≡ true → Among n (times n (var n k) t) (map (nested n) l)
      step k kn t ih f =
          let x = lists.nested_among n Q.few l t (ih (stair.free_down n corners t (times n (var n k) t) (monos.divides_raise n k kn t) f)) in
          let m = x.0 in
          let is : nested n (raise k m) ≡ times n (var n k) t = lists.nested_raise n Q.few k kn m ∙ ap (times n (var n k)) x.2 in
          let up = free_raised m (all-has (Free leads) l m w.good.frees x.1) k kn in
          let h = w.closed x.1.0 k (raise k m) x.1.1 kn (ap (raised k) (x.1.2 record_of.one) ∙ up) (nested_free (raise k m) (subst (λ (y : Mono n). free n corners y ≡ true) (sym is) f)) in
          subst (λ (y : Mono n). Among n y (map (nested n) l)) is (lists.among_nested n Q.few l (raise k m) h)

  module _ (cmp : Comparison) (O : OrderLaws cmp) where
    abbrev before : Mono n → Mono n → Bool
    before = before_by cmp n

    ordered : Ordered n (before_by cmp n)
    ordered = records.ordered n Q.few cmp O

    pub staircase_found : (l : List Monomial) → Walked n leads l (length l) → sorted_by cmp l ≡ map (flat n) (stairs_of cmp n leads)
    staircase_found l w = lists.sorted_records n Q.few cmp O l fine (stairs_of cmp n leads) ((stair.staircase-exactly n corners Q.bounded before ordered (sorted n before (map (nested n) l))).0 (record {
      exactly = λ t. (λ a. stair.free_no n corners t (found_free l w.good t (unsorted t a)), λ h. resorted t (free_found l w t (stair.free_yes n corners t h)));
      rising = sorting.sorted-rising n before ordered (map (nested n) l) (lists.small_nested n Q.few l fine);
    }))
      where
        fine : AllByRecursion (lists.Fine n Q.few) l
        fine = fine_good l w.good

        unsorted : (t : Mono n) → Among n t (sorted n (before_by cmp n) (map (nested n) l)) → Among n t (map (nested n) l)
        unsorted t a = monos.has_among n t (map (nested n) l) (sym (sorting.sorted_has n (before_by cmp n) (map (nested n) l) t) ∙ monos.among_has n t _ a)

        resorted : (t : Mono n) → Among n t (map (nested n) l) → Among n t (sorted n (before_by cmp n) (map (nested n) l))
        resorted t a = monos.has_among n t _ (sorting.sorted_has n (before_by cmp n) (map (nested n) l) t ∙ monos.among_has n t (map (nested n) l) a)

    -- the front of a list that holds it, and how long it is
    pub staircase_written : (l : List Monomial) (c : ℕ) → length l ≡ c → Walked n leads l c → (k : ℕ) (after : List Monomial) → k ≤ length after → take k after ≡ sorted_by cmp l → (k ≡ length (stairs_of cmp n leads)) × (take k after ≡ map (flat n) (stairs_of cmp n leads))
    staircase_written l c long w k after h e =
        let is = e ∙ staircase_found l (subst (Walked n leads l) (sym long) w) in
        (sym (length-take-le k after h) ∙ ap length is ∙ length-map (stairs_of cmp n leads) (flat n), is)

    -- different free monomials are no more than the staircase has
    pub found_fewer : (l : List Monomial) → Good n leads l → length l ≤ length (stairs_of cmp n leads)
    found_fewer l g = omega (arith, no_longer (one n) (map (nested n) l) (stairs_of cmp n leads) apart inside, length-map l (nested n))
      where
        read : (i : ℕ) → i < length l → get_or (map (nested n) l) i (one n) ≡ nested n (get_or l i record_of.one)
        read i h = get_or-map (nested n) l i record_of.one (one n) h

        apart : (i j : ℕ) → i < j → j < length (map (nested n) l) → get_or (map (nested n) l) i (one n) ≢ get_or (map (nested n) l) j (one n)
        apart i j ij jl e =
            let jh : j < length l = omega (arith, length-map l (nested n)) in
            let ih : i < length l = omega arith in
            g.apart i j ij jh (lists.nested_once n Q.few _ _ (All-get_or (Within n) l i record_of.one ih g.within) (All-get_or (Within n) l j record_of.one jh g.within) (sym (read i ih) ∙ e ∙ read j jh))

        inside : AllByRecursion (Has (stairs_of cmp n leads)) (map (nested n) l)
        inside = All-from_get_or (Has (stairs_of cmp n leads)) (map (nested n) l) (one n) (λ i h.
            let a = monos.has_among n _ (stairs_of cmp n leads) (stair.stairs_from n corners Q.bounded (before_by cmp n) _ (found_free l g (get_or (map (nested n) l) i (one n)) (i, h, refl))) in
            (a.0, a.1, λ d. get_or_default (stairs_of cmp n leads) a.0 d (one n) a.1 ∙ a.2))
