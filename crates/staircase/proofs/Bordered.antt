-- The products outside a list of monomials, sorted, are its border.
use Rattle.std.proofs.Common.{◌≡◌, ℕ, ◌+◌, ◌<◌, ◌≤◌, Bool, true, false, ◌≢◌, ◌⊎◌, List, map, length, get_or, take, sym, ap, ◌∙◌, subst, inl, inr, arith}
use mathlib.Core.Bool.{false≢true}
use native.Mathlib.Decide.{ℕ_discrete, dec_lt}
use Rattle.std.specs.List.{ContainsAt as Has, AllByRecursion}
use Rattle.std.proofs.lemmas.List.{length-map, length-take-le, get_or-map, get_or_default}
use Rattle.std.proofs.ByRecursion.{All-get_or, All-from_get_or, all-has, All-weaker, All-map}
use Rattle.std.proofs.lemmas.Bool.{cases_Bool}
use Rattle.order.specs.declared.monomial.Monomial.{Monomial}
use Rattle.order.specs.Monomials as record_of
use Rattle.order.specs.Monomials.{largest, raise}
use Rattle.order.specs.Laws.{Comparison, OrderLaws}
use Rattle.order.specs.Exponents as exponents
use Rattle.algebra.specs.Lists.{any}
use Rattle.algebra.specs.Monomial.{Mono, one, times, var, equal}
use Rattle.algebra.specs.Order.{Small, Ordered}
use Rattle.algebra.specs.Records.{nested, flat, Within, before_by}
use Rattle.algebra.specs.Staircase.{sorted}
use Rattle.algebra.specs.Border.{border}
use Rattle.algebra.proofs.Monomials as monos
use Rattle.algebra.proofs.Records as records
use Rattle.algebra.proofs.Sorting as sorting
use Rattle.algebra.proofs.Staircase as stair
use Rattle.algebra.proofs.Border as edge
use Rattle.algebra.proofs.Border.{Edge}
use Rattle.staircase.specs.Sorting.{sorted_by}
use Rattle.staircase.specs.Stairs.{stairs_of}
use Rattle.staircase.specs.Edges.{Raisable, edges_of, StairsRaisable, Outside, Taken, Edged, Edges}
use Rattle.staircase.proofs.Distinct.{no_longer}
use Rattle.staircase.proofs.Increasing as lists
use Rattle.staircase.proofs.Walking.{raised_some, raised_is, raised_within}

module _ (n : ℕ) (stairs : List Monomial) (Q : Raisable n stairs) where
  abbrev S : List (Mono n)
  S = map (nested n) stairs

  abbrev Product : Monomial → Type 0
  Product t = (k : ℕ) × (i : ℕ) × (k < n) × (i < length stairs) × Outside stairs k i t

  at_within : (i : ℕ) → i < length stairs → Within n (get_or stairs i record_of.one)
  at_within i h = All-get_or (Within n) stairs i record_of.one h Q.within

  at_room : (i : ℕ) → i < length stairs → (k : ℕ) → k < n → record_of.exponent (get_or stairs i record_of.one) k < largest
  at_room i h = All-get_or (λ m. (k : ℕ) → k < n → record_of.exponent m k < largest) stairs i record_of.one h Q.room

  product_fine : (t : Monomial) → Product t → lists.Fine n Q.few t
  product_fine t (k, i, kn, h, o) = (raised_within n k (get_or stairs i record_of.one) t kn (at_within i h) o.0, λ j l. small j (ℕ_discrete k j) (dec_lt j n))
    where
      is : (j : ℕ) → record_of.exponent t j ≡ exponents.unit k j + record_of.exponent (get_or stairs i record_of.one) j
      is j = let r = raised_some k (get_or stairs i record_of.one) t o.0 in ap (λ (x : Monomial). record_of.exponent x j) r.2 ∙ exponents.exponent_raise k r.0 (get_or stairs i record_of.one) j

      small : (j : ℕ) → Dec (k ≡ j) → Dec (j < n) → record_of.exponent t j ≤ largest
      small j (yes e) q = subst (λ (a : ℕ). record_of.exponent t a ≤ largest) e (omega (arith, is k, exponents.unit_at k, at_room i h k kn))
      small j (no d) (yes q) = omega (arith, is j, exponents.unit_off k j d, at_room i h j q)
      small j (no d) (no q) = omega (arith, is j, exponents.unit_off k j d, at_within i h j (omega arith))

  -- a product outside is a border monomial, and the other way round
  product_edge : (t : Monomial) → Product t → Edge n S (nested n t)
  product_edge t p = record { k = p.0; i = p.1; kn = p.2; within = subst (λ (x : ℕ). p.1 < x) (sym (length-map stairs (nested n))) p.3; is = is; out = out (cases_Bool (any (equal n (nested n t)) S)) }
    where
      is : nested n t ≡ times n (var n p.0) (get_or S p.1 (one n))
      is =
          let m = get_or stairs p.1 record_of.one in
          let r = raised_some p.0 m t p.4.0 in
          ap (nested n) r.2 ∙ lists.nested_raise n Q.few p.0 p.2 m ∙ ap (times n (var n p.0)) (sym (get_or-map (nested n) stairs p.1 record_of.one (one n) p.3))

      out : (any (equal n (nested n t)) S ≡ true) ⊎ (any (equal n (nested n t)) S ≡ false) → any (equal n (nested n t)) S ≡ false
      out (inr e) = e
      out (inl e) =
          let x = lists.nested_among n Q.few stairs (nested n t) (monos.has_among n (nested n t) S e) in
          let same : x.0 ≡ t = lists.nested_once n Q.few x.0 t (all-has (Within n) stairs x.0 Q.within x.1) (product_fine t p).0 x.2 in
          absurd (p.4.1 (subst (Has stairs) same x.1))

  edge_product : (u : Mono n) → Edge n S u → (t : Monomial) × Product t × (nested n t ≡ u)
  edge_product u e = (raise e.k m, (e.k, e.i, e.kn, h, (raised_is e.k m (omega (arith, e.kn, Q.few)) (at_room e.i h e.k e.kn), λ q. false≢true (sym e.out ∙ subst (λ (y : Mono n). any (equal n y) S ≡ true) is (monos.among_has n _ S (lists.among_nested n Q.few stairs (raise e.k m) q))))), is)
    where
      m : Monomial
      m = get_or stairs e.i record_of.one

      h : e.i < length stairs
      h = omega (arith, e.within, length-map stairs (nested n))

      is : nested n (raise e.k (get_or stairs e.i record_of.one)) ≡ u
      is = lists.nested_raise n Q.few e.k e.kn (get_or stairs e.i record_of.one) ∙ ap (times n (var n e.k)) (sym (get_or-map (nested n) stairs e.i record_of.one (one n) h)) ∙ sym e.is

  edge_small : (u : Mono n) → Edge n S u → Small n u
  edge_small u e = let x = edge_product u e in subst (Small n) x.2 ((records.nested_keeps n Q.few).bounds x.0 (product_fine x.0 x.1).1)

  module _ (cmp : Comparison) (O : OrderLaws cmp) where
    abbrev before : Mono n → Mono n → Bool
    before = before_by cmp n

    ordered : Ordered n (before_by cmp n)
    ordered = records.ordered n Q.few cmp O

    module _ (l : List Monomial) (each : AllByRecursion Product l) where
      fine : AllByRecursion (lists.Fine n Q.few) l
      fine = All-weaker Product (lists.Fine n Q.few) product_fine l each

      abbrev R : List (Mono n)
      R = sorted n before (map (nested n) l)

      edges : AllByRecursion (Edge n S) (sorted n (before_by cmp n) (map (nested n) l))
      edges = sorting.all_sorted n (before_by cmp n) (Edge n S) (map (nested n) l) (All-map (Edge n S) (nested n) l (All-weaker Product (λ t. Edge n S (nested n t)) product_edge l each))

      smalls : AllByRecursion (Small n) (map (nested n) l)
      smalls = lists.small_nested n Q.few l fine

      border-sorted : ((t : Monomial) → Product t → Has l t) → sorted n (before_by cmp n) (map (nested n) l) ≡ edges_of cmp n stairs
      border-sorted all = sorting.rising-equal n before ordered R (edges_of cmp n stairs) (sorting.all_sorted n before (Small n) _ smalls) (All-weaker (Edge n S) (Small n) edge_small (edges_of cmp n stairs) (edge.edge_to n before S)) (sorting.sorted-rising n before ordered _ smalls) (edge.edge_rising n before S ordered edge_small)
          (λ t h. edge.edge_from n before S t (sorting.has_all n (Edge n S) R edges t h))
          (λ t h.
          let x = edge_product t (edge.edge_of n before S t h) in
          sorting.sorted_has n before (map (nested n) l) t ∙ subst (λ (y : Mono n). any (equal n y) (map (nested n) l) ≡ true) x.2 (monos.among_has n _ (map (nested n) l) (lists.among_nested n Q.few l x.0 (all x.0 x.1))))

      border-found : ((t : Monomial) → Product t → Has l t) → sorted_by cmp l ≡ map (flat n) (edges_of cmp n stairs)
      border-found all = lists.sorted_records n Q.few cmp O l fine (edges_of cmp n stairs) (border-sorted all)

      border-fewer : length (sorted_by cmp l) ≤ length (edges_of cmp n stairs)
      border-fewer = omega (arith, no_longer (one n) R (edges_of cmp n stairs) apart inside, ap length (lists.nested_sorted n Q.few cmp O l fine), length-map (sorted_by cmp l) (nested n))
        where
          apart : (i j : ℕ) → i < j → j < length R → get_or R i (one n) ≢ get_or R j (one n)
          apart i j ij h e =
              let small = All-get_or (Small n) R j (one n) h (sorting.all_sorted n before (Small n) _ smalls) in
              let same : before (get_or R j (one n)) (get_or R j (one n)) ≡ true = subst (λ (y : Mono n). before y (get_or R j (one n)) ≡ true) e (sorting.rising_at n before R (sorting.sorted-rising n before ordered _ smalls) i j ij h) in
              ordered.not_both _ _ small small same same

          inside : AllByRecursion (Has (edges_of cmp n stairs)) R
          inside = All-weaker (Edge n S) (Has (edges_of cmp n stairs)) (λ t e. let a = monos.has_among n t (edges_of cmp n stairs) (edge.edge_from n before S t e) in (a.0, a.1, λ d. get_or_default (edges_of cmp n stairs) a.0 d (one n) a.1 ∙ a.2)) R edges

    products : (K I : ℕ) (l : List Monomial) → ((k i : ℕ) → Taken stairs K I k i → (k < n) × (i < length stairs)) → Edged stairs K I l → AllByRecursion Product l
    products K I l covered x = All-weaker _ Product (λ t y. let q = covered y.0 y.1 y.2 in (y.0, y.1, q.0, q.1, y.3)) l x.each

    -- the products of all n variables, in order, are the border
    pub border_is : (e : List Monomial) → Edges cmp stairs n 0 e → e ≡ map (flat n) (edges_of cmp n stairs)
    border_is e (l, is, x) = is ∙ border-found l (products n 0 l covered x) (λ t p. x.all p.0 p.1 t (inl (p.2, p.3)) p.4)
      where
        covered : (k i : ℕ) → Taken stairs n 0 k i → (k < n) × (i < length stairs)
        covered k i (inl y) = y
        covered k i (inr y) = absurd (omega (arith, y.1))

    -- the front of a list that holds them, and how long it is
    pub border_written : (k : ℕ) (after : List Monomial) → k ≤ length after → Edges cmp stairs n 0 (take k after) → (k ≡ length (edges_of cmp n stairs)) × (take k after ≡ map (flat n) (edges_of cmp n stairs))
    border_written k after h e = let is = border_is (take k after) e in (sym (length-take-le k after h) ∙ ap length is ∙ length-map (edges_of cmp n stairs) (flat n), is)

    -- what was taken on the way is no longer than the border
    pub border_longer : (K I : ℕ) (e : List Monomial) → K < n → I ≤ length stairs → Edges cmp stairs K I e → length e ≤ length (edges_of cmp n stairs)
    border_longer K I e kn h (l, is, x) = subst (λ (y : List Monomial). length y ≤ length (edges_of cmp n stairs)) (sym is) (border-fewer l (products K I l covered x))
      where
        covered : (k i : ℕ) → Taken stairs K I k i → (k < n) × (i < length stairs)
        covered k i (inl y) = (omega (arith, y.0), y.1)
        covered k i (inr y) = (omega (arith, y.0), omega (arith, y.1))

-- a staircase is a list of free monomials, whose products are small
pub stairs_raisable : StairsRaisable
stairs_raisable cmp n leads Q = (record { few = Q.few; within = All-map (Within n) (flat n) S (All-from_get_or (λ m. Within n (flat n m)) S (one n) (λ i h. (records.nested_keeps n Q.few).within (get_or S i (one n)))); room = All-map (λ m. (k : ℕ) → k < n → record_of.exponent m k < largest) (flat n) S (All-from_get_or (λ m. (k : ℕ) → k < n → record_of.exponent (flat n m) k < largest) S (one n) room) }, ap (border n (before_by cmp n)) (lists.nested_flat n Q.few S))
  where
    S : List (Mono n)
    S = stairs_of cmp n leads

    room : (i : ℕ) → i < length (stairs_of cmp n leads) → (k : ℕ) → k < n → record_of.exponent (flat n (get_or (stairs_of cmp n leads) i (one n))) k < largest
    room i h k kn =
        let m = get_or (stairs_of cmp n leads) i (one n) in
        let s = stair.free_up_small n (map (nested n) leads) Q.bounded m (stair.stair-free n (map (nested n) leads) Q.bounded (before_by cmp n) i h) k kn k kn in
        omega (arith, s, monos.exp_raise n k kn m, records.exponent_flat n Q.few m k)
