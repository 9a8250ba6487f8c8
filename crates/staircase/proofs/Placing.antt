-- The places of products: what a place says, and that every product of a staircase monomial and a variable has one.
use Rattle.std.proofs.Common.{◌≡◌, ℕ, ◌+◌, ◌<◌, ◌≤◌, Bool, true, false, ◌≢◌, ◌⊎◌, List, map, length, get_or, set, sym, refl, ap, ◌∙◌, subst, inl, inr, arith, below_more}
use Rattle.std.specs.List.{ContainsAt as Has}
use Rattle.std.proofs.lemmas.List.{length-map, get_or-map, get_or-set_same, get_or-set_other}
use Rattle.std.proofs.ByRecursion.{All-get_or}
use Rattle.std.proofs.lemmas.Bool.{cases_Bool}
use Rattle.order.specs.declared.monomial.Monomial.{Monomial}
use Rattle.order.specs.Monomials as record_of
use Rattle.order.specs.Monomials.{variables, largest, raise}
use Rattle.algebra.specs.Lists.{any}
use Rattle.algebra.specs.Monomial.{Mono, one, times, var, equal, Among}
use Rattle.algebra.specs.Records.{nested, flat, Within, before_by}
use Rattle.algebra.specs.Border.{border}
use Rattle.algebra.proofs.Monomials as monos
use Rattle.algebra.proofs.Records as records
use Rattle.algebra.proofs.Border as edge
use Rattle.linear.specs.declared.step.Place.{Place}
use Rattle.linear.specs.declared.step.Place.TheVariants.{Stair, Border}
use Rattle.staircase.specs.Stairs.{stairs_of}
use Rattle.staircase.specs.Edges.{Raisable}
use Rattle.staircase.specs.Places.{ProductAt, StandsAt, PlaceOf, ProductsPlaced}
use Rattle.staircase.proofs.Increasing as lists
use Rattle.staircase.proofs.Walking.{place_has, place_none, raised_some, raised_is, raised_within}
use Rattle.staircase.proofs.Bordered.{stairs_raisable}

pub stands_has : (stairs edges : List Monomial) (t : Monomial) (p : Place) → StandsAt stairs edges t p → Has stairs t ⊎ Has edges t
stands_has stairs edges t (Stair p) s = inl (place_has stairs t p s)
stands_has stairs edges t (Border c) s = inr (place_has edges t c s.1)

-- one place more
pub placed_more : (k : ℕ) (stairs edges : List Monomial) (out : List Place) (i : ℕ) (p : Place) → i < length out
    → ((j : ℕ) → j < i → (t : Monomial) × ProductAt k stairs j t × StandsAt stairs edges t (get_or out j (Stair 0)))
    → (t : Monomial) × ProductAt k stairs i t × StandsAt stairs edges t p
    → (j : ℕ) → j < i + 1 → (t : Monomial) × ProductAt k stairs j t × StandsAt stairs edges t (get_or (set out i p) j (Stair 0))
placed_more k stairs edges out i p h old new =
    below_more (λ j. (t : Monomial) × ProductAt k stairs j t × StandsAt stairs edges t (get_or (set out i p) j (Stair 0))) i
    (λ j l. let x = old j l in let d : j ≢ i = omega arith in (x.0, x.1, subst (StandsAt stairs edges x.0) (sym (get_or-set_other out i j p (Stair 0) d)) x.2))
    (new.0, new.1, subst (StandsAt stairs edges new.0) (sym (get_or-set_same out i p (Stair 0) h)) new.2)

-- ---- over the monomials of n variables

module _ (n : ℕ) (few : n ≤ variables) where
  among_flat : (l : List (Mono n)) (u : Mono n) → Among n u l → Has (map (flat n) l) (flat n u)
  among_flat l u a = (a.0, subst (λ (x : ℕ). a.0 < x) (sym (length-map l (flat n))) a.1, λ d. get_or-map (flat n) l a.0 (one n) d a.1 ∙ ap (flat n) a.2)

  flat_read : (l : List (Mono n)) (i : ℕ) → i < length l → nested n (get_or (map (flat n) l) i record_of.one) ≡ get_or l i (one n)
  flat_read l i h = ap (nested n) (get_or-map (flat n) l i (one n) record_of.one h) ∙ records.back n few (get_or l i (one n))

  -- the product of x_k and a record of the list is that of x_k and its monomial
  product_of : (S : List (Mono n)) → Raisable n (map (flat n) S) → (k : ℕ) → k < n → (i : ℕ) → i < length S → (t : Monomial) → ProductAt k (map (flat n) S) i t → (nested n t ≡ times n (var n k) (get_or S i (one n))) × (flat n (times n (var n k) (get_or S i (one n))) ≡ t)
  product_of S R k kn i h t up =
      let m = get_or (map (flat n) S) i record_of.one in
      let long : i < length (map (flat n) S) = subst (λ (x : ℕ). i < x) (sym (length-map S (flat n))) h in
      let is : nested n t ≡ times n (var n k) (get_or S i (one n)) = ap (nested n) (raised_some k m t up).2 ∙ lists.nested_raise n few k kn m ∙ ap (times n (var n k)) (flat_read S i h) in
      (is, ap (flat n) (sym is) ∙ records.forth n few t (raised_within n k m t kn (All-get_or (Within n) (map (flat n) S) i record_of.one long R.within) up))

  module _ (S E : List (Mono n)) (R : Raisable n (map (flat n) S)) (k : ℕ) (kn : k < n) where
    place_is : (i : ℕ) → i < length S → (t : Monomial) → ProductAt k (map (flat n) S) i t → (p : Place) → StandsAt (map (flat n) S) (map (flat n) E) t p → PlaceOf n S E (times n (var n k) (get_or S i (one n))) p
    place_is i h t up (Stair p) s =
        let hp : p < length S = omega (arith, s.0, length-map S (flat n)) in
        (hp, sym (flat_read S p hp) ∙ ap (nested n) s.1 ∙ (product_of S R k kn i h t up).0)
    place_is i h t up (Border c) s =
        let x = product_of S R k kn i h t up in
        let hc : c < length E = omega (arith, s.1.0, length-map E (flat n)) in
        (λ a. place_none (map (flat n) S) t s.0 (subst (Has (map (flat n) S)) x.1 (among_flat S _ a)), hc, sym (flat_read E c hc) ∙ ap (nested n) s.1.1 ∙ x.0)

    -- a product outside the list stands in its border
    stands : (before : Mono n → Mono n → Bool) → E ≡ border n before S → (i : ℕ) → i < length (map (flat n) S) → (t : Monomial) × ProductAt k (map (flat n) S) i t × (Has (map (flat n) S) t ⊎ Has (map (flat n) E) t)
    stands before is i h = (raise k m, up, go (cases_Bool (any (equal n u) S)))
      where
        m : Monomial
        m = get_or (map (flat n) S) i record_of.one

        u : Mono n
        u = times n (var n k) (get_or S i (one n))

        hi : i < length S
        hi = omega (arith, length-map S (flat n))

        up : ProductAt k (map (flat n) S) i (raise k (get_or (map (flat n) S) i record_of.one))
        up = raised_is k (get_or (map (flat n) S) i record_of.one) (omega arith) (All-get_or (λ m. (k : ℕ) → k < n → record_of.exponent m k < largest) (map (flat n) S) i record_of.one h R.room k kn)

        same : flat n (times n (var n k) (get_or S i (one n))) ≡ raise k (get_or (map (flat n) S) i record_of.one)
        same = (product_of S R k kn i hi (raise k (get_or (map (flat n) S) i record_of.one)) up).1

        go : (any (equal n (times n (var n k) (get_or S i (one n)))) S ≡ true) ⊎ (any (equal n (times n (var n k) (get_or S i (one n)))) S ≡ false) → Has (map (flat n) S) (raise k (get_or (map (flat n) S) i record_of.one)) ⊎ Has (map (flat n) E) (raise k (get_or (map (flat n) S) i record_of.one))
        go (inl e) = inl (subst (Has (map (flat n) S)) same (among_flat S _ (monos.has_among n _ S e)))
        go (inr e) = inr (subst (Has (map (flat n) E)) same (among_flat E _ (subst (Among n (times n (var n k) (get_or S i (one n)))) (sym is) (monos.has_among n _ (border n before S) (edge.edge_from n before S _ (record { k = k; i = i; kn = kn; within = hi; is = refl; out = e }))))))

pub products_placed : ProductsPlaced
products_placed cmp n leads Q k kn =
    let S = stairs_of cmp n leads in
    let E = border n (before_by cmp n) S in
    let R = (stairs_raisable cmp n leads Q).0 in
    record {
      placeable = λ room h s e. record {
        enough = omega (arith, length-map S (flat n));
        few_stairs = omega (arith, length-map S (flat n));
        few_edges = omega (arith, length-map E (flat n));
        stand = stands n Q.few S E R k kn (before_by cmp n) refl;
      };
      places = λ out placed i h. let x = placed i (subst (λ (a : ℕ). i < a) (sym (length-map S (flat n))) h) in place_is n Q.few S E R k kn i h x.0 x.1 (get_or out i (Stair 0)) x.2;
    }
