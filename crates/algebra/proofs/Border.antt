-- The border: the computed list holds exactly the products of a staircase monomial and a variable that are outside it.
use Rattle.std.proofs.Common.{◌≡◌, ℕ, ◌<◌, Bool, true, false, not, ◌⊎◌, ◌↔◌, List, map, length, get_or, filter, sym, refl, ◌∙◌, subst, inl, inr}
use mathlib.Core.Bool.{false≢true}
use Rattle.std.specs.List.{AllByRecursion}
use Rattle.std.proofs.ByRecursion.{All-from_get_or, All-map, All-weaker}
use Rattle.std.proofs.lemmas.Bool.{not-true, not_from_false, cases_Bool}
use Rattle.algebra.specs.Lists.{any, joined}
use Rattle.algebra.specs.Monomial.{Mono, one, times, equal, var, Among}
use Rattle.algebra.specs.Order.{Small, Ordered, Rising}
use Rattle.algebra.specs.Staircase.{Bounded, staircase}
use Rattle.algebra.specs.Border.{border, IsBorder}
use Rattle.algebra.proofs.Lists as lists
use Rattle.algebra.proofs.Monomials as monos
use Rattle.algebra.proofs.Monomials.{Has}
use Rattle.algebra.proofs.Sorting as sorting
use Rattle.algebra.proofs.Staircase as stair

-- t is x_k times a member of S and no member
pub record Edge (n : ℕ) (S : List (Mono n)) (t : Mono n) : Type 0 where
  pub k : ℕ
  pub i : ℕ
  pub kn : k < n
  pub within : i < length S
  pub is : t ≡ times n (var n k) (get_or S i (one n))
  pub out : any (equal n t) S ≡ false

module _ (n : ℕ) (before : Mono n → Mono n → Bool) (S : List (Mono n)) where
  abbrev E : List (Mono n)
  E = border n before S

  products : AllByRecursion (Edge n S) (filter (λ m. not (any (equal n m) S)) (joined n (λ k. map (times n (var n k)) S)))
  products =
      All-weaker _ (Edge n S)
      (λ t x. let y = x.0 in record { k = y.0; i = y.1; kn = y.2; within = y.3; is = y.4; out = not-true _ x.1 })
      _
      (lists.all_kept (λ t. (k : ℕ) × (i : ℕ) × (k < n) × (i < length S) × (t ≡ times n (var n k) (get_or S i (one n)))) _ _
      (lists.all_joined _ n _ (λ k l. All-map _ (times n (var n k)) S (All-from_get_or (λ m. (k' : ℕ) × (i : ℕ) × (k' < n) × (i < length S) × (times n (var n k) m ≡ times n (var n k') (get_or S i (one n)))) S (one n) (λ i q. (k, i, l, q, refl))))))

  pub edge_to : AllByRecursion (Edge n S) E
  edge_to = sorting.all_sorted n before (Edge n S) _ products

  pub edge_from : (t : Mono n) → Edge n S t → Has n t E
  edge_from t e =
      sorting.sorted_has n before _ t
      ∙ sorting.has_kept n (λ m. not (any (equal n m) S)) _ t
      (lists.any_joined (equal n t) n _ e.k e.kn (subst (λ (x : Mono n). Has n x (map (times n (var n e.k)) S)) (sym e.is) (sorting.has_map n (times n (var n e.k)) S e.i e.within)))
      (not_from_false _ e.out)

  pub edge_of : (t : Mono n) → Has n t E → Edge n S t
  edge_of t h = sorting.has_all n (Edge n S) E edge_to t h

  module _ (O : Ordered n before) (small : (t : Mono n) → Edge n S t → Small n t) where
    pub edge_rising : Rising n before E
    edge_rising = sorting.sorted-rising n before O _ (All-weaker _ _ small _ products)

    pub is_border : IsBorder n before S E
    is_border = record { exactly = λ t. (there t, back t); rising = edge_rising }
      where
        there : (t : Mono n) → Among n t E → ((k : ℕ) × (i : ℕ) × (k < n) × (i < length S) × (t ≡ times n (var n k) (get_or S i (one n)))) × (Among n t S → ⊥)
        there t x = let e = edge_of t (monos.among_has n t E x) in ((e.k, e.i, e.kn, e.within, e.is), λ y. false≢true (sym e.out ∙ monos.among_has n t S y))

        back : (t : Mono n) → ((k : ℕ) × (i : ℕ) × (k < n) × (i < length S) × (t ≡ times n (var n k) (get_or S i (one n)))) × (Among n t S → ⊥) → Among n t E
        back t x = go (cases_Bool (any (equal n t) S))
          where
            go : (any (equal n t) S ≡ true) ⊎ (any (equal n t) S ≡ false) → Among n t E
            go (inl h) = absurd (x.1 (monos.has_among n t S h))
            go (inr h) = monos.has_among n t E (edge_from t (record { k = x.0.0; i = x.0.1; kn = x.0.2; within = x.0.3; is = x.0.4; out = h }))

    -- there is no other
    only_border : (R : List (Mono n)) → IsBorder n before S R → R ≡ E
    only_border R Q = sorting.rising-equal n before O R E (All-weaker _ _ small R edges) (All-weaker _ _ small E edge_to) Q.rising edge_rising (λ t h. monos.among_has n t E ((is_border.exactly t).1 ((Q.exactly t).0 (monos.has_among n t R h)))) (λ t h. monos.among_has n t R ((Q.exactly t).1 ((is_border.exactly t).0 (monos.has_among n t E h))))
      where
        edges : AllByRecursion (Edge n S) R
        edges = All-from_get_or (Edge n S) R (one n) (λ i l. edge_of _ (monos.among_has n _ E ((is_border.exactly _).1 ((Q.exactly _).0 (i, l, refl)))))

    pub border_exactly : (R : List (Mono n)) → IsBorder n before S R ↔ (R ≡ E)
    border_exactly R = (only_border R, λ e. subst (IsBorder n before S) (sym e) is_border)

-- the border monomials of a computed staircase are small
pub edge_small : (n : ℕ) (before : Mono n → Mono n → Bool) (leads : List (Mono n)) → Bounded n leads → (t : Mono n) → Edge n (staircase n before leads) t → Small n t
edge_small n before leads Q t e = subst (Small n) (sym e.is) (stair.free_up_small n leads Q _ (stair.stair-free n leads Q before e.i e.within) e.k e.kn)
