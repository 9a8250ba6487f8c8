-- The products outside a list, one more at a time.
use Rattle.std.proofs.Common.{◌≡◌, ℕ, ◌+◌, ◌<◌, ◌⊎◌, Bool, true, false, not, List, [], ◌∷◌, length, get_or, Some, None, Option, MatchOption, is_some, sym, refl, ap, ◌∙◌, subst, inl, inr, add-one, arith}
use native.Mathlib.Decide.{ℕ_discrete, dec_lt}
use Rattle.std.specs.List.{ContainsAt as Has}
use Rattle.std.specs.Bool.{then_some}
use Rattle.std.proofs.lemmas.Option.{none-some, same_Some}
use Rattle.std.proofs.ByRecursion.{All-weaker}
use Rattle.order.specs.declared.monomial.Monomial.{Monomial}
use Rattle.order.specs.Monomials.{one, raised}
use Rattle.order.specs.Laws.{Comparison}
use Rattle.staircase.specs.Search.{FirstPlace}
use Rattle.staircase.specs.Sorting.{inserted_by, sorted_by}
use Rattle.staircase.specs.Edges.{Outside, Taken, Edged, Edges}
use Rattle.staircase.proofs.Walking.{place_some, place_nowhere}

-- a product that is kept where it does not stand in the list
module _ (l : List Monomial) (k : ℕ) (m : Monomial) where
  abbrev pub Kept : Option Monomial → Type 0
  Kept r = MatchOption r ((t : Monomial) → raised k m ≡ Some t → Has l t) (λ t. (raised k m ≡ Some t) × (Has l t → ⊥))

  pub kept_outside : (u r : Option Monomial) → u ≡ raised k m → MatchOption u (r ≡ None) (λ t. (b : Bool) × ((p : Option ℕ) × FirstPlace l t p × (is_some p ≡ not b)) × (r ≡ then_some b t)) → Kept r
  kept_outside None r e h = subst Kept (sym h) (λ t f. absurd (none-some t (e ∙ f)))
  kept_outside (Some t) r e (true, (p, q, s), is) = subst Kept (sym is) (sym e, place_nowhere l t p q (sym s))
  kept_outside (Some t) r e (false, (p, q, s), is) = subst Kept (sym is) (λ u f. subst (Has l) (same_Some t u (e ∙ f)) (place_some l t p q (sym s)))

module _ (cmp : Comparison) (stairs : List Monomial) where
  pub edges_none : Edges cmp stairs 0 0 []
  unfolding sorted_by
  edges_none = ([], refl, record { each = tt; all = λ k i t h. none k i t h })
    where
      none : (k i : ℕ) (t : Monomial) → Taken stairs 0 0 k i → Outside stairs k i t → Has [] t
      none k i t (inl x) = absurd (omega (arith, x.0))
      none k i t (inr x) = absurd (omega (arith, x.1))

  -- what was taken stays taken one place on, and only that place is new
  wider : (K I k i : ℕ) → Taken stairs K I k i → Taken stairs K (I + 1) k i
  wider K I k i (inl x) = inl x
  wider K I k i (inr x) = inr (x.0, omega (arith, x.1))

  newest : (K I k i : ℕ) → Taken stairs K (I + 1) k i → Taken stairs K I k i ⊎ ((k ≡ K) × (i ≡ I))
  newest K I k i (inl x) = inl (inl x)
  newest K I k i (inr x) = go (ℕ_discrete i I)
    where
      go : Dec (i ≡ I) → Taken stairs K I k i ⊎ ((k ≡ K) × (i ≡ I))
      go (yes e) = inr (x.0, e)
      go (no d) = inl (inr (x.0, omega (arith, x.1)))

  one_more : (K I : ℕ) (l r : List Monomial) → ((t : Monomial) → Has l t → Has r t) → ((t : Monomial) → Outside stairs K I t → Has r t) → Edged stairs K I l → (k i : ℕ) (t : Monomial) → Taken stairs K (I + 1) k i → Outside stairs k i t → Has r t
  one_more K I l r old new e k i t h o = go (newest K I k i h)
    where
      go : Taken stairs K I k i ⊎ ((k ≡ K) × (i ≡ I)) → Has r t
      go (inl x) = old t (e.all k i t x o)
      go (inr x) = new t (subst (λ (a : ℕ). Outside stairs a I t) x.0 (subst (λ (a : ℕ). Outside stairs k a t) x.1 o))

  pub edges_skip : (K I : ℕ) (e : List Monomial) → ((t : Monomial) → raised K (get_or stairs I one) ≡ Some t → Has stairs t) → Edges cmp stairs K I e → Edges cmp stairs K (I + 1) e
  edges_skip K I e none (l, is, x) = (
    l,
    is,
    record {
      each = All-weaker _ _ (λ t y. (y.0, y.1, wider K I y.0 y.1 y.2, y.3)) l x.each;
      all = one_more K I l l (λ t h. h) (λ t o. absurd (o.1 (none t o.0))) x;
    },
  )

  pub edges_more : (K I : ℕ) (e : List Monomial) (t : Monomial) → Outside stairs K I t → Edges cmp stairs K I e → Edges cmp stairs K (I + 1) (inserted_by cmp t e)
  unfolding sorted_by
  edges_more K I e t o (l, is, x) = (
    t ∷ l,
    ap (inserted_by cmp t) is,
    record {
      each = ((K, I, inr (refl, omega arith), o), All-weaker _ _ (λ u y. (y.0, y.1, wider K I y.0 y.1 y.2, y.3)) l x.each);
      all = one_more K I l (t ∷ l) (λ u h. later u h) (λ u p. here u p) x;
    },
  )
    where
      later : (u : Monomial) → Has l u → Has (t ∷ l) u
      later u h = (h.0 + 1, omega (arith, h.1), λ d. rw add-one (h.2 d))

      here : (u : Monomial) → Outside stairs K I u → Has (t ∷ l) u
      here u p = (0, omega arith, λ d. same)
        where
          same : t ≡ u
          same = let a = o.0 in let b = p.0 in cc

  -- all places of x_K are those before the first of the next variable
  pub edges_next : (K : ℕ) (e : List Monomial) → Edges cmp stairs K (length stairs) e → Edges cmp stairs (K + 1) 0 e
  edges_next K e (l, is, x) = (
    l,
    is,
    record {
      each = All-weaker _ _ (λ t y. (y.0, y.1, there y.0 y.1 y.2, y.3)) l x.each;
      all = λ k i t h. x.all k i t (back k i h);
    },
  )
    where
      there : (k i : ℕ) → Taken stairs K (length stairs) k i → Taken stairs (K + 1) 0 k i
      there k i (inl y) = inl (omega (arith, y.0), y.1)
      there k i (inr y) = inl (omega (arith, y.0), y.1)

      back : (k i : ℕ) → Taken stairs (K + 1) 0 k i → Taken stairs K (length stairs) k i
      back k i (inr y) = absurd (omega (arith, y.1))
      back k i (inl y) = go (dec_lt k K)
        where
          go : Dec (k < K) → Taken stairs K (length stairs) k i
          go (yes q) = inl (q, y.1)
          go (no q) = inr (omega (arith, y.0), y.1)
