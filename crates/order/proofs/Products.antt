-- What an order's laws give for products and divisors.
use Rattle.std.proofs.Common.{◌≡◌, ℕ, zero, suc, ◌<◌, true, ◌≢◌, ◌⊎◌, Less, sym, refl, ap, ◌∙◌, subst, ap₂, inl, inr, arith}
use native.Mathlib.Decide.{ℕ_discrete}
use Rattle.std.specs.Ordering.{ordering_reverse}
use Rattle.order.specs.declared.monomial.Monomial.{Monomial}
use Rattle.order.specs.Monomials.{variables, Small, one, times, over, raise, divides}
use Rattle.order.specs.Laws.{Comparison, OrderLaws, Falling}
use Rattle.order.specs.Exponents.{one_times, raise_times, over_times, small_raise, small_factor, divides_to, divides_from, exponent_one}
use Rattle.order.specs.Variables.{by_variables}

module _ (cmp : Comparison) (L : OrderLaws cmp) where
  pub below_raised : (k : ℕ) → k < variables → (m : Monomial) → Small (raise k m) → cmp m (raise k m) ≡ Less
  below_raised k l m s = L.exchanged (raise k m) m s (small_raise k l m s) ∙ ap ordering_reverse (L.above k l m s)

  Keeps : Monomial → Type 0
  Keeps c = (a b : Monomial) → Small (times c a) → Small (times c b) → cmp (times c a) (times c b) ≡ cmp a b

  pub product_keeps : (c a b : Monomial) → Small (times c a) → Small (times c b) → cmp (times c a) (times c b) ≡ cmp a b
  unfolding Keeps
  product_keeps = by_variables Keeps (λ a b s t. ap₂ cmp (one_times a) (one_times b)) step
    where
      step : (k : ℕ) → k < variables → (c : Monomial) → Keeps c → Keeps (raise k c)
      step k l c ih a b s t =
          let s' = subst Small (raise_times k c a) s in
          let t' = subst Small (raise_times k c b) t in
          ap₂ cmp (raise_times k c a) (raise_times k c b) ∙ L.raised k l (times c a) (times c b) s' t' ∙ ih a b (small_raise k l (times c a) s') (small_raise k l (times c b) t')

  Above : Monomial → Type 0
  Above c = (a : Monomial) → Small (times c a) → (c ≡ one) ⊎ (cmp a (times c a) ≡ Less)

  product_above : (c : Monomial) → Above c
  unfolding Above
  product_above = by_variables Above (λ a s. inl refl) step
    where
      step : (k : ℕ) → k < variables → (c : Monomial) → Above c → Above (raise k c)
      step k l c ih a s = inr (ap (cmp a) (raise_times k c a) ∙ go (ih a t))
        where
          s' : Small (raise k (times c a))
          s' = subst Small (raise_times k c a) s

          t : Small (times c a)
          t = small_raise k l (times c a) s'

          up : cmp (times c a) (raise k (times c a)) ≡ Less
          up = below_raised k l (times c a) s'

          go : (c ≡ one) ⊎ (cmp a (times c a) ≡ Less) → cmp a (raise k (times c a)) ≡ Less
          go (inl e) = ap (λ (m : Monomial). cmp m (raise k (times c a))) (sym (ap (λ (m : Monomial). times m a) e ∙ one_times a)) ∙ up
          go (inr h) = L.transitive a (times c a) (raise k (times c a)) (small_factor c a t) t s' h up

  pub divisor_less : (a b : Monomial) → Small b → divides a b ≡ true → a ≢ b → cmp a b ≡ Less
  unfolding Above
  divisor_less a b s e d = go (product_above (over b a) a (subst Small (sym whole) s))
    where
      whole : times (over b a) a ≡ b
      whole = over_times a b (divides_to a b e)

      go : (over b a ≡ one) ⊎ (cmp a (times (over b a) a) ≡ Less) → cmp a b ≡ Less
      go (inl q) = absurd (d (sym (one_times a) ∙ sym (ap (λ (m : Monomial). times m a) q) ∙ whole))
      go (inr h) = sym (ap (cmp a) whole) ∙ h

  pub one_least : (m : Monomial) → Small m → m ≢ one → cmp one m ≡ Less
  one_least m s d = divisor_less one m s (divides_from one m (λ k l. omega (arith, exponent_one k))) (λ e. d (sym e))

  -- each less than the one before it: by transitivity less than all before it
  pub falls_throughout : (at : ℕ → Monomial) (n : ℕ) → ((k : ℕ) → k < n → Small (at k)) → ((k : ℕ) → suc k < n → cmp (at (suc k)) (at k) ≡ Less) → Falling cmp at n
  falls_throughout at n small next i zero l h = absurd (omega arith)
  falls_throughout at n small next i (suc j) l h = go (ℕ_discrete i j) (λ q. falls_throughout at n small next i j q (omega arith))
    where
      go : Dec (i ≡ j) → (i < j → cmp (at j) (at i) ≡ Less) → cmp (at (suc j)) (at i) ≡ Less
      go (yes e) before = ap (λ (k : ℕ). cmp (at (suc j)) (at k)) e ∙ next j h
      go (no d) before = L.transitive (at (suc j)) (at j) (at i) (small (suc j) h) (small j (omega arith)) (small i (omega arith)) (next j h) (before (omega arith))
