-- Moving exponents: a rearrangement carries the laws of an order over.
use Rattle.std.specs.Prelude.{◌≡◌, ℕ, zero, suc, ◌+◌, ◌-◌, ◌<◌, ◌≤◌, Bool, true, false, cond, not, ◌&&◌, T, ◌≢◌, Some, None, Ok, Err, Option, Result, ◌==◌, refl}
use Rattle.std.proofs.Math.Path.{sym, ap}
use Rattle.std.proofs.Common.{◌∙◌, ap₂, subst, arith}
use Rattle.std.proofs.Math.Decide.{ℕ_discrete, dec_lt}
use Rattle.std.proofs.Math.Dec.{T_prop}
use Rattle.std.proofs.lemmas.Bool.Decides.{nat_tests}
use Rattle.std.proofs.lemmas.Bool.{and_parts}
use Rattle.order.specs.declared.monomial.Monomial.{Monomial}
use Rattle.order.specs.declared.rearrangement.Rearrangement.{Rearrangement}
use Rattle.order.specs.declared.renumbered.Renumbered.{Renumbered}
use Rattle.order.specs.declared.fault.OrderFault.{OrderFault}
use Rattle.order.specs.Monomials.{variables, largest, Small, exponent, raise}
use Rattle.order.specs.Laws.{Comparison, OrderLaws}
use Rattle.order.specs.Rearrangements.{place, in_range, fresh, rearranges, arriving, moved, rearrangement, reversal}
use Rattle.order.specs.Renumberings.{renumbers, renumbered, renumbered_if}
use Rattle.order.specs.Exponents.{exponent_monomial, same_exponents, exponent_raise, every_to, unit, unit_at, unit_off}

T_true : (b : Bool) → T b → b ≡ true
T_true true t = refl
T_true false t = absurd t

-- ---- the places that a rearrangement names

module _ (s : Rearrangement) (ok : rearranges s ≡ true) where
  named : (k : ℕ) → k < variables → (fresh s k ≡ true) × (in_range (place s k) ≡ true)
  unfolding rearranges
  named k l = and_parts (fresh s k) (in_range (place s k)) (every_to variables (λ j. fresh s j && in_range (place s j)) ok k l)

  pub place_within : (k : ℕ) → k < variables → (0 < place s k) × (place s k ≤ variables)
  place_within k l = let t = (named k l).1 in (grind (arith, nat_tests), grind (arith, nat_tests))

  before : (j k : ℕ) → j < k → k < variables → place s j ≢ place s k
  unfolding fresh
  before j k p l e = let t = every_to k (λ i. not (place s i == place s k)) (named k l).0 j p in grind (arith, nat_tests)

  pub place_once : (j k : ℕ) → j < variables → k < variables → place s j ≡ place s k → j ≡ k
  place_once j k p q e = go (dec_lt j k) (dec_lt k j)
    where
      go : Dec (j < k) → Dec (k < j) → j ≡ k
      go (yes l) m = absurd (before j k l q e)
      go (no l) (yes m) = absurd (before k j m p (sym e))
      go (no l) (no m) = omega arith

-- ---- what arrives at a place

arriving_same : (n : ℕ) (s : Rearrangement) (a b : Monomial) (p : ℕ) → ((i : ℕ) → i < n → place s i ≡ p → exponent a i ≡ exponent b i) → arriving n s a p ≡ arriving n s b p
unfolding arriving
arriving_same zero s a b p h = refl
arriving_same (suc n) s a b p h = go (ℕ_discrete (place s n) p) (arriving_same n s a b p (λ i l. h i (omega arith)))
  where
    go : Dec (place s n ≡ p) → arriving n s a p ≡ arriving n s b p → cond (place s n == p) (exponent a n) (arriving n s a p) ≡ cond (place s n == p) (exponent b n) (arriving n s b p)
    go (yes e) ih = let here = h n (omega arith) e in grind (arith, nat_tests)
    go (no d) ih = grind (arith, nat_tests)

arriving_small : (n : ℕ) (s : Rearrangement) (m : Monomial) (p : ℕ) → n ≤ variables → Small m → arriving n s m p ≤ largest
unfolding arriving
arriving_small zero s m p l h = omega arith
arriving_small (suc n) s m p l h = let here = h n (omega arith) in let ih = arriving_small n s m p (omega arith) h in grind (arith, nat_tests)

pub small_moved : (s : Rearrangement) (m : Monomial) → Small m → Small (moved s m)
unfolding moved
small_moved s m h k l = omega (arith, exponent_monomial (λ j. arriving variables s m (suc j)) k l, arriving_small variables s m (suc k) (omega arith) h)

module _ (s : Rearrangement) (ok : rearranges s ≡ true) where
  arrives_below : (n : ℕ) → n ≤ variables → (m : Monomial) (k : ℕ) → k < n → arriving n s m (place s k) ≡ exponent m k
  unfolding arriving
  arrives_below zero b m k l = absurd (omega arith)
  arrives_below (suc n) b m k l = go (ℕ_discrete k n) (λ q. arrives_below n (omega arith) m k q)
    where
      go : Dec (k ≡ n) → (k < n → arriving n s m (place s k) ≡ exponent m k) → cond (place s n == place s k) (exponent m n) (arriving n s m (place s k)) ≡ exponent m k
      go (yes e) ih = let p = ap (place s) e in let x = ap (exponent m) e in grind (arith, nat_tests)
      go (no d) ih =
          let apart : place s n ≢ place s k = λ e. d (sym (place_once s ok n k (omega arith) (omega arith) e)) in
          let rest = ih (omega arith) in
          grind (arith, nat_tests)

  pub arrives : (m : Monomial) (k : ℕ) → k < variables → arriving variables s m (place s k) ≡ exponent m k
  arrives m k l = arrives_below variables (omega arith) m k l

  -- exponent k goes to the place named for k
  pub moves : (m : Monomial) (k : ℕ) → k < variables → exponent (moved s m) (place s k - 1) ≡ exponent m k
  unfolding moved
  moves m k l =
      let w = place_within s ok k l in
      exponent_monomial (λ j. arriving variables s m (suc j)) (place s k - 1) (omega (arith, w.0, w.1)) ∙ ap (arriving variables s m) (omega (arith, w.0)) ∙ arrives m k l

  pub moved_once : (a b : Monomial) → moved s a ≡ moved s b → a ≡ b
  moved_once a b e = same_exponents a b (λ k l. sym (moves a k l) ∙ ap (λ (m : Monomial). exponent m (place s k - 1)) e ∙ moves b k l)

  -- the variable k goes there too
  pub moved_raise : (k : ℕ) → k < variables → (m : Monomial) → moved s (raise k m) ≡ raise (place s k - 1) (moved s m)
  unfolding moved
  moved_raise k l m = same_exponents _ _ (λ j q. exponent_monomial (λ j. arriving variables s (raise k m) (suc j)) j q ∙ go j (ℕ_discrete (place s k) (suc j)) ∙ sym (exponent_raise (place s k - 1) to (moved s m) j ∙ ap (λ (x : ℕ). unit (place s k - 1) j + x) (exponent_monomial (λ j. arriving variables s m (suc j)) j q)))
    where
      to : place s k - 1 < variables
      to = omega (arith, (place_within s ok k l).0, (place_within s ok k l).1)

      go : (j : ℕ) → Dec (place s k ≡ suc j) → arriving variables s (raise k m) (suc j) ≡ unit (place s k - 1) j + arriving variables s m (suc j)
      go j (yes e) =
          let at = arrives (raise k m) k l in
          let was = arrives m k l in
          let up : exponent (raise k m) k ≡ suc (exponent m k) = omega (arith, exponent_raise k l m k, unit_at k) in
          let here : place s k - 1 ≡ j = omega arith in
          let one : unit (place s k - 1) j ≡ 1 = ap (λ (i : ℕ). unit i j) here ∙ unit_at j in
          sym (ap (arriving variables s (raise k m)) e) ∙ at ∙ up ∙ ap suc (sym was ∙ ap (arriving variables s m) e) ∙ omega arith
      go j (no d) =
          let off : unit (place s k - 1) j ≡ 0 = unit_off (place s k - 1) j (λ e. d (omega (arith, (place_within s ok k l).0))) in
          arriving_same variables s (raise k m) m (suc j) (λ i q e. omega (arith, exponent_raise k l m i, unit_off k i (λ r. d (ap (place s) r ∙ e)))) ∙ omega arith

-- ---- the laws

pub renumbered_laws : (s : Rearrangement) → T (rearranges s) → (cmp : Comparison) → OrderLaws cmp → OrderLaws (renumbers cmp s)
renumbered_laws s t cmp L = record {
  self = λ a p. L.self (moved s a) (small a p);
  equal = λ a b p q e. moved_once s ok a b (L.equal (moved s a) (moved s b) (small a p) (small b q) e);
  exchanged = λ a b p q. L.exchanged (moved s a) (moved s b) (small a p) (small b q);
  transitive = λ a b c p q r. L.transitive (moved s a) (moved s b) (moved s c) (small a p) (small b q) (small c r);
  raised = λ k l a b p q.
      ap₂ cmp (moved_raise s ok k l a) (moved_raise s ok k l b) ∙ L.raised (place s k - 1) (to k l) (moved s a) (moved s b) (over k l a p) (over k l b q);
  above = λ k l a p. ap (λ (m : Monomial). cmp m (moved s a)) (moved_raise s ok k l a) ∙ L.above (place s k - 1) (to k l) (moved s a) (over k l a p);
}
  where
    ok : rearranges s ≡ true
    ok = T_true _ t

    small : (m : Monomial) → Small m → Small (moved s m)
    small m = small_moved s m

    to : (k : ℕ) → k < variables → place s k - 1 < variables
    to k l = omega (arith, (place_within s ok k l).0, (place_within s ok k l).1)

    over : (k : ℕ) → k < variables → (m : Monomial) → Small (raise k m) → Small (raise (place s k - 1) (moved s m))
    over k l m p = subst Small (moved_raise s ok k l m) (small (raise k m) p)

-- ---- a renumbered order is its parts

pub renumbered_made : {O : Type 0} (o : O) (s : Rearrangement) (ok : T (rearranges s)) → Ok (record { below = o; rearrangement = s; ok = ok }) ≡ renumbered o s
renumbered_made {O} o s ok = go (rearranges s) (λ t. t) ok
  where
    go : (b : Bool) (f : T b → T (rearranges s)) → T b → Ok (record { below = o; rearrangement = s; ok = ok }) ≡ renumbered_if o s b f
    go true f t = ap (λ (p : T (rearranges s)). Ok (record { below = o; rearrangement = s; ok = p })) (T_prop (rearranges s) ok (f tt))
    go false f t = absurd t

pub renumbered_parts : {O : Type 0} (o : O) (s : Rearrangement) (f : Renumbered O) → renumbered o s ≡ Ok f → (f.below ≡ o) × (f.rearrangement ≡ s)
renumbered_parts {O} o s f e = go (rearranges s) (λ t. t) e
  where
    go : (b : Bool) (t : T b → T (rearranges s)) → renumbered_if o s b t ≡ Ok f → (f.below ≡ o) × (f.rearrangement ≡ s)
    go true t e = (sym (ap (λ (r : Result (Renumbered O) OrderFault). elim r [ Ok g ↦ g.below | Err x ↦ o ]) e), sym (ap (λ (r : Result (Renumbered O) OrderFault). elim r [ Ok g ↦ g.rearrangement | Err x ↦ s ]) e))
    go false t e = absurd (grind arith)

-- ---- reversals

Sound : Option Rearrangement → Type 0
Sound (Some s) = rearranges s ≡ true
Sound None = Unit {0}

reversal_sound : (n : ℕ) → Sound (reversal n)
unfolding Sound reversal rearrangement rearranges fresh place
reversal_sound zero = tt
reversal_sound (suc zero) = refl
reversal_sound (suc (suc zero)) = refl
reversal_sound (suc (suc (suc zero))) = refl
reversal_sound (suc (suc (suc (suc zero)))) = refl
reversal_sound (suc (suc (suc (suc (suc n))))) = let none : reversal (suc (suc (suc (suc (suc n))))) ≡ None = grind (arith, nat_tests) in subst Sound (sym none) tt

pub reverses : (n : ℕ) (s : Rearrangement) → reversal n ≡ Some s → rearranges s ≡ true
unfolding Sound
reverses n s e = subst Sound e (reversal_sound n)
