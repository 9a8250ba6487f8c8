-- A list in which each monomial is less than the one before it.
use Rattle.std.proofs.Common.{◌≡◌, ℕ, zero, suc, ◌+◌, ◌-◌, ◌<◌, ◌≤◌, Bool, true, false, cond, not, ◌&&◌, ltb, List, length, get_or, drop, zip, length-drop, Some, None, Option, MatchOption, Ordering, Less, sym, refl, ap, ◌∙◌, subst, ap₂, arith}
use native.Mathlib.Decide.{ℕ_discrete, dec_lt}
use Rattle.std.proofs.lemmas.Bool.Decides.{nat_tests}
use Rattle.std.specs.Ordering.{is_lt}
use Rattle.std.specs.List.{AllWithin, HoldsAt}
use Rattle.std.proofs.lemmas.Grind.{get_or_after_one}
use Rattle.std.proofs.lemmas.Slice.Zip.{length-zip, get_or-zip}
use Rattle.order.specs.Monomials.{one}
use Rattle.order.specs.declared.monomial.Monomial.{Monomial}
use Rattle.order.specs.Monomials.{Small}
use Rattle.order.specs.Laws.{Comparison, OrderLaws, Falling}
use Rattle.order.proofs.Products.{falls_throughout}
use Rattle.order_use.specs.Lists.{listed, or_else, first, unfalling}

-- ---- the first number of which a test holds

pub first_none : (n : ℕ) (p : ℕ → Bool) → ((k : ℕ) → k < n → p k ≡ false) → first n p ≡ None
first_none zero p h = refl
first_none (suc n) p h = ap₂ or_else (first_none n p (λ k l. h k (omega arith))) (ap (λ (b : Bool). cond b (Some n) None) (h n (omega arith)))

pub first_at : (n k : ℕ) (p : ℕ → Bool) → k < n → ((j : ℕ) → j < k → p j ≡ false) → p k ≡ true → first n p ≡ Some k
first_at zero k p l h t = absurd (omega arith)
first_at (suc n) k p l h t = go (ℕ_discrete k n) (λ q. first_at n k p q h t)
  where
    go : Dec (k ≡ n) → (k < n → first n p ≡ Some k) → or_else (first n p) (cond (p n) (Some n) None) ≡ Some k
    go (yes e) ih = ap₂ or_else (subst (λ (m : ℕ). first m p ≡ None) e (first_none k p h)) (ap (λ (b : Bool). cond b (Some n) None) (sym (ap p e) ∙ t)) ∙ ap Some (sym e)
    go (no d) ih = ap (λ (o : Option ℕ). or_else o (cond (p n) (Some n) None)) (ih (omega arith))

-- ---- an index at which the list falls

is_less : (o : Ordering) → is_lt o ≡ true → o ≡ Less
is_less o h = grind arith

module _ (cmp : Comparison) (l : List Monomial) where
  -- past the first, the monomial at k is less than the one before it, and both are small
  pub record Fallen (k : ℕ) : Type 0 where
    pub small : 0 < k → Small (listed l k) × Small (listed l (k - 1))
    pub less : 0 < k → is_lt (cmp (listed l k) (listed l (k - 1))) ≡ true

  rises : ℕ → Bool
  rises k = ltb 0 k && not (is_lt (cmp (listed l k) (listed l (k - 1))))

  fallen_so : (k : ℕ) → Fallen k → rises k ≡ false
  unfolding rises
  fallen_so zero f = refl
  fallen_so (suc k) f = let t = f.less (omega arith) in grind (arith, nat_tests)

  rises_so : (k : ℕ) → 0 < k → is_lt (cmp (listed l k) (listed l (k - 1))) ≡ false → rises k ≡ true
  unfolding rises
  rises_so k h d = grind (arith, nat_tests)

  pub unfalling_none : ((k : ℕ) → k < length l → Fallen k) → unfalling cmp l ≡ None
  unfolding rises
  unfalling_none h = first_none (length l) rises (λ k q. fallen_so k (h k q))

  pub unfalling_at : (i : ℕ) → 0 < i → i < length l → ((k : ℕ) → k < i → Fallen k) → is_lt (cmp (listed l i) (listed l (i - 1))) ≡ false → unfalling cmp l ≡ Some i
  unfolding rises
  unfalling_at i p q h d = first_at (length l) i rises q (λ k r. fallen_so k (h k r)) (rises_so i p d)

  fallen_from : (n : ℕ) → ((k : ℕ) → 1 ≤ k → k < n → Fallen k) → (k : ℕ) → k < n → Fallen k
  fallen_from n h zero q = record { small = λ p. absurd (omega arith); less = λ p. absurd (omega arith) }
  fallen_from n h (suc k) q = h (suc k) (omega arith) q

  -- by transitivity
  pub falls_so : OrderLaws cmp → ((k : ℕ) → k < length l → Fallen k) → Falling cmp (listed l) (length l)
  falls_so L h i j p q = falls_throughout cmp L (listed l) (length l) small next i j p q
    where
      at : (k : ℕ) → Dec (0 < k) → k < length l → Small (listed l k)
      at k (yes z) r = ((h k r).small z).0
      at k (no z) r = subst (λ (m : ℕ). Small (listed l m)) (let e : 1 - 1 ≡ k = omega arith in e) ((h 1 (omega arith)).small (omega arith)).1

      small : (k : ℕ) → k < length l → Small (listed l k)
      small k r = at k (dec_lt 0 k) r

      next : (k : ℕ) → suc k < length l → cmp (listed l (suc k)) (listed l k) ≡ Less
      next k r = subst (λ (m : ℕ). cmp (listed l (suc k)) (listed l m) ≡ Less) (let e : suc k - 1 ≡ k = omega arith in e) (is_less _ ((h (suc k) r).less (omega arith)))

  -- what a search from 1 on finds: the first index that does not fall, or that all do
  abbrev pub Found : Option ℕ → Type 0
  Found r = MatchOption r ((k : ℕ) → 1 ≤ k → k < length l → Fallen k)
      (λ i. (1 ≤ i) × (i < length l) × (is_lt (cmp (listed l i) (listed l (i - 1))) ≡ false) × ((k : ℕ) → 1 ≤ k → k < i → Fallen k))

  -- a monomial and the next, side by side
  abbrev pub Rises : Monomial × Monomial → Type 0
  Rises p = is_lt (cmp p.1 p.0) ≡ false

  pub record Falls (p : Monomial × Monomial) : Type 0 where
    pub small : Small p.1 × Small p.0
    pub less : is_lt (cmp p.1 p.0) ≡ true

  length_neighbours : length (zip l (drop 1 l)) ≡ length l - 1
  length_neighbours = length-zip l (drop 1 l) ∙ omega (arith, length-drop 1 l)

  neighbours_at : (k : ℕ) → 1 ≤ k → k < length l → get_or (zip l (drop 1 l)) (k - 1) (one, one) ≡ (listed l (k - 1), listed l k)
  neighbours_at k p q = get_or-zip l (drop 1 l) (k - 1) (one, one) (omega arith) (omega (arith, length-drop 1 l)) ∙ ap (λ (t : Monomial). (listed l (k - 1), t)) (get_or_after_one l (k - 1) one ∙ ap (λ (j : ℕ). listed l j) (omega arith))

  fallen_after : (n : ℕ) → n ≤ length (zip l (drop 1 l)) → AllWithin Falls (zip l (drop 1 l)) 0 n → (k : ℕ) → 1 ≤ k → k < n + 1 → Fallen k
  fallen_after n le h k p q = let t = subst Falls (neighbours_at k p (omega (arith, length_neighbours))) (h (k - 1) (one, one) (omega arith) (omega arith)) in record { small = λ z. t.small; less = λ z. t.less }

  pub all_fall : AllWithin Falls (zip l (drop 1 l)) 0 (length (zip l (drop 1 l))) → Found None
  all_fall h k p q = fallen_after (length (zip l (drop 1 l))) (omega arith) h k p (omega (arith, length_neighbours))

  pub first_rises : (i : ℕ) → i < length (zip l (drop 1 l)) → HoldsAt Rises (zip l (drop 1 l)) i → AllWithin Falls (zip l (drop 1 l)) 0 i → Found (Some (i + 1))
  first_rises i q h f =
      let within : i + 1 < length l = omega (arith, length_neighbours) in
      (omega arith, within, subst Rises (neighbours_at (i + 1) (omega arith) within) (subst (λ (j : ℕ). Rises (get_or (zip l (drop 1 l)) j (one, one))) (omega arith) (h (one, one))), fallen_after i (omega arith) f)

  pub found_first : (r : Option ℕ) → Found r → r ≡ unfalling cmp l
  found_first None h = sym (unfalling_none (fallen_from (length l) h))
  found_first (Some i) t = sym (unfalling_at i t.0 t.1 (fallen_from i t.3) t.2)

  pub none_falls : OrderLaws cmp → (r : Option ℕ) → Found r → r ≡ None → Falling cmp (listed l) (length l)
  none_falls L None h e = falls_so L (fallen_from (length l) h)
  none_falls L (Some i) t e = absurd (grind arith)
