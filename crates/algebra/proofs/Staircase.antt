-- The staircase: where each variable has a power of itself alone among the leading monomials, the box holds every monomial
-- that none of them divides, so the sorted free monomials of the box are exactly these.
use Rattle.std.proofs.Common.{◌≡◌, ℕ, suc, ◌<◌, ◌≤◌, Bool, true, false, cond, ◌⊎◌, ◌↔◌, List, [], ◌∷◌, length, get_or, filter, sym, refl, ap, ◌∙◌, subst, inl, inr, arith}
use mathlib.Core.Bool.{false≢true}
use native.Mathlib.Decide.{ℕ_discrete, dec_lt}
use Rattle.std.specs.List.{AllByRecursion}
use Rattle.std.proofs.ByRecursion.{All-get_or, All-from_get_or, All-weaker}
use Rattle.std.proofs.lemmas.Bool.{not-true, not-false, cases_Bool}
use Rattle.order.specs.Monomials.{largest}
use Rattle.algebra.specs.Lists.{any}
use Rattle.algebra.specs.Monomial.{Mono, one, times, equal, var, power, exponent, divides, pure, Among}
use Rattle.algebra.specs.Order.{Small, Ordered, Rising}
use Rattle.algebra.specs.Staircase.{free, bound, Bounded, box, staircase, IsStaircase}
use Rattle.algebra.proofs.Lists as lists
use Rattle.algebra.proofs.Monomials as monos
use Rattle.algebra.proofs.Monomials.{Has}
use Rattle.algebra.proofs.Sorting as sorting

all_true : {A : Type 0} (l : List A) → AllByRecursion (λ a. Unit {0}) l
all_true [] = tt
all_true (a ∷ l) = (tt, all_true l)

-- the bound is the exponent of a leading monomial that is a power of x_k alone
bound_is : (n : ℕ) (l : List (Mono n)) (k : ℕ) → any (pure n k) l ≡ true → (p : ℕ) × (p < length l) × (bound n l k ≡ exponent n (get_or l p (one n)) k) × (pure n k (get_or l p (one n)) ≡ true)
bound_is n [] k e = absurd (false≢true e)
bound_is n (a ∷ l) k e = go (pure n k a) refl e (bound_is n l k)
  where
    go : (b : Bool) → pure n k a ≡ b → cond b true (any (pure n k) l) ≡ true
        → (any (pure n k) l ≡ true → (p : ℕ) × (p < length l) × (bound n l k ≡ exponent n (get_or l p (one n)) k) × (pure n k (get_or l p (one n)) ≡ true))
        → (p : ℕ) × (p < suc (length l)) × (cond b (exponent n a k) (bound n l k) ≡ exponent n (get_or (a ∷ l) p (one n)) k) × (pure n k (get_or (a ∷ l) p (one n)) ≡ true)
    go true q e ih = (0, omega arith, refl, q)
    go false q e ih = let x = ih e in (suc x.0, omega (arith, x.1), x.2, x.3)

module _ (n : ℕ) (leads : List (Mono n)) where
  abbrev lead_of : ℕ → Mono n
  lead_of p = get_or leads p (one n)

  pub free_no : (m : Mono n) → free n leads m ≡ true → (p : ℕ) → p < length leads → divides n (lead_of p) m ≡ true → ⊥
  free_no m e p l d = false≢true (sym (not-true _ e) ∙ lists.any_at (λ l. divides n l m) (one n) leads p l d)

  pub free_find : (m : Mono n) → free n leads m ≡ false → (p : ℕ) × (p < length leads) × (divides n (lead_of p) m ≡ true)
  free_find m e = lists.any_index (λ l. divides n l m) (one n) leads (not-false _ e)

  pub free_yes : (m : Mono n) → ((p : ℕ) → p < length leads → divides n (lead_of p) m ≡ true → ⊥) → free n leads m ≡ true
  free_yes m h = go (cases_Bool (free n leads m))
    where
      go : (free n leads m ≡ true) ⊎ (free n leads m ≡ false) → free n leads m ≡ true
      go (inl e) = e
      go (inr e) = let x = free_find m e in absurd (h x.0 x.1 x.2)

  pub free_down : (a b : Mono n) → divides n a b ≡ true → free n leads b ≡ true → free n leads a ≡ true
  free_down a b d e = free_yes a (λ p l x. free_no b e p l (monos.divides_trans n (lead_of p) a b x d))

  module _ (Q : Bounded n leads) where
    has_pure : (k : ℕ) → k < n → any (pure n k) leads ≡ true
    has_pure k l =
        let x = Q.pures k l in
        let same : equal n (power n k x.2) (power n k (exponent n (power n k x.2) k)) ≡ true = subst (λ (e : ℕ). equal n (power n k x.2) (power n k e) ≡ true) (sym (monos.exp_power n k l x.2)) (monos.equal_refl n _) in
        lists.any_at (pure n k) (one n) leads x.0 x.1 (subst (λ (m : Mono n). pure n k m ≡ true) (sym x.3) same)

    -- the exponents of a free monomial are below the bounds, and below the largest of a record
    low : (m : Mono n) → free n leads m ≡ true → (k : ℕ) → k < n → (exponent n m k < bound n leads k) × (exponent n m k < largest)
    low m e k l =
        let x = bound_is n leads k (has_pure k l) in
        let lt : exponent n m k < exponent n (lead_of x.0) k = go x.0 x.1 (monos.equal_eq n _ _ x.3) (dec_lt (exponent n m k) (exponent n (lead_of x.0) k)) in
        (omega (arith, lt, x.2), omega (arith, lt, All-get_or (Small n) leads x.0 (one n) x.1 Q.small k l))
      where
        go : (p : ℕ) → p < length leads → lead_of p ≡ power n k (exponent n (lead_of p) k) → Dec (exponent n m k < exponent n (lead_of p) k) → exponent n m k < exponent n (lead_of p) k
        go p q is (yes y) = y
        go p q is (no y) = absurd (free_no m e p q (monos.divides_from n (lead_of p) m (λ j r. at j r (ℕ_discrete k j))))
          where
            at : (j : ℕ) → j < n → Dec (k ≡ j) → exponent n (lead_of p) j ≤ exponent n m j
            at j r (yes z) = subst (λ (j : ℕ). exponent n (lead_of p) j ≤ exponent n m j) z (omega arith)
            at j r (no z) = omega (arith, ap (λ (y : Mono n). exponent n y j) is, monos.exp_power_off n k j z (exponent n (lead_of p) k))

    pub free_small : (m : Mono n) → free n leads m ≡ true → Small n m
    free_small m e k l = omega (arith, (low m e k l).1)

    pub free_up_small : (m : Mono n) → free n leads m ≡ true → (k : ℕ) → k < n → Small n (times n (var n k) m)
    free_up_small m e k l j q = go (ℕ_discrete k j)
      where
        go : Dec (k ≡ j) → exponent n (times n (var n k) m) j ≤ largest
        go (yes z) = subst (λ (j : ℕ). exponent n (times n (var n k) m) j ≤ largest) z (omega (arith, monos.exp_raise n k l m, (low m e k l).1))
        go (no z) = omega (arith, monos.exp_raise_off n k j z m, (low m e j q).1)

    module _ (before : Mono n → Mono n → Bool) where
      abbrev S : List (Mono n)
      S = staircase n before leads

      kept : AllByRecursion (λ m. Unit {0} × (free n leads m ≡ true)) (filter (free n leads) (box n (bound n leads)))
      kept = lists.all_kept (λ m. Unit {0}) (free n leads) (box n (bound n leads)) (all_true _)

      pub stairs_to : (m : Mono n) → Has n m S → free n leads m ≡ true
      stairs_to m h = (sorting.has_all n _ S (sorting.all_sorted n before _ _ kept) m h).1

      pub stairs_from : (m : Mono n) → free n leads m ≡ true → Has n m S
      stairs_from m e = sorting.sorted_has n before _ m ∙ sorting.has_kept n (free n leads) _ m (sorting.box_has n _ m (λ k l. (low m e k l).0)) e

      pub stair-free : (i : ℕ) → i < length S → free n leads (get_or S i (one n)) ≡ true
      stair-free i l = stairs_to _ (monos.has_at n S i l)

      module _ (O : Ordered n before) where
        pub stairs-rising : Rising n before S
        stairs-rising = sorting.sorted-rising n before O _ (All-weaker _ _ (λ m x. free_small m x.1) _ kept)

        pub stairs-distinct : (i j : ℕ) → i < length S → j < length S → get_or S i (one n) ≡ get_or S j (one n) → i ≡ j
        stairs-distinct i j p q e = go (dec_lt i j) (dec_lt j i)
          where
            no_less : (a b : ℕ) → a < length S → b < length S → get_or S a (one n) ≡ get_or S b (one n) → a < b → ⊥
            no_less a b p q e l =
                let y : before (get_or S b (one n)) (get_or S b (one n)) ≡ true = subst (λ (m : Mono n). before m (get_or S b (one n)) ≡ true) e (sorting.rising_at n before S stairs-rising a b l q) in
                let small = free_small _ (stair-free b q) in
                O.not_both _ _ small small y y

            go : Dec (i < j) → Dec (j < i) → i ≡ j
            go (yes l) x = absurd (no_less i j p q e l)
            go (no l) (yes x) = absurd (no_less j i q p (sym e) x)
            go (no l) (no x) = omega arith

        pub is-staircase : IsStaircase n before leads S
        is-staircase = record {
          exactly = λ m. (λ x. free_no m (stairs_to m (monos.among_has n m S x)), λ h. monos.has_among n m S (stairs_from m (free_yes m h)));
          rising = stairs-rising;
        }

        -- there is no other
        only-staircase : (R : List (Mono n)) → IsStaircase n before leads R → R ≡ S
        only-staircase R Q = sorting.rising-equal n before O R S small (All-weaker _ _ (λ m e. free_small m e) S (All-from_get_or (λ m. free n leads m ≡ true) S (one n) stair-free)) Q.rising stairs-rising (λ t h. stairs_from t (is_free t (monos.has_among n t R h))) (λ t h. monos.among_has n t R ((Q.exactly t).1 (free_no t (stairs_to t h))))
          where
            is_free : (t : Mono n) → Among n t R → free n leads t ≡ true
            is_free t x = free_yes t ((Q.exactly t).0 x)

            small : AllByRecursion (Small n) R
            small = All-from_get_or (Small n) R (one n) (λ i l. free_small _ (is_free _ (i, l, refl)))

        pub staircase-exactly : (R : List (Mono n)) → IsStaircase n before leads R ↔ (R ≡ S)
        staircase-exactly R = (only-staircase R, λ e. subst (IsStaircase n before leads) (sym e) is-staircase)
