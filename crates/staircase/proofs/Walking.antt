-- What one offer, the products of one monomial, and the walk itself keep.
use Rattle.std.proofs.Common.{◌≡◌, ℕ, ◌+◌, ◌<◌, Bool, true, false, cond, ◌&&◌, ltb, ◌≢◌, List, [], ◌∷◌, ◌++◌, length, get_or, Some, None, sym, refl, ap, ◌∙◌, subst, inl, inr, arith}
use mathlib.Core.Bool.{false≢true}
use native.Mathlib.Decide.{dec_lt, ℕ_discrete}
use Rattle.std.specs.Prelude.{Option, is_some}
use Rattle.std.specs.List.{ContainsAt as Has}
use Rattle.std.proofs.lemmas.List.{append-nil, append_assoc, length_push, get_or_push, get_or_append_left, get_or_default}
use Rattle.std.proofs.ByRecursion.{All-push, has_append_left, has_push}
use Rattle.std.proofs.lemmas.Bool.{and_parts, and_from, ltb-true, lt-ltb}
use Rattle.order.specs.declared.monomial.Monomial.{Monomial}
use Rattle.order.specs.Monomials.{variables, largest, exponent, one, raise, raised}
use Rattle.order.specs.Exponents as exponents
use Rattle.algebra.specs.Records.{Within}
use Rattle.staircase.specs.Search.{FirstPlace}
use Rattle.staircase.specs.Walk.{Free, New, Offered, Good, Grown, Walked}

-- ---- a place, and a product

pub place_has : (l : List Monomial) (m : Monomial) (i : ℕ) → FirstPlace l m (Some i) → Has l m
place_has l m i p = (i, p.0, λ d. get_or_default l i d one p.0 ∙ p.1)

pub place_none : (l : List Monomial) (m : Monomial) → FirstPlace l m None → Has l m → ⊥
place_none l m p h = p h.0 h.1 (h.2 one)

pub place_some : (l : List Monomial) (m : Monomial) (r : Option ℕ) → FirstPlace l m r → true ≡ is_some r → Has l m
place_some l m (Some i) p e = place_has l m i p
place_some l m None p e = absurd (false≢true (sym e))

pub place_nowhere : (l : List Monomial) (m : Monomial) (r : Option ℕ) → FirstPlace l m r → false ≡ is_some r → Has l m → ⊥
place_nowhere l m (Some i) p e = absurd (false≢true e)
place_nowhere l m None p e = place_none l m p

-- what a product by a variable is, where there is one
pub raised_some : (k : ℕ) (m t : Monomial) → raised k m ≡ Some t → (k < variables) × (exponent m k < largest) × (t ≡ raise k m)
unfolding raised
raised_some k m t e = go (ltb k variables && ltb (exponent m k) largest) refl e
  where
    go : (b : Bool) → (ltb k variables && ltb (exponent m k) largest) ≡ b → cond b (Some (raise k m)) None ≡ Some t → (k < variables) × (exponent m k < largest) × (t ≡ raise k m)
    go true q e = let p = and_parts (ltb k variables) (ltb (exponent m k) largest) q in (ltb-true _ _ p.0, ltb-true _ _ p.1, cc)
    go false q e = absurd (let z : ◌≡◌ {A = ℕ} 0 1 = cc in omega arith)

pub raised_is : (k : ℕ) (m : Monomial) → k < variables → exponent m k < largest → raised k m ≡ Some (raise k m)
unfolding raised
raised_is k m p q = ap (λ b. cond b (Some (raise k m)) None) (and_from (ltb k variables) (ltb (exponent m k) largest) (lt-ltb _ _ p) (lt-ltb _ _ q))

pub raised_within : (n k : ℕ) (m t : Monomial) → k < n → Within n m → raised k m ≡ Some t → Within n t
raised_within n k m t kn w e j h =
    let r = raised_some k m t e in
    ap (λ (x : Monomial). exponent x j) r.2 ∙ exponents.exponent_raise k r.0 m j ∙ omega (arith, exponents.unit_off k j (omega arith), w j h)

pub one_within : (n : ℕ) → Within n one
one_within n k h = exponents.exponent_one k

-- ---- one offer

pub good_none : (n : ℕ) (leads : List Monomial) → Good n leads []
good_none n leads = record { frees = tt; within = tt; apart = λ i j p q. absurd (omega arith) }

pub good_push : (n : ℕ) (leads l : List Monomial) (m : Monomial) → Good n leads l → Within n m → New leads l m → Good n leads (l ++ m ∷ [])
good_push n leads l m g w new = record {
  frees = All-push (Free leads) l m g.frees new.0;
  within = All-push (Within n) l m g.within w;
  apart = λ i j p q. two i j p q (dec_lt j (length l));
}
  where
    two : (i j : ℕ) → i < j → j < length (l ++ m ∷ []) → Dec (j < length l) → get_or (l ++ m ∷ []) i one ≢ get_or (l ++ m ∷ []) j one
    two i j p q (yes y) e = g.apart i j p y (sym (get_or_append_left l (m ∷ []) one i (omega arith)) ∙ e ∙ get_or_append_left l (m ∷ []) one j y)
    two i j p q (no y) e =
        let il : i < length l = omega (arith, length_push l m) in
        let is : length l ≡ j = omega (arith, length_push l m) in
        let here : get_or l i one ≡ m = sym (get_or_append_left l (m ∷ []) one i il) ∙ e ∙ get_or_push l m one j is in
        new.1 (i, il, λ d. get_or_default l i d one il ∙ here)

pub good_offered : (n : ℕ) (leads l : List Monomial) (m : Monomial) (r : List Monomial) → Good n leads l → Within n m → Offered leads l m r → Good n leads r
good_offered n leads l m r g w (inl x) = subst (Good n leads) (sym x.0) g
good_offered n leads l m r g w (inr x) = subst (Good n leads) (sym x.0) (good_push n leads l m g w x.1)

offered_begins : (leads l : List Monomial) (m : Monomial) (r : List Monomial) → Offered leads l m r → (e : List Monomial) × (r ≡ l ++ e)
offered_begins leads l m r (inl x) = ([], x.0 ∙ sym (append-nil l))
offered_begins leads l m r (inr x) = (m ∷ [], x.0)

offered_has : (leads l : List Monomial) (m : Monomial) (r : List Monomial) → Offered leads l m r → Free leads m → Has r m
offered_has leads l m r (inl x) f = subst (λ (y : List Monomial). Has y m) (sym x.0) (x.1 f)
offered_has leads l m r (inr x) f = subst (λ (y : List Monomial). Has y m) (sym x.0) (has_push l m)

-- what stands in a list stands in every list that begins with it
kept : (l r : List Monomial) (m : Monomial) → (e : List Monomial) × (r ≡ l ++ e) → Has l m → Has r m
kept l r m b h = subst (λ (y : List Monomial). Has y m) (sym b.1) (has_append_left l b.0 m h)

-- ---- the products of one monomial

module _ (n : ℕ) (leads l : List Monomial) (m : Monomial) where
  -- the products by the first k variables and by the next
  next : (k : ℕ) (r : List Monomial) → ((v : ℕ) (t : Monomial) → v < k → raised v m ≡ Some t → Free leads t → Has r t) → ((t : Monomial) → raised k m ≡ Some t → Free leads t → Has r t) → (v : ℕ) (t : Monomial) → v < k + 1 → raised v m ≡ Some t → Free leads t → Has r t
  next k r old new v t p e f = go (ℕ_discrete v k)
    where
      go : Dec (v ≡ k) → Has r t
      go (yes q) = new t (ap (λ (j : ℕ). raised j m) (sym q) ∙ e) f
      go (no q) = old v t (omega arith) e f

  pub grown_offer : (k : ℕ) (r : List Monomial) (t : Monomial) (s : List Monomial) → Grown n leads l m k r → raised k m ≡ Some t → Within n t → Offered leads r t s → Grown n leads l m (k + 1) s
  grown_offer k r t s g e w o =
      let b = offered_begins leads r t s o in
      record {
        good = good_offered n leads r t s g.good w o;
        begins = (g.begins.0 ++ b.0, b.1 ∙ ap (λ (y : List Monomial). y ++ b.0) g.begins.1 ∙ append_assoc l g.begins.0 b.0);
        holds = next k s (λ v u p q f. kept r s u b (g.holds v u p q f)) (λ u q f. let same : t ≡ u = cc in subst (Has s) same (offered_has leads r t s o (subst (Free leads) (sym same) f)));
      }

-- ---- the walk

pub walked_first : (n : ℕ) (leads r : List Monomial) → Offered leads [] one r → Walked n leads r 0
walked_first n leads r o = record {
  good = good_offered n leads [] one r (good_none n leads) (one_within n) o;
  start = offered_has leads [] one r o;
  closed = λ j v t p. absurd (omega arith);
}

pub walked_more : (n : ℕ) (leads l : List Monomial) (i : ℕ) (r : List Monomial) → Walked n leads l i → i < length l → Grown n leads l (get_or l i one) n r → Walked n leads r (i + 1)
walked_more n leads l i r w h g = record {
  good = g.good;
  start = λ f. kept l r one g.begins (w.start f);
  closed = λ j v t p q e f. go j v t p q e f (ℕ_discrete j i);
}
  where
    same : (j : ℕ) → j < length l → get_or r j one ≡ get_or l j one
    same j p = ap (λ (y : List Monomial). get_or y j one) g.begins.1 ∙ get_or_append_left l g.begins.0 one j p

    go : (j v : ℕ) (t : Monomial) → j < i + 1 → v < n → raised v (get_or r j one) ≡ Some t → Free leads t → Dec (j ≡ i) → Has r t
    go j v t p q e f (yes y) = g.holds v t q (ap (raised v) (sym (same i h) ∙ ap (λ (a : ℕ). get_or r a one) (sym y)) ∙ e) f
    go j v t p q e f (no y) = kept l r t g.begins (w.closed j v t (omega arith) q (ap (raised v) (sym (same j (omega arith))) ∙ e) f)
