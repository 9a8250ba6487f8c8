-- Leading monomials as the code has them, and as mathematics has them: the questions about the ones are those about the others.
use Rattle.std.proofs.Common.{◌≡◌, ℕ, zero, suc, ◌<◌, ◌≤◌, true, cond, eqb, ◌≢◌, List, [], ◌∷◌, map, length, get_or, sym, refl, ap, ◌∙◌, subst, ap₂, arith}
use mathlib.Core.Bool.{false≢true}
use native.Mathlib.Decide.{ℕ_discrete, dec_lt}
use lib.ListN.{length-map}
use Rattle.std.specs.List.{AllByRecursion}
use Rattle.std.proofs.ByRecursion.{All-map, All-get_or, All-weaker}
use Rattle.std.proofs.lemmas.Bool.{false_from_ne_true}
use Rattle.std.proofs.lemmas.Bool.Decides.{nat_tests}
use Rattle.field.specs.Meaning.{FieldMeaning, FieldLaws}
use Rattle.order.specs.declared.monomial.Monomial.{Monomial}
use Rattle.order.specs.Monomials.{variables, exponent, one, power, divides, power_of}
use Rattle.order.specs.Laws.{Comparison, OrderLaws}
use Rattle.order.specs.Exponents as exponents
use Rattle.algebra.specs.Lists.{any}
use Rattle.algebra.specs.Monomial as mono
use Rattle.algebra.specs.Monomial.{Mono}
use Rattle.algebra.specs.Records.{nested, flat, Within, before_by, NestedKeeps}
use Rattle.algebra.specs.NormalForm as form
use Rattle.algebra.specs.Basis.{leads, stairs}
use Rattle.algebra.specs.Staircase.{Bounded, staircase}
use Rattle.algebra.proofs.Lists.{any_index, any_at}
use Rattle.algebra.proofs.Monomials as monos
use Rattle.algebra.proofs.Records.{nested_keeps, exponent_nested}
use Rattle.runs.specs.Job.{Term, new}
use Rattle.runs.specs.Enter.{InRange, Enters}
use Rattle.runs.specs.Generators.{over_elements, generators}
use Rattle.runs.specs.Close.{lead, HasPower, Undivided}
use Rattle.runs.proofs.Entered.{Fine, fine_all, bounded}
use Rattle.staircase.specs.Stairs.{Leading, stairs_of}
use Rattle.staircase.proofs.Increasing as lists
use Rattle.polynomials.specs.Leads.{lead_of, leads_of, lead_asks, not_one_ask, powers_ask, apart_ask, Apart}
use Rattle.polynomials.proofs.Answering.{AllSame, each_same}

-- a term that Enter took has no variable past the n-th
pub within : (n : ℕ) (t : Monomial) → InRange n t → Within n t
within n t h k l = go (dec_lt k variables)
  where
    go : Dec (k < variables) → exponent t k ≡ 0
    go (yes q) = (h k q).1 l
    go (no q) = exponents.exponent_past t k (omega arith)

exponent_power : (k e j : ℕ) → j < variables → exponent (power k e) j ≡ cond (eqb k j) e 0
unfolding power
exponent_power k e j l = exponents.exponent_monomial (λ j. cond (eqb k j) e 0) j l

module _ (n : ℕ) (fits : n ≤ variables) where
  abbrev keeps : NestedKeeps n
  keeps = nested_keeps n fits

  within_one : Within n one
  within_one k l = exponents.exponent_one k

  -- a record is a power of one variable where its monomial is

  same_power : (k : ℕ) → k < n → (e j : ℕ) → j < variables → exponent (power k e) j ≡ mono.exponent n (mono.power n k e) j
  same_power k l e j q = exponent_power k e j q ∙ go (ℕ_discrete k j)
    where
      go : Dec (k ≡ j) → cond (eqb k j) e 0 ≡ mono.exponent n (mono.power n k e) j
      go (yes d) = let x : mono.exponent n (mono.power n k e) j ≡ e = ap (mono.exponent n (mono.power n k e)) (sym d) ∙ monos.exp_power n k l e in grind (arith, nat_tests)
      go (no d) = let x = monos.exp_power_off n k j d e in grind (arith, nat_tests)

  power_to : (k : ℕ) → k < n → (t : Monomial) → power_of k t ≡ true → (e : ℕ) × (nested n t ≡ mono.power n k e)
  power_to k l t h =
      let x = (exponents.power_in_words k (omega arith) t).0 h in
      (x.0, monos.ext n _ _ (λ j q. exponent_nested n fits t j q ∙ ap (λ (r : Monomial). exponent r j) x.1 ∙ same_power k l x.0 j (omega arith)))

  power_from : (k : ℕ) → k < n → (t : Monomial) → Within n t → (e : ℕ) → nested n t ≡ mono.power n k e → power_of k t ≡ true
  power_from k l t w e h = (exponents.power_in_words k (omega arith) t).1 (e, exponents.same_exponents t (power k e) (λ j q. go j q (dec_lt j n)))
    where
      go : (j : ℕ) → j < variables → Dec (j < n) → exponent t j ≡ exponent (power k e) j
      go j q (yes d) = sym (exponent_nested n fits t j d) ∙ ap (λ (x : Mono n). mono.exponent n x j) h ∙ sym (same_power k l e j q)
      go j q (no d) = w j (omega arith) ∙ sym (same_power k l e j q ∙ monos.exp_past n (mono.power n k e) j (omega arith))

  module _ (m : FieldMeaning) (laws : FieldLaws m) where
    lead_nested : (p : List Term) → form.lead n (over_elements m laws n p) ≡ nested n (lead_of p)
    lead_nested [] = sym keeps.ones
    lead_nested (t ∷ p) = refl

    -- the leading monomials of the polynomials over elements
    pub leads_nested : (ps : List (List Term)) → map (nested n) (leads_of ps) ≡ leads n (generators m laws n ps)
    leads_nested [] = refl
    leads_nested (p ∷ ps) = ap₂ (λ (x : Mono n) (l : List (Mono n)). x ∷ l) (sym (lead_nested p)) (leads_nested ps)

    pub lead_is : (ps : List (List Term)) (i : ℕ) → lead m laws n ps i ≡ nested n (get_or (leads_of ps) i one)
    lead_is [] i = sym keeps.ones
    lead_is (p ∷ ps) zero = lead_nested p
    lead_is (p ∷ ps) (suc i) = lead_is ps i

  module _ (m : FieldMeaning) (cmp : Comparison) (ps : List (List Term)) (fs : AllByRecursion (Fine m cmp n) ps) where
    lead_within : (p : List Term) → Fine m cmp n p → Within n (lead_of p)
    lead_within [] f = within_one
    lead_within (t ∷ p) f = within n t.1 (f.ranges 0 f.some)

    pub leads_within : AllByRecursion (Within n) (leads_of ps)
    leads_within = All-map (Within n) lead_of ps (All-weaker (Fine m cmp n) (λ p. Within n (lead_of p)) lead_within ps fs)

    at_within : (i : ℕ) → i < length ps → Within n (get_or (leads_of ps) i one)
    at_within i l = All-get_or (Within n) (leads_of ps) i one (omega (arith, length-map ps lead_of)) leads_within

    module _ (laws : FieldLaws m) where
      not-one-same : (i : ℕ) → i < length ps → (get_or (leads_of ps) i one ≢ one → lead m laws n ps i ≢ mono.one n) × (lead m laws n ps i ≢ mono.one n → get_or (leads_of ps) i one ≢ one)
      not-one-same i l = (
        λ h e. h (lists.nested_once n fits _ one (at_within i l) within_one (sym (lead_is m laws ps i) ∙ e ∙ sym keeps.ones)),
        λ h e. h (lead_is m laws ps i ∙ ap (nested n) e ∙ keeps.ones),
      )

      powers-same : (k : ℕ) → k < n → (any (power_of k) (leads_of ps) ≡ true → HasPower m laws n ps k) × (HasPower m laws n ps k → any (power_of k) (leads_of ps) ≡ true)
      powers-same k l = (
        λ h.
            let x = any_index (power_of k) one (leads_of ps) h in
            let y = power_to k l (get_or (leads_of ps) x.0 one) x.2 in
            (x.0, omega (arith, x.1, length-map ps lead_of), (y.0, lead_is m laws ps x.0 ∙ y.1)),
        λ x. any_at (power_of k) one (leads_of ps) x.0 (omega (arith, x.1, length-map ps lead_of)) (power_from k l _ (at_within x.0 x.1) x.2.0 (sym (lead_is m laws ps x.0) ∙ x.2.1)),
      )

      divides-same : (q i : ℕ) → q < length ps → divides (get_or (leads_of ps) q one) (get_or (leads_of ps) i one) ≡ mono.divides n (lead m laws n ps q) (lead m laws n ps i)
      divides-same q i l = keeps.divisors (get_or (leads_of ps) q one) (get_or (leads_of ps) i one) (at_within q l) ∙ sym (ap₂ (mono.divides n) (lead_is m laws ps q) (lead_is m laws ps i))

      apart-same : (i : ℕ) → i < length ps → (Apart (leads_of ps) i (get_or (leads_of ps) i one) → Undivided m laws n ps i) × (Undivided m laws n ps i → Apart (leads_of ps) i (get_or (leads_of ps) i one))
      apart-same i l = (
        λ h q r d e. false≢true (sym (h q (omega (arith, r, length-map ps lead_of)) d) ∙ divides-same q i r ∙ e),
        λ h q r d. false_from_ne_true _ (λ e. let s : q < length ps = omega (arith, r, length-map ps lead_of) in h q s d (sym (divides-same q i s) ∙ e)),
      )

      pub leads-same : AllSame (not_one_ask (leads_of ps) ∷ powers_ask n (leads_of ps) ∷ apart_ask (leads_of ps) ∷ []) (lead_asks m laws n ps)
      leads-same = (
        each_same 13 0 (length (leads_of ps)) (length ps) _ _ (length-map ps lead_of) (λ i l. not-one-same i (omega (arith, length-map ps lead_of))),
        (
          each_same 14 0 n n _ _ refl powers-same,
          (each_same 15 0 (length (leads_of ps)) (length ps) _ _ (length-map ps lead_of) (λ i l. apart-same i (omega (arith, length-map ps lead_of))), tt),
        ),
      )

-- the staircase of the leading monomials that the code holds is that of the polynomials
pub stairs_same : (m : FieldMeaning) (laws : FieldLaws m) (cmp : Comparison) (n : ℕ) → n ≤ variables → (ps : List (List Term)) → stairs_of cmp n (leads_of ps) ≡ stairs n (before_by cmp n) (generators m laws n ps)
stairs_same m laws cmp n fits ps = ap (staircase n (before_by cmp n)) (leads_nested n fits m laws ps)

-- what the call that finds the staircase wants to know
pub leading : (m : FieldMeaning) (laws : FieldLaws m) (cmp : Comparison) → OrderLaws cmp → (n : ℕ) → n ≤ variables → (ps : List (List Term)) → Enters m cmp (new n) ps
    → ((k : ℕ) → k < n → HasPower m laws n ps k) → Leading n (leads_of ps)
leading m laws cmp O n fits ps en powers = record {
  few = fits;
  within = leads_within n fits m cmp ps (fine_all m cmp (new n) ps en);
  bounded = subst (Bounded n) (sym (leads_nested n fits m laws ps)) (bounded m laws cmp O n fits ps (fine_all m cmp (new n) ps en) powers);
}

-- the questions put to the leading monomials that the code holds are those of Close
pub leads_put_same : (m : FieldMeaning) (laws : FieldLaws m) (cmp : Comparison) (n : ℕ) (ps : List (List Term)) (ls : List Monomial) → n ≤ variables → Enters m cmp (new n) ps → ls ≡ leads_of ps
    → AllSame (not_one_ask ls ∷ powers_ask n ls ∷ apart_ask ls ∷ []) (lead_asks m laws n ps)
leads_put_same m laws cmp n ps ls fits en e =
    subst (λ (l : List Monomial). AllSame (not_one_ask l ∷ powers_ask n l ∷ apart_ask l ∷ []) (lead_asks m laws n ps)) (sym e)
    (leads-same n fits m cmp ps (fine_all m cmp (new n) ps en) laws)
