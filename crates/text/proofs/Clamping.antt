-- Clamped terms are asked as the terms are: a no comes to the same term, and where all are in range the terms are equal.
use Rattle.std.proofs.Common.{◌≡◌, ℕ, suc, ◌<◌, T, ◌≢◌, List, [], ◌∷◌, length, get_or, sym, refl, ap, subst, ap₂, inl, inr, arith}
use lib.ListN.{length-map}
use Rattle.std.proofs.lemmas.List.{get_or-map}
use Rattle.field.specs.Meaning.{FieldMeaning}
use Rattle.order.specs.declared.monomial.Monomial.{Monomial}
use Rattle.order.specs.Monomials.{variables, exponent, one}
use Rattle.order.specs.Laws.{Comparison}
use Rattle.order.specs.Exponents.{exponent_monomial, same_exponents}
use Rattle.runs.specs.Question.{each, AllYes, Refused}
use Rattle.runs.specs.Job.{Term, coefficient_at, monomial_at}
use Rattle.runs.specs.Enter.{InRange, terms_asks}
use Rattle.text.specs.Clamped.{clamped_exponent, clamped, clamped_terms}

-- ---- one term

exponent_clamped : (t : Term) (k : ℕ) → k < variables → exponent (clamped t).1 k ≡ clamped_exponent (exponent t.1 k)
exponent_clamped t k l = exponent_monomial (λ (i : ℕ). clamped_exponent (exponent t.1 i)) k l

range_clamped : (n : ℕ) (t : Term) → InRange n t.1 → InRange n (clamped t).1
range_clamped n t h k l = let e = exponent_clamped t k l in let b = (h k l).0 in (omega arith, λ z. omega (arith, (h k l).1 z))

range_original : (n : ℕ) (t : Term) → InRange n (clamped t).1 → InRange n t.1
range_original n t h k l = let e = exponent_clamped t k l in let b = (h k l).0 in (omega arith, λ z. omega (arith, (h k l).1 z))

pub clamped_same : (n : ℕ) (t : Term) → InRange n t.1 → clamped t ≡ t
clamped_same n t h = ap (λ (u : Monomial). (t.0, u)) (same_exponents (clamped t).1 t.1 (λ k l. let e = exponent_clamped t k l in let b = (h k l).0 in omega arith))

-- ---- all of them

pub length_clamped : (p : List Term) → length (clamped_terms p) ≡ length p
length_clamped p = length-map p clamped

pub same_terms : (n : ℕ) (p : List Term) → ((i : ℕ) → i < length p → InRange n (monomial_at p i)) → clamped_terms p ≡ p
same_terms n [] h = refl
same_terms n (t ∷ p) h = ap₂ (λ (u : Term) (us : List Term). u ∷ us) (clamped_same n t (h 0 (omega arith))) (same_terms n p (λ i l. h (suc i) (omega arith)))

at_clamped : (p : List Term) (i : ℕ) → i < length p → get_or (clamped_terms p) i (0, one) ≡ clamped (get_or p i (0, one))
at_clamped p i l = get_or-map clamped p i (0, one) (0, one) l

-- a question put to each, where the terms that fail are the same
module _ (number line c d : ℕ) (P Q : ℕ → Type 0) (e : c ≡ d) (there : (i : ℕ) → i < d → P i → Q i) (back : (i : ℕ) → i < d → Q i → P i) where
  yes_same : (each number line c P).yes → (each number line d Q).yes
  yes_same y i l = there i l (y i (omega arith))

  yes_back : (each number line d Q).yes → (each number line c P).yes
  yes_back y i l = let q : i < d = omega arith in back i q (y i q)

  place_same : (place : ℕ) → (each number line c P).place place → (each number line d Q).place place
  place_same place x =
      let l : x.0 < d = omega (arith, x.1) in
      (x.0, l, x.2, (λ q. x.3 (back x.0 l q)), λ j k. let b : j < d = omega arith in there j b (x.4 j k))

module _ (m : FieldMeaning) (cmp : Comparison) (n line : ℕ) (p : List Term) where
  abbrev Nonzero : List Term → ℕ → Type 0
  Nonzero ts i = T (m.elem (coefficient_at ts i)) × (coefficient_at ts i ≢ m.zero)

  abbrev Ranges : List Term → ℕ → Type 0
  Ranges ts i = InRange n (monomial_at ts i)

  coefficient_same : (i : ℕ) → i < length p → coefficient_at (clamped_terms p) i ≡ coefficient_at p i
  coefficient_same i l = ap (λ (t : Term). t.0) (at_clamped p i l)

  nonzero_there : (i : ℕ) → i < length p → Nonzero (clamped_terms p) i → Nonzero p i
  nonzero_there i l h = subst (λ (w : ℕ). T (m.elem w) × (w ≢ m.zero)) (coefficient_same i l) h

  nonzero_back : (i : ℕ) → i < length p → Nonzero p i → Nonzero (clamped_terms p) i
  nonzero_back i l h = subst (λ (w : ℕ). T (m.elem w) × (w ≢ m.zero)) (sym (coefficient_same i l)) h

  range_there : (i : ℕ) → i < length p → Ranges (clamped_terms p) i → Ranges p i
  range_there i l h = range_original n (get_or p i (0, one)) (subst (λ (t : Term). InRange n t.1) (at_clamped p i l) h)

  range_back : (i : ℕ) → i < length p → Ranges p i → Ranges (clamped_terms p) i
  range_back i l h = subst (λ (t : Term). InRange n t.1) (sym (at_clamped p i l)) (range_clamped n (get_or p i (0, one)) h)

  -- once 10 got a yes
  same_in_range : (each 10 line (length (clamped_terms p)) (Ranges (clamped_terms p))).yes → clamped_terms p ≡ p
  same_in_range y = same_terms n p (yes_same 10 line (length (clamped_terms p)) (length p) (Ranges (clamped_terms p)) (Ranges p) (length_clamped p) range_there range_back y)

  pub clamped_accepted : AllYes (terms_asks m cmp n line (clamped_terms p)) → clamped_terms p ≡ p
  clamped_accepted y = same_in_range y.1.0

  pub clamped_refused : (number l place : ℕ) → Refused (terms_asks m cmp n line (clamped_terms p)) number l place → Refused (terms_asks m cmp n line p) number l place
  clamped_refused number l place (inl x) =
      inl (
        (λ y. x.0 (yes_back 9 line (length (clamped_terms p)) (length p) (Nonzero (clamped_terms p)) (Nonzero p) (length_clamped p) nonzero_there nonzero_back y)),
        x.1,
        x.2,
        place_same 9 line (length (clamped_terms p)) (length p) (Nonzero (clamped_terms p)) (Nonzero p) (length_clamped p) nonzero_there nonzero_back place x.3,
      )
  clamped_refused number l place (inr (y, inl x)) =
      inr (
        yes_same 9 line (length (clamped_terms p)) (length p) (Nonzero (clamped_terms p)) (Nonzero p) (length_clamped p) nonzero_there nonzero_back y,
        inl (
          (λ z. x.0 (yes_back 10 line (length (clamped_terms p)) (length p) (Ranges (clamped_terms p)) (Ranges p) (length_clamped p) range_there range_back z)),
          x.1,
          x.2,
          place_same 10 line (length (clamped_terms p)) (length p) (Ranges (clamped_terms p)) (Ranges p) (length_clamped p) range_there range_back place x.3,
        ),
      )
  clamped_refused number l place (inr (y, inr (z, x))) = subst (λ (ts : List Term). Refused (terms_asks m cmp n line ts) number l place) (same_in_range z) (inr (y, inr (z, x)))
