-- The polynomials of a job: what the questions of Enter leave, and that with those of Close before the last they are what algebra asks for.
use Rattle.std.proofs.Common.{◌≡◌, ℕ, zero, suc, ◌<◌, ◌≤◌, true, T, ◌≢◌, List, [], ◌∷◌, map, length, get_or, Less, sym, ap, ◌∙◌, subst, arith}
use native.Mathlib.Decide.{ℕ_discrete, dec_lt}
use lib.ListN.{length-map}
use Rattle.std.specs.List.{AllByRecursion}
use Rattle.std.proofs.lemmas.List.{get_or-map}
use Rattle.std.proofs.ByRecursion.{All-map, All-get_or, All-from_get_or}
use Rattle.field.specs.Meaning.{FieldMeaning, FieldLaws}
use Rattle.order.specs.declared.monomial.Monomial.{Monomial}
use Rattle.order.specs.Monomials as record_of
use Rattle.order.specs.Monomials.{variables}
use Rattle.order.specs.Laws.{Comparison, OrderLaws}
use Rattle.order.specs.Exponents.{exponent_past}
use Rattle.algebra.specs.Field.{Field}
use Rattle.algebra.specs.Elements.{Elem, elem_path, field_of, el}
use Rattle.algebra.specs.Monomial.{Mono, one, divides}
use Rattle.algebra.specs.Polynomial.{Poly}
use Rattle.algebra.specs.Order.{Small, Ordered}
use Rattle.algebra.specs.Records.{nested, Within, less, before_by}
use Rattle.algebra.specs.Staircase.{Bounded}
use Rattle.algebra.specs.NormalForm as form
use Rattle.algebra.specs.Basis.{leads, Passed}
use Rattle.algebra.proofs.Elements.{el_word}
use Rattle.algebra.proofs.Records as records
use Rattle.runs.specs.Question.{Question, single, AllYes}
use Rattle.runs.specs.Job.{Term, Job, closed, new, holding, coefficient_at, monomial_at}
use Rattle.runs.specs.Enter.{InRange, Falls, room_asks, terms_asks, enter_asks, Enters}
use Rattle.runs.specs.Generators.{in_variables, over_elements, generators}
use Rattle.runs.specs.Close.{lead, HasPower, stairs_asks}
use Rattle.runs.specs.Sound.{Sound, BasisPassed, BasisAgrees, SoundBasis}
use Rattle.runs.proofs.Questions.{yes_first, yes_rest}

-- a polynomial that Enter took
pub record Fine (m : FieldMeaning) (cmp : Comparison) (n : ℕ) (p : List Term) : Type 0 where
  pub some : 0 < length p
  pub elems : (i : ℕ) → i < length p → T (m.elem (coefficient_at p i)) × (coefficient_at p i ≢ m.zero)
  pub ranges : (i : ℕ) → i < length p → InRange n (monomial_at p i)
  pub falls : (i : ℕ) → i < length p → Falls cmp p i
  pub unit : coefficient_at p 0 ≡ m.one

pub fine : (m : FieldMeaning) (cmp : Comparison) (j : Job) (p : List Term) → AllYes (enter_asks m cmp j p) → Fine m cmp j.n p
fine m cmp j p y =
    let t = yes_rest (room_asks 0 j (length p)) (terms_asks m cmp j.n 0 p) y.1 in
    record { some = y.1.1.0; elems = t.0; ranges = t.1.0; falls = t.1.1.0; unit = t.1.1.1.0 }

pub fine_all : (m : FieldMeaning) (cmp : Comparison) (j : Job) (ps : List (List Term)) → Enters m cmp j ps → AllByRecursion (Fine m cmp j.n) ps
fine_all m cmp j [] h = tt
fine_all m cmp j (p ∷ ps) h = (fine m cmp j p h.0, fine_all m cmp (holding j (p ∷ [])) ps h.1)

-- the last question of Close
abbrev pub agree_ask : (m : FieldMeaning) → FieldLaws m → Comparison → Job → Question
agree_ask m laws cmp j = single 18 0 (BasisAgrees m laws cmp j)

module _ (m : FieldMeaning) (laws : FieldLaws m) (cmp : Comparison) (O : OrderLaws cmp) (n : ℕ) (fits : n ≤ variables) where
  abbrev F : Field (Elem m)
  F = field_of m laws

  abbrev P : List Term → Poly (Elem m) n
  P p = over_elements m laws n p

  pub ordered : Ordered n (before_by cmp n)
  ordered = records.ordered n fits cmp O

  -- monomials of the code within n variables

  within : (t : Monomial) → InRange n t → Within n t
  within t h k l = go k l (dec_lt k variables)
    where
      go : (k : ℕ) → n ≤ k → Dec (k < variables) → record_of.exponent t k ≡ 0
      go k l (yes q) = (h k q).1 l
      go k l (no q) = exponent_past t k (omega arith)

  small : (t : Monomial) → InRange n t → record_of.Small t
  small t h k l = omega (arith, (h k l).0)

  -- each term is less than the first
  drops : (p : List Term) → Fine m cmp n p → (i : ℕ) → suc i < length p → cmp (monomial_at p (suc i)) (monomial_at p 0) ≡ Less
  drops p f zero l = f.falls 1 l
  drops p f (suc i) l =
      O.transitive _ _ _ (small _ (f.ranges (suc (suc i)) l)) (small _ (f.ranges (suc i) (omega arith))) (small _ (f.ranges 0 (omega arith)))
      (f.falls (suc (suc i)) l) (drops p f i (omega arith))

  one_monic : (p : List Term) → Fine m cmp n p → P p ≡ (F.one, form.lead n (P p)) ∷ form.rest n (P p)
  one_monic [] f = absurd (omega (arith, f.some))
  one_monic (t ∷ p) f = ap (λ (c : Elem m). (c, nested n t.1) ∷ P p) (elem_path m (el_word m laws t.0 (f.elems 0 f.some).0 ∙ f.unit))

  one_falls : (p : List Term) → Fine m cmp n p → AllByRecursion (λ t. before_by cmp n t.1 (form.lead n (P p)) ≡ true) (form.rest n (P p))
  one_falls [] f = tt
  one_falls (t ∷ p) f =
      All-map (λ x. before_by cmp n x.1 (nested n t.1) ≡ true) _ (in_variables n p)
      (All-map (λ x. before_by cmp n x.1 (nested n t.1) ≡ true) _ p
      (All-from_get_or (λ x. before_by cmp n (nested n x.1) (nested n t.1) ≡ true) p (0, record_of.one) (λ i l.
      (records.nested_keeps n fits).comparisons cmp _ _ (within _ (f.ranges (suc i) (omega arith))) (within _ (f.ranges 0 f.some))
      ∙ ap less (drops (t ∷ p) f i (omega arith)))))

  one_small : (p : List Term) → Fine m cmp n p → Small n (form.lead n (P p))
  one_small [] f = absurd (omega (arith, f.some))
  one_small (t ∷ p) f = (records.nested_keeps n fits).bounds t.1 (small t.1 (f.ranges 0 f.some))

  module _ (ps : List (List Term)) (fs : AllByRecursion (Fine m cmp n) ps) where
    abbrev L : List (Poly (Elem m) n)
    L = generators m laws n ps

    length_is : length L ≡ length ps
    length_is = length-map (map (in_variables n) ps) _ ∙ length-map ps (in_variables n)

    inside : (i : ℕ) → i < length L → i < length ps
    inside i l = omega (arith, length_is)

    at_is : (i : ℕ) → i < length L → get_or L i [] ≡ P (get_or ps i [])
    at_is i l =
        get_or-map _ (map (in_variables n) ps) i [] [] (omega (arith, length_is, length-map ps (in_variables n)))
        ∙ ap (λ (p : Poly ℕ n). map (λ (t : ℕ × Mono n). (el m laws t.0, t.1)) p) (get_or-map (in_variables n) ps i [] [] (inside i l))

    fine_at : (i : ℕ) → i < length L → Fine m cmp n (get_or ps i [])
    fine_at i l = All-get_or (Fine m cmp n) ps i [] (inside i l) fs

    lead_of : (p : ℕ) → p < length L → get_or (leads n L) p (one n) ≡ lead m laws n ps p
    lead_of p l = get_or-map (form.lead n) L p [] (one n) l

    -- with a power of each variable among the leading monomials the staircase is finite
    pub bounded : ((k : ℕ) → k < n → HasPower m laws n ps k) → Bounded n (leads n L)
    bounded powers = record {
      small = All-from_get_or (Small n) (leads n L) (one n) (λ p l.
          let q : p < length L = omega (arith, length-map L (form.lead n)) in
          subst (Small n) (sym (lead_of p q)) (subst (λ (x : Poly (Elem m) n). Small n (form.lead n x)) (sym (at_is p q)) (one_small (get_or ps p []) (fine_at p q))));
      pures = λ k l.
          let x = powers k l in
          let q : x.0 < length L = omega (arith, length_is, x.1) in
          (x.0, omega (arith, length-map L (form.lead n), q), x.2.0, lead_of x.0 q ∙ x.2.1);
    }

    pub passed : AllYes (stairs_asks m laws cmp n ps) → Passed F n (before_by cmp n) L
    passed y = record {
      monic = λ p l. subst (λ (x : Poly (Elem m) n). x ≡ (F.one, form.lead n x) ∷ form.rest n x) (sym (at_is p l)) (one_monic (get_or ps p []) (fine_at p l));
      falls = λ p l. subst (λ (x : Poly (Elem m) n). AllByRecursion (λ t. before_by cmp n t.1 (form.lead n x) ≡ true) (form.rest n x)) (sym (at_is p l)) (one_falls (get_or ps p []) (fine_at p l));
      not_one = λ p l. y.0 p (inside p l);
      bounded = bounded y.1.0;
      apart = λ p q l r d. go p q l r d (ℕ_discrete p q);
      inside = λ p l. y.1.1.1.1.0 p (inside p l);
    }
      where
        go : (p q : ℕ) → p < length L → q < length L → divides n (lead m laws n ps p) (lead m laws n ps q) ≡ true → Dec (p ≡ q) → p ≡ q
        go p q l r d (yes e) = e
        go p q l r d (no e) = absurd (y.1.1.0 q (inside q r) p (inside p l) e d)

-- of a sound job

module _ (m : FieldMeaning) (laws : FieldLaws m) (cmp : Comparison) (O : OrderLaws cmp) (j : Job) (S : Sound m laws cmp j) where
  pub order_of : Ordered j.n (before_by cmp j.n)
  order_of = ordered m laws cmp O j.n S.opens.0.1

  pub basis_passed : AllYes (stairs_asks m laws cmp j.n j.polynomials) → BasisPassed m laws cmp j
  basis_passed = passed m laws cmp O j.n S.opens.0.1 j.polynomials (fine_all m cmp (new j.n) j.polynomials S.entered)

  pub closed_passed : j.stage ≡ closed → BasisPassed m laws cmp j
  closed_passed e = basis_passed (yes_first (stairs_asks m laws cmp j.n j.polynomials) (agree_ask m laws cmp j ∷ []) (S.closes e))

  pub closed_agrees : j.stage ≡ closed → BasisAgrees m laws cmp j
  closed_agrees e = (yes_rest (stairs_asks m laws cmp j.n j.polynomials) (agree_ask m laws cmp j ∷ []) (S.closes e)).0

pub sound_basis : SoundBasis
sound_basis = record { before_last = basis_passed; closed_job = λ m laws cmp O j S e. (closed_passed m laws cmp O j S e, closed_agrees m laws cmp O j S e) }
