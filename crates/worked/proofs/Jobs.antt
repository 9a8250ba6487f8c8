-- The questions of Enter and Close by tests, and jobs that are sound because their polynomials pass them.
use Rattle.std.proofs.Common.{◌≡◌, ℕ, zero, suc, ◌+◌, ◌<◌, Bool, true, false, not, ◌&&◌, T, eqb, leb, List, [], ◌∷◌, map, length, sym, refl, ap, ◌∙◌, ap₂}
use Rattle.std.proofs.lemmas.Bool.{true≢false, and_parts, eq-eqb}
use Rattle.std.proofs.ByRecursion.{All-map, All-from_get_or}
use Rattle.field.specs.Meaning.{FieldMeaning, FieldLaws}
use Rattle.order.specs.declared.monomial.Monomial.{Monomial}
use Rattle.order.specs.Monomials.{variables, exponent, every}
use Rattle.order.specs.Monomials as record_of
use Rattle.order.specs.Laws.{Comparison}
use Rattle.order.specs.Exponents.{every_to, every_from}
use Rattle.algebra.specs.Vector.{sum}
use Rattle.algebra.specs.Elements.{Elem, field_of}
use Rattle.algebra.specs.Monomial.{Mono, one, power, divides, pure}
use Rattle.algebra.specs.Monomial as mono
use Rattle.algebra.specs.NormalForm.{total}
use Rattle.algebra.specs.Records.{before_by}
use Rattle.algebra.specs.Basis.{rest_at, stairs}
use Rattle.algebra.specs.Matrices.{Agree}
use Rattle.algebra.specs.Words.{words, ElementTerms}
use Rattle.algebra.proofs.Monomials as monos
use Rattle.runs.specs.Question.{AllYes}
use Rattle.runs.specs.Job.{Term, Job, opened, new, holding, terms_held, coefficient_at, monomial_at, most_polynomials, most_terms, most_exponent, most_stairs}
use Rattle.runs.specs.Enter.{InRange, Falls, enter_asks, Enters}
use Rattle.runs.specs.Generators.{in_variables, generators, D, Tk}
use Rattle.runs.specs.Close.{lead, HasPower, Undivided, Inside, stairs_asks, basis_asks, close_asks}
use Rattle.runs.specs.Call.{close, refused, accepted, Answers}
use Rattle.runs.specs.Run.{open_asks}
use Rattle.runs.specs.Sound.{Sound}
use Rattle.runs.proofs.Entered.{fine_all}
use Rattle.worked.specs.Examples.{opened_job, closed_job}
use Rattle.worked.proofs.Tests
use Rattle.worked.proofs.Tests.{Known, Tests, passes, refuses, all_yes, refused_by, not_closed}
use Rattle.worked.proofs.Words.{entry, Entries, columns, entries, same_word, sum_words}

-- Enter

abbrev pub in_range : (n : ℕ) (t : Monomial) → Known (InRange n t)
in_range n t = Tests.below variables _ (λ k. Tests.both (Tests.at_most (exponent t k) most_exponent) (Tests.if_then (Tests.at_most n k) (Tests.equal_numbers (exponent t k) 0)))

module _ (m : FieldMeaning) (cmp : Comparison) where
  abbrev pub falls : (p : List Term) (i : ℕ) → Known (Falls cmp p i)
  falls p zero = record { test = true; holds = λ e. tt; fails = λ e x. true≢false e }
  falls p (suc i) = Tests.is_less (cmp (monomial_at p (suc i)) (monomial_at p i))

  abbrev pub enter_tests : (j : Job) (p : List Term) → Tests (enter_asks m cmp j p)
  enter_tests j p = (
    Tests.once 5 0 (Tests.is_opened j.stage),
    (
      Tests.once 6 0 (Tests.at_most (suc (length j.polynomials)) most_polynomials),
      (
        Tests.once 7 0 (Tests.at_most 1 (length p)),
        (
          Tests.once 8 0 (Tests.at_most (terms_held j.polynomials + length p) most_terms),
          (
            Tests.each_of 9 0 (length p) _ (λ i. Tests.both (Tests.test_of (m.elem (coefficient_at p i))) (Tests.none (Tests.equal_numbers (coefficient_at p i) m.zero))),
            (
              Tests.each_of 10 0 (length p) _ (λ i. in_range j.n (monomial_at p i)),
              (Tests.each_of 11 0 (length p) _ (falls p), (Tests.once 12 0 (Tests.equal_numbers (coefficient_at p 0) m.one), tt)),
            ),
          ),
        ),
      ),
    ),
  )

  -- each of the polynomials in turn passes
  abbrev pub enter_all : Job → List (List Term) → Bool
  enter_all j [] = true
  enter_all j (p ∷ ps) = passes (enter_asks m cmp j p) (enter_tests j p) && enter_all (holding j (p ∷ [])) ps

  pub enters : (j : Job) (ps : List (List Term)) → enter_all j ps ≡ true → Enters m cmp j ps
  enters j [] e = tt
  enters j (p ∷ ps) e =
      let x = and_parts (passes (enter_asks m cmp j p) (enter_tests j p)) (enter_all (holding j (p ∷ [])) ps) e in
      (all_yes (enter_asks m cmp j p) (enter_tests j p) x.0, enters (holding j (p ∷ [])) ps x.1)

  -- what was entered has coefficients that are elements
  pub element_terms : (j : Job) (ps : List (List Term)) → Enters m cmp j ps → ElementTerms m j.n (map (in_variables j.n) ps)
  element_terms j [] h = tt
  element_terms j (p ∷ ps) h = (
    All-map (λ t. T (m.elem t.0)) (λ (t : Term). (t.0, _)) p (All-from_get_or (λ t. T (m.elem t.0)) p (0, record_of.one) (λ i l. ((fine_all m cmp j (p ∷ ps) h).0.elems i l).0)),
    element_terms (holding j (p ∷ [])) ps h.1,
  )

-- Close

module _ (m : FieldMeaning) (laws : FieldLaws m) (n : ℕ) (ps : List (List Term)) where
  abbrev pub power_test : ℕ → Bool
  power_test k = not (every (length ps) (λ p. not (pure n k (lead m laws n ps p))))

  pub power_holds : (k : ℕ) → k < n → power_test k ≡ true → HasPower m laws n ps k
  power_holds k l e =
      let x = Tests.some_holds (length ps) (λ p. pure n k (lead m laws n ps p)) e in
      (x.0, x.1, (mono.exponent n (lead m laws n ps x.0) k, monos.equal_eq n _ _ x.2))

  pub power_fails : (k : ℕ) → k < n → power_test k ≡ false → HasPower m laws n ps k → ⊥
  power_fails k l e x =
      let t : Mono n = lead m laws n ps x.0 in
      let same : t ≡ power n k (mono.exponent n t k) = x.2.1 ∙ ap (power n k) (sym (ap (λ (y : Mono n). mono.exponent n y k) x.2.1 ∙ monos.exp_power n k l x.2.0)) in
      Tests.equal_fails n t (power n k (mono.exponent n t k)) (Tests.some_fails (length ps) (λ p. pure n k (lead m laws n ps p)) e x.0 x.1) same

  abbrev pub undivided : (p : ℕ) → Known (Undivided m laws n ps p)
  undivided p =
      Tests.below (length ps) _ (λ q. Tests.if_then (Tests.none (Tests.equal_numbers q p)) (Tests.none (Tests.is_true (divides n (lead m laws n ps q) (lead m laws n ps p)))))

module _ (m : FieldMeaning) (laws : FieldLaws m) (cmp : Comparison) (n : ℕ) (ps : List (List Term)) where
  abbrev pub inside : (p : ℕ) → Known (Inside m laws cmp n ps p)
  inside p = Tests.all_of _ (λ (t : Elem m × Mono n). Tests.among n t.1 (stairs n (before_by cmp n) (generators m laws n ps))) (rest_at n (generators m laws n ps) p)

  abbrev pub stairs_tests : Tests (stairs_asks m laws cmp n ps)
  stairs_tests = (
    Tests.each_of 13 0 (length ps) _ (λ p. Tests.none (Tests.equal_monomials n (lead m laws n ps p) (one n))),
    (
      Tests.each_by 14 0 n (HasPower m laws n ps) (power_test m laws n ps) (power_holds m laws n ps) (power_fails m laws n ps),
      (
        Tests.each_of 15 0 (length ps) _ (undivided m laws n ps),
        (Tests.once 16 0 (Tests.at_most (D m laws cmp n ps) most_stairs), (Tests.each_of 17 0 (length ps) _ inside, tt)),
      ),
    ),
  )

  -- row j and column i of a product of matrices
  abbrev pub product_word : ℕ → (ℕ → ℕ → ℕ) → (ℕ → ℕ → ℕ) → ℕ → ℕ → ℕ
  product_word d A B j i = total (words m) d (λ r. m.mul (A j r) (B r i))

  abbrev pub commuting_words : ℕ → List (List (List ℕ)) → ℕ → ℕ → ℕ → ℕ → Bool
  commuting_words d Ms k l i j = eqb (product_word d (entry m Ms k) (entry m Ms l) j i) (product_word d (entry m Ms l) (entry m Ms k) j i)

  abbrev pub agree_words : ℕ → List (List (List ℕ)) → Bool
  agree_words d Ms = every n (λ k. every n (λ l. every d (λ i. every d (commuting_words d Ms k l i))))

  module _ (Ms : List (List (List ℕ))) (E : Entries m laws cmp n ps Ms) where
    abbrev d : ℕ
    d = D m laws cmp n ps

    abbrev A : ℕ → ℕ → ℕ → Elem m
    A = Tk m laws cmp n ps

    product_stands : (k l : ℕ) → k < n → l < n → (i j : ℕ) → i < d → j < d → product_word d (entry m Ms k) (entry m Ms l) j i ≡ (sum (field_of m laws) d (λ r. (field_of m laws).◌⊗◌ (A k j r) (A l r i))).0
    product_stands k l kn ln i j p q = sum_words m laws d _ _ (λ r x. ap₂ m.mul (E k kn j r q x) (E l ln r i x p))

    pub agree_holds : agree_words d Ms ≡ true → Agree (field_of m laws) n (before_by cmp n) (generators m laws n ps)
    agree_holds e k l kn ln i j p q =
        same_word m laws _ _ (product_stands k l kn ln i j p q) (product_stands l k ln kn i j p q)
        (every_to d (commuting_words d Ms k l i)
        (every_to d (λ i. every d (commuting_words d Ms k l i)) (every_to n (λ l. every d (λ i. every d (commuting_words d Ms k l i))) (every_to n (λ k. every n (λ l. every d (λ i. every d (commuting_words d Ms k l i)))) e k kn) l ln) i p)
        j q)

    pub agree_fails : agree_words d Ms ≡ false → Agree (field_of m laws) n (before_by cmp n) (generators m laws n ps) → ⊥
    agree_fails e h = true≢false (sym always ∙ e)
      where
        at : (k l : ℕ) → k < n → l < n → (i : ℕ) → i < d → every d (commuting_words d Ms k l i) ≡ true
        at k l kn ln i p =
            every_from d (commuting_words d Ms k l i)
            (λ j q. eq-eqb _ _ (product_stands k l kn ln i j p q ∙ ap (λ (x : Elem m). x.0) (h k l kn ln i j p q) ∙ sym (product_stands l k ln kn i j p q)))

        always : agree_words d Ms ≡ true
        always =
            every_from n (λ k. every n (λ l. every d (λ i. every d (commuting_words d Ms k l i))))
            (λ k kn. every_from n (λ l. every d (λ i. every d (commuting_words d Ms k l i))) (λ l ln. every_from d (λ i. every d (commuting_words d Ms k l i)) (at k l kn ln)))

    abbrev pub agree_known : Known (Agree (field_of m laws) n (before_by cmp n) (generators m laws n ps))
    agree_known = record { test = agree_words d Ms; holds = agree_holds; fails = agree_fails }

    abbrev pub basis_tests : Tests (basis_asks m laws cmp n ps)
    basis_tests = (stairs_tests.0, (stairs_tests.1.0, (stairs_tests.1.1.0, (stairs_tests.1.1.1.0, (stairs_tests.1.1.1.1.0, (Tests.once 18 0 agree_known, tt))))))

-- sound jobs

module _ (m : FieldMeaning) (cmp : Comparison) (n : ℕ) (ps : List (List Term)) where
  -- n is from 1 to 4, and each polynomial passes Enter
  abbrev pub enters_test : Bool
  enters_test = (leb 1 n && leb n variables) && enter_all m cmp (new n) ps

  pub opens : enters_test ≡ true → AllYes (open_asks n)
  opens e = (Tests.both_holds (Tests.at_most 1 n) (Tests.at_most n variables) (and_parts (leb 1 n && leb n variables) (enter_all m cmp (new n) ps) e).0, tt)

  pub entered : enters_test ≡ true → Enters m cmp (new n) ps
  entered e = enters m cmp (new n) ps (and_parts (leb 1 n && leb n variables) (enter_all m cmp (new n) ps) e).1

  module _ (laws : FieldLaws m) (e : enters_test ≡ true) where
    pub sound_open : Sound m laws cmp (opened_job n ps)
    sound_open = record { opens = opens e; entered = entered e; closes = λ x. absurd (not_closed x) }

    pub sound_closed : AllYes (basis_asks m laws cmp n ps) → Sound m laws cmp (closed_job n ps)
    sound_closed y = record { opens = opens e; entered = entered e; closes = λ x. y }

    module _ (Ms : List (List (List ℕ))) (is : columns m cmp n ps (D m laws cmp n ps) ≡ Ms) where
      pub matrices-are : Entries m laws cmp n ps Ms
      matrices-are = entries m laws cmp n ps (element_terms m cmp (new n) ps (entered e)) Ms is

      -- the questions of Close, with the matrices known
      abbrev pub close-tests : Tests (close_asks m laws cmp (opened_job n ps))
      close-tests = (Tests.once 5 0 (Tests.is_opened opened), basis_tests m laws cmp n ps Ms matrices-are)

-- polynomials that pass Enter one after the other, and whose multiplication matrices have the columns Ms
pub record Entering (m : FieldMeaning) (cmp : Comparison) (n : ℕ) (ps : List (List Term)) (Ms : List (List (List ℕ))) : Type 0 where
  pub passes_enter : enters_test m cmp n ps ≡ true
  pub has_matrices : (laws : FieldLaws m) → columns m cmp n ps (D m laws cmp n ps) ≡ Ms

module _ (m : FieldMeaning) (cmp : Comparison) (n : ℕ) (ps : List (List Term)) (Ms : List (List (List ℕ))) (x : Entering m cmp n ps Ms) (laws : FieldLaws m) where
  abbrev pub tests : Tests (close_asks m laws cmp (opened_job n ps))
  tests = close-tests m cmp n ps laws x.passes_enter Ms (x.has_matrices laws)

  pub close_refused : (number line place : ℕ) → refuses (close_asks m laws cmp (opened_job n ps)) tests number line place ≡ true → Sound m laws cmp (opened_job n ps) × Answers m laws cmp (opened_job n ps) close (refused number line place)
  close_refused number line place e = (sound_open m cmp n ps laws x.passes_enter, refused_by (close_asks m laws cmp (opened_job n ps)) tests number line place e)

-- and that pass Close
pub record Closing (m : FieldMeaning) (cmp : Comparison) (n : ℕ) (ps : List (List Term)) (Ms : List (List (List ℕ))) : Type 0 where
  pub enters : Entering m cmp n ps Ms
  pub passes_close : (laws : FieldLaws m) → passes (close_asks m laws cmp (opened_job n ps)) (tests m cmp n ps Ms enters laws) ≡ true

module _ (m : FieldMeaning) (cmp : Comparison) (n : ℕ) (ps : List (List Term)) (Ms : List (List (List ℕ))) (x : Closing m cmp n ps Ms) (laws : FieldLaws m) where
  pub has_entries : Entries m laws cmp n ps Ms
  has_entries = matrices-are m cmp n ps laws x.enters.passes_enter Ms (x.enters.has_matrices laws)

  yeses : AllYes (close_asks m laws cmp (opened_job n ps))
  yeses = all_yes (close_asks m laws cmp (opened_job n ps)) (tests m cmp n ps Ms x.enters laws) (x.passes_close laws)

  pub close_accepted : Sound m laws cmp (opened_job n ps) × Answers m laws cmp (opened_job n ps) close (accepted (D m laws cmp n ps ∷ []))
  close_accepted = (sound_open m cmp n ps laws x.enters.passes_enter, (yeses, refl))

  pub closed_sound : Sound m laws cmp (closed_job n ps)
  closed_sound = sound_closed m cmp n ps laws x.enters.passes_enter yeses.1
