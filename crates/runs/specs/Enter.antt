-- Enter: one polynomial more.
--   InRange n t                  the exponents of the monomial t are at most the largest of a term, and 0 past variable n
--   Falls cmp p i                 the term at place i is less than the one before it
--   room_asks line j c            the questions 6 to 8: has the job j room for one more polynomial, of c terms
--   terms_asks m cmp n line p     the questions 9 to 12, put to the terms of the polynomial p of n variables
--   enter_asks m cmp j p          the questions of Enter
--   Enters m cmp j ps             each of the polynomials in turn passes them, the job holding those before it
-- Used by: Enter and Fill; Reduce asks InRange too.
use Rattle.std.specs.Prelude.{◌≡◌, ℕ, zero, suc, ◌+◌, ◌<◌, ◌≤◌, T, ◌≢◌, List, [], ◌∷◌, ◌++◌, length}
use Rattle.std.specs.declared.cmp.Ordering.TheVariants.{Less}
use Rattle.field.specs.Meaning.{FieldMeaning}
use Rattle.order.specs.declared.monomial.Monomial.{Monomial}
use Rattle.order.specs.Monomials.{variables, exponent}
use Rattle.order.specs.Laws.{Comparison}
use Rattle.runs.specs.Question.{Question, single, each, AllYes}
use Rattle.runs.specs.Job.{Term, Job, opened, holding, terms_held, coefficient_at, monomial_at, most_polynomials, most_terms, most_exponent}

abbrev pub InRange : ℕ → Monomial → Type 0
InRange n t = (k : ℕ) → k < variables → (exponent t k ≤ most_exponent) × (n ≤ k → exponent t k ≡ 0)

abbrev pub room_asks : ℕ → Job → ℕ → List Question
room_asks line j c =
    single 6 line (length j.polynomials < most_polynomials)
    ∷ single 7 line (0 < c)
    ∷ single 8 line (terms_held j.polynomials + c ≤ most_terms)
    ∷ []

abbrev pub Falls : Comparison → List Term → ℕ → Type 0
Falls cmp p zero = Unit {0}
Falls cmp p (suc i) = cmp (monomial_at p (suc i)) (monomial_at p i) ≡ Less

module _ (m : FieldMeaning) (cmp : Comparison) where
  abbrev pub terms_asks : ℕ → ℕ → List Term → List Question
  terms_asks n line p =
      each 9 line (length p) (λ i. T (m.elem (coefficient_at p i)) × (coefficient_at p i ≢ m.zero))
      ∷ each 10 line (length p) (λ i. InRange n (monomial_at p i))
      ∷ each 11 line (length p) (Falls cmp p)
      ∷ single 12 line (coefficient_at p 0 ≡ m.one)
      ∷ []

  abbrev pub enter_asks : Job → List Term → List Question
  enter_asks j p = single 5 0 (j.stage ≡ opened) ∷ (room_asks 0 j (length p) ++ terms_asks j.n 0 p)

  abbrev pub Enters : Job → List (List Term) → Type 0
  Enters j [] = Unit {0}
  Enters j (p ∷ ps) = AllYes (enter_asks j p) × Enters (holding j (p ∷ [])) ps
