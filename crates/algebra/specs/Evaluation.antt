-- Evaluation of polynomials at commuting linear maps of vectors.
--   act F n T m v           the maps T 0 .. T (n - 1) put to v, each as often as the monomial m has its variable
--   Commute n T             any two of the first n maps can change places
--   evaluate F n T e p      the value of p at the maps T, put to the vector e
--   Evaluates F n T e       the evaluation sees only coefficients, is linear, turns x_k into T k, and kills an ideal whose generators it kills
--   EvaluationHolds        commuting linear maps have such an evaluation, over every lawful field
-- Used by: the matrices of an ideal, and the companion map of a shaped basis.
use Rattle.std.specs.Prelude.{◌≡◌, ℕ, zero, suc, ◌<◌, List, ◌++◌}
use Rattle.std.specs.List.{AllByRecursion}
use Rattle.field.specs.Meaning.{FieldMeaning, FieldLaws}
use Rattle.algebra.specs.Field.{Field}
use Rattle.algebra.specs.Vector.{LinearMap, krylov}
use Rattle.algebra.specs.Elements.{Elem, field_of}
use Rattle.algebra.specs.Monomial.{Mono, one, var}
use Rattle.algebra.specs.Polynomial.{Poly, ev, ◌≈◌, term_mul}
use Rattle.algebra.specs.Ideal.{Member}

abbrev pub Commute : {V : Type 0} → ℕ → (ℕ → V → V) → Type 0
Commute {V} n T = (k l : ℕ) → k < n → l < n → (v : V) → T k (T l v) ≡ T l (T k v)

module _ {K : Type 0} (F : Field K) where
  abbrev pub act : (n : ℕ) → (ℕ → (ℕ → K) → ℕ → K) → Mono n → (ℕ → K) → ℕ → K
  act zero T m v = v
  act (suc n) T m v = krylov F (T 0) (act n (λ k. T (suc k)) m.1 v) m.0

  module _ (n : ℕ) (T : ℕ → (ℕ → K) → ℕ → K) (e : ℕ → K) where
    abbrev pub evaluate : Poly K n → ℕ → K
    evaluate p j = ev F p (λ m. act n T m e j)

    pub record Evaluates : Type 0 where
      pub depends : (p q : Poly K n) → ◌≈◌ F n p q → evaluate p ≡ evaluate q
      pub sums : (p q : Poly K n) (j : ℕ) → evaluate (p ++ q) j ≡ F.◌⊕◌ (evaluate p j) (evaluate q j)
      pub scales : (c : K) (p : Poly K n) (j : ℕ) → evaluate (term_mul F n c (one n) p) j ≡ F.◌⊗◌ c (evaluate p j)
      pub shifts : (k : ℕ) → k < n → (p : Poly K n) → evaluate (term_mul F n F.one (var n k) p) ≡ T k (evaluate p)
      pub kills : (L : List (Poly K n)) → AllByRecursion (λ l. evaluate l ≡ (λ j. F.zer)) L → (f : Poly K n) → Member F n L f → evaluate f ≡ (λ j. F.zer)

abbrev pub EvaluationHolds : Type 0
EvaluationHolds = (m : FieldMeaning) (laws : FieldLaws m) (n D : ℕ) (T : ℕ → (ℕ → Elem m) → ℕ → Elem m) → ((k : ℕ) → LinearMap (field_of m laws) D (T k)) → Commute n T → (e : ℕ → Elem m) → Evaluates (field_of m laws) n T e
