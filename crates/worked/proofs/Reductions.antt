-- Reduce of a closed job by tests over words: what it writes is the value of the polynomial at the multiplication matrices.
use Rattle.std.proofs.Common.{◌≡◌, ℕ, zero, suc, ◌<◌, Bool, true, ◌&&◌, T, eqb, List, [], ◌∷◌, length, get_or, sym, refl, subst, ap₂, arith}
use Rattle.std.proofs.lemmas.Bool.{and_parts, eqb-true}
use Rattle.field.specs.Meaning.{FieldMeaning, FieldLaws}
use Rattle.order.specs.Laws.{Comparison, OrderLaws}
use Rattle.order.specs.Monomials.{every}
use Rattle.order.specs.Exponents.{every_to}
use Rattle.algebra.specs.Field.{Field}
use Rattle.algebra.specs.Vector.{basis, apply}
use Rattle.algebra.specs.Elements.{Elem, Elems, field_of, read}
use Rattle.algebra.specs.Monomial.{Mono}
use Rattle.algebra.specs.Polynomial.{ev, combination}
use Rattle.algebra.specs.Ideal.{Congruent}
use Rattle.algebra.specs.Evaluation.{act}
use Rattle.algebra.specs.Records.{nested, before_by}
use Rattle.algebra.specs.Matrices.{value}
use Rattle.algebra.proofs.Elements.{el_word}
use Rattle.algebra.proofs.Matrices.{congruences}
use Rattle.runs.specs.Question.{AllYes}
use Rattle.runs.specs.Job.{Term, closed, coefficient_at, monomial_at}
use Rattle.runs.specs.Generators.{over_elements, generators, D, stair_at, Tk}
use Rattle.runs.specs.Reduce.{reduce_asks}
use Rattle.runs.specs.Call.{reduce, accepted, Answers}
use Rattle.runs.specs.Sound.{Sound}
use Rattle.runs.proofs.Entered.{order_of, closed_passed}
use Rattle.worked.specs.Examples.{closed_job}
use Rattle.worked.proofs.Tests
use Rattle.worked.proofs.Tests.{Tests, passes, all_yes}
use Rattle.worked.proofs.Words.{krylov_words, first_words, entry, Stands, Matrix, same_word, read_word, krylov_stands, first_stands}
use Rattle.worked.proofs.Jobs.{in_range, Closing, has_entries, closed_sound}

combination_ext : {K M : Type 0} (d : ℕ) (s : ℕ → M) (a b : ℕ → K) → ((i : ℕ) → i < d → a i ≡ b i) → combination d s a ≡ combination d s b
combination_ext zero s a b h = refl
combination_ext {K} {M} (suc d) s a b h = ap₂ (λ (x : K) (y : List (K × M)). (x, s d) ∷ y) (h d (omega arith)) (combination_ext d s a b (λ i l. h i (omega arith)))

module _ (m : FieldMeaning) where
  -- the matrices put to v, each as often as the monomial t has its variable
  abbrev pub acted : ℕ → (n : ℕ) → (ℕ → ℕ → ℕ → ℕ) → Mono n → List ℕ → List ℕ
  acted d zero A t v = v
  acted d (suc n) A t v = krylov_words m d (A 0) (acted d n (λ k. A (suc k)) t.1 v) t.0

  -- the word at place j of the value of a polynomial
  abbrev pub value_word : ℕ → (n : ℕ) → (ℕ → ℕ → ℕ → ℕ) → List Term → ℕ → ℕ
  value_word d n A [] j = m.zero
  value_word d n A (t ∷ p) j = m.add (m.mul t.0 (get_or (acted d n A (nested n t.1) (first_words m d)) j m.zero)) (value_word d n A p j)

  abbrev pub reduced_test : ℕ → ℕ → List (List (List ℕ)) → List Term → List ℕ → Bool
  reduced_test d n Ms p out = eqb (length out) d && (every (length out) (λ i. m.elem (get_or out i 0)) && every d (λ j. eqb (value_word d n (entry m Ms) p j) (get_or out j 0)))

module _ (m : FieldMeaning) (laws : FieldLaws m) where
  acted_stands : (d n : ℕ) (A : ℕ → ℕ → ℕ → ℕ) (B : ℕ → ℕ → ℕ → Elem m) → ((k : ℕ) → k < n → Matrix m laws d (A k) (B k)) → (ws : List ℕ) (v : ℕ → Elem m) → Stands m laws d ws v
      → (t : Mono n) → Stands m laws d (acted m d n A t ws) (act (field_of m laws) n (λ k. apply (field_of m laws) d (B k)) t v)
  acted_stands d zero A B h ws v s t = s
  acted_stands d (suc n) A B h ws v s t =
      krylov_stands m laws d (A 0) (B 0) (h 0 (omega arith)) _ _ (acted_stands d n (λ k. A (suc k)) (λ k. B (suc k)) (λ k l. h (suc k) (omega arith)) ws v s t.1) t.0

  value_stands : (d n : ℕ) (A : ℕ → ℕ → ℕ → ℕ) (B : ℕ → ℕ → ℕ → Elem m) → ((k : ℕ) → k < n → Matrix m laws d (A k) (B k))
      → (p : List Term) → ((i : ℕ) → i < length p → T (m.elem (coefficient_at p i)))
      → (j : ℕ) → j < d → value_word m d n A p j ≡ (ev (field_of m laws) (over_elements m laws n p) (λ t. act (field_of m laws) n (λ k. apply (field_of m laws) d (B k)) t (basis (field_of m laws) 0) j)).0
  value_stands d n A B h [] e j l = refl
  value_stands d n A B h (t ∷ p) e j l =
      ap₂ m.add
      (ap₂ m.mul (sym (el_word m laws t.0 (e 0 (omega arith)))) (acted_stands d n A B h (first_words m d) (basis (field_of m laws) 0) (first_stands m laws d) (nested n t.1) j l))
      (value_stands d n A B h p (λ i q. e (suc i) (omega arith)) j l)

module _ (m : FieldMeaning) (cmp : Comparison) (O : OrderLaws cmp) (n : ℕ) (ps : List (List Term)) (Ms : List (List (List ℕ))) (x : Closing m cmp n ps Ms) (laws : FieldLaws m) where
  abbrev F : Field (Elem m)
  F = field_of m laws

  abbrev d : ℕ
  d = D m laws cmp n ps

  abbrev pub reduce_tests : (p : List Term) (room : ℕ) → Tests (reduce_asks m laws cmp (closed_job n ps) p room)
  reduce_tests p room = (
    Tests.once 19 0 (Tests.is_closed closed),
    (
      Tests.each_of 9 0 (length p) _ (λ i. Tests.test_of (m.elem (coefficient_at p i))),
      (Tests.each_of 10 0 (length p) _ (λ i. in_range n (monomial_at p i)), (Tests.once 23 0 (Tests.at_most d room), tt)),
    ),
  )

  module _ (p : List Term) (room : ℕ) (t : passes (reduce_asks m laws cmp (closed_job n ps) p room) (reduce_tests p room) ≡ true) where
    pub reduce_accepted : (out : List ℕ) → reduced_test m d n Ms p out ≡ true → Sound m laws cmp (closed_job n ps) × Answers m laws cmp (closed_job n ps) (reduce p room) (accepted out)
    reduce_accepted out e = (S, (yeses, record { size = size; elements = elems; congruent = congruent }))
      where
        S : Sound m laws cmp (closed_job n ps)
        S = closed_sound m cmp n ps Ms x laws

        yeses : AllYes (reduce_asks m laws cmp (closed_job n ps) p room)
        yeses = all_yes (reduce_asks m laws cmp (closed_job n ps) p room) (reduce_tests p room) t

        a : (eqb (length out) d ≡ true) × ((every (length out) (λ i. m.elem (get_or out i 0)) && every d (λ j. eqb (value_word m d n (entry m Ms) p j) (get_or out j 0))) ≡ true)
        a = and_parts (eqb (length out) d) _ e

        b : (every (length out) (λ i. m.elem (get_or out i 0)) ≡ true) × (every d (λ j. eqb (value_word m d n (entry m Ms) p j) (get_or out j 0)) ≡ true)
        b = and_parts (every (length out) (λ i. m.elem (get_or out i 0))) _ a.1

        size : length out ≡ d
        size = eqb-true (length out) d a.0

        elems : Elems m out
        elems i l = Tests.test_holds _ (every_to (length out) (λ i. m.elem (get_or out i 0)) b.0 i l)

        is-value : (j : ℕ) → j < d → value F n (before_by cmp n) (generators m laws n ps) (over_elements m laws n p) j ≡ read m laws out j
        is-value j l =
            same_word m laws _ _ (value_stands m laws d n (entry m Ms) (Tk m laws cmp n ps) (has_entries m cmp n ps Ms x laws) p yeses.1.0 j l) (read_word m laws out elems j (omega (arith, size)))
            (every_to d (λ j. eqb (value_word m d n (entry m Ms) p j) (get_or out j 0)) b.1 j l)

        congruent : Congruent F n (generators m laws n ps) (over_elements m laws n p) (combination d (stair_at m laws cmp n ps) (read m laws out))
        congruent =
            subst (Congruent F n (generators m laws n ps) (over_elements m laws n p)) (combination_ext d (stair_at m laws cmp n ps) _ _ is-value)
            ((congruences F n (before_by cmp n) (order_of m laws cmp O (closed_job n ps) S) (generators m laws n ps) (closed_passed m laws cmp O (closed_job n ps) S refl)).polynomial (over_elements m laws n p))
