-- Monomials and polynomials at linear maps: one variable after the other, one term after the other, and over maps that agree.
use Rattle.std.proofs.Common.{◌≡◌, ℕ, zero, suc, ◌<◌, ◌≤◌, List, [], ◌∷◌, ◌++◌, length, get_or, sym, refl, ap, ◌∙◌, ap₂, arith}
use mathlib.Core.Path.{fun_ext}
use Rattle.field.specs.Meaning.{FieldMeaning, FieldLaws, FieldTotal}
use Rattle.algebra.specs.Field.{Field}
use Rattle.algebra.specs.Vector.{krylov}
use Rattle.algebra.specs.Elements.{Elem, field_of, el}
use Rattle.algebra.specs.Monomial.{Mono}
use Rattle.algebra.specs.Polynomial.{Poly, ev}
use Rattle.algebra.specs.Evaluation.{act, evaluate}
use Rattle.algebra.specs.Records.{with_exponents}
use Rattle.algebra.proofs.Elements.{el_elem}
use Rattle.linear.specs.Words.{added}
use Rattle.linear.proofs.Reading.{mul_el}
use Rattle.linear.proofs.Adding.{added_at}
use Rattle.staircase.specs.declared.rules.Term.{Term}
use Rattle.tables.specs.declared.tables.Tables.{Tables}
use Rattle.conversion.specs.Powers.{Stands, unit}
use Rattle.conversion.specs.Values.{acts, value_of}

module _ {K : Type 0} (F : Field K) where
  -- the maps T i .. T (i + j - 1) put to f, that of i last, each as often as ex says
  abbrev pub through : (ℕ → (ℕ → K) → ℕ → K) → (ℕ → ℕ) → ℕ → ℕ → (ℕ → K) → ℕ → K
  through T ex zero i f = f
  through T ex (suc j) i f = krylov F (T i) (through T ex j (suc i) f) (ex i)

  through_shift : (T : ℕ → (ℕ → K) → ℕ → K) (ex : ℕ → ℕ) (j i : ℕ) (f : ℕ → K) → through (λ k. T (suc k)) (λ k. ex (suc k)) j i f ≡ through T ex j (suc i) f
  through_shift T ex zero i f = refl
  through_shift T ex (suc j) i f = ap (λ (g : ℕ → K). krylov F (T (suc i)) g (ex (suc i))) (through_shift T ex j (suc i) f)

  pub through_acts : (T : ℕ → (ℕ → K) → ℕ → K) (ex : ℕ → ℕ) (n : ℕ) (f : ℕ → K) → through T ex n 0 f ≡ act F n T (with_exponents n ex) f
  through_acts T ex zero f = refl
  through_acts T ex (suc n) f = ap (λ (g : ℕ → K). krylov F (T 0) g (ex 0)) (sym (through_shift T ex n 0 f) ∙ through_acts (λ k. T (suc k)) (λ k. ex (suc k)) n f)

  -- two maps that agree in the first d coordinates
  module _ (d : ℕ) where
    abbrev pub Same : (ℕ → K) → (ℕ → K) → Type 0
    Same f g = (i : ℕ) → i < d → f i ≡ g i

    powers_along : (A B : (ℕ → K) → ℕ → K) → ((f g : ℕ → K) → Same f g → Same (A f) (B g)) → (f g : ℕ → K) → Same f g → (j : ℕ) → Same (krylov F A f j) (krylov F B g j)
    powers_along A B e f g h zero = h
    powers_along A B e f g h (suc j) = e (krylov F A f j) (krylov F B g j) (powers_along A B e f g h j)

    act_along : (n : ℕ) (T U : ℕ → (ℕ → K) → ℕ → K) → ((k : ℕ) → k < n → (f g : ℕ → K) → Same f g → Same (T k f) (U k g)) → (a : Mono n) (f g : ℕ → K) → Same f g → Same (act F n T a f) (act F n U a g)
    act_along zero T U e a f g h = h
    act_along (suc n) T U e a f g h =
        powers_along (T 0) (U 0) (e 0 (omega arith)) (act F n (λ k. T (suc k)) a.1 f) (act F n (λ k. U (suc k)) a.1 g)
        (act_along n (λ k. T (suc k)) (λ k. U (suc k)) (λ k l. e (suc k) (omega arith)) a.1 f g h) a.0

    pub evaluate_along : (n : ℕ) (T U : ℕ → (ℕ → K) → ℕ → K) → ((k : ℕ) → k < n → (f g : ℕ → K) → Same f g → Same (T k f) (U k g)) → (e : ℕ → K) (p : Poly K n) → Same (evaluate F n T e p) (evaluate F n U e p)
    evaluate_along n T U h e p j l = ap (ev F p) (fun_ext (λ a. act_along n T U h a e e (λ i q. refl) j l))

module _ (m : FieldMeaning) (laws : FieldLaws m) where
  -- a multiple of words that stand for f, added to words that stand for s
  pub multiple_added : FieldTotal m → (d w : ℕ) (xs ys zs : List ℕ) (s f : ℕ → Elem m) → d ≤ length xs → d ≤ length ys → zs ≡ added m w xs ys → Stands m d ys s → Stands m d xs f → Stands m d zs (λ j. (field_of m laws).◌⊕◌ (s j) ((field_of m laws).◌⊗◌ (el m laws w) (f j)))
  multiple_added total d w xs ys zs s f lx ly is S G j h =
      ap (λ (us : List ℕ). get_or us j 0) is
      ∙ added_at m w xs ys j (omega arith) (omega arith)
      ∙ ap₂ m.add (S j h)
      (ap (m.mul w) (G j h) ∙ mul_el m laws total w (f j).0 ∙ ap (λ (x : Elem m). m.mul (el m laws w).0 x.0) (el_elem m laws (f j)))

  -- one term more, at the end
  pub value_more : (t : Tables) (n j : ℕ) (terms : List Term) (term : Term) → value_of m laws t n (terms ++ term ∷ []) j ≡ (field_of m laws).◌⊕◌ (value_of m laws t n terms j) ((field_of m laws).◌⊗◌ (el m laws term.coefficient) (acts m laws t n term.monomial (unit m laws) j))
  value_more t n j [] term = (field_of m laws).add_comm _ _
  value_more t n j (x ∷ terms) term =
      ap ((field_of m laws).◌⊕◌ ((field_of m laws).◌⊗◌ (el m laws x.coefficient) (acts m laws t n x.monomial (unit m laws) j))) (value_more t n j terms term)
      ∙ sym ((field_of m laws).add_assoc _ _ _)
