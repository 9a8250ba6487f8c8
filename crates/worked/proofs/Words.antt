-- Words that stand for elements: sums, products of matrices and vectors, Krylov vectors and measured sequences over words are the
-- words of those over elements; and a family of vectors is independent where words of a dual family pass a test.
use Rattle.std.proofs.Common.{◌≡◌, ℕ, zero, suc, ◌<◌, Bool, true, false, cond, ◌&&◌, eqb, List, [], map, length, get_or, sym, refl, ap, ◌∙◌, ap₂, arith}
use Rattle.std.proofs.lemmas.Bool.{and_parts, eqb-true}
use Rattle.field.specs.Meaning.{FieldMeaning, FieldLaws}
use Rattle.order.specs.Laws.{Comparison}
use Rattle.order.specs.Monomials.{every}
use Rattle.order.specs.Exponents.{every_to}
use Rattle.algebra.specs.Field.{Field}
use Rattle.algebra.specs.Vector.{sum, basis, apply, krylov, Independent}
use Rattle.algebra.specs.Elements.{Elem, Elems, elem_path, field_of, el, read}
use Rattle.algebra.specs.Lists.{build}
use Rattle.algebra.specs.Monomial.{times, var}
use Rattle.algebra.specs.NormalForm.{total}
use Rattle.algebra.specs.Basis.{stair, normal_form}
use Rattle.algebra.specs.Records.{before_by}
use Rattle.algebra.specs.Words.{words, ElementTerms}
use Rattle.algebra.proofs.Elements.{el_word}
use Rattle.algebra.proofs.Lists.{get_or_build}
use Rattle.algebra.proofs.Span.{dual→independent}
use Rattle.algebra.proofs.Words.{words_agree}
use Rattle.linear.specs.Hankel.{measured}
use Rattle.linear.proofs.Reading.{read_at}
use Rattle.runs.specs.Job.{Term}
use Rattle.runs.specs.Generators.{in_variables, D, Tk}
use Rattle.worked.proofs.Tests.{test_holds}

module _ (m : FieldMeaning) where
  -- a matrix at a vector, and its powers
  abbrev pub step_words : ℕ → (ℕ → ℕ → ℕ) → List ℕ → List ℕ
  step_words d A v = build d (λ j. total (words m) d (λ i. m.mul (A j i) (get_or v i m.zero)))

  abbrev pub krylov_words : ℕ → (ℕ → ℕ → ℕ) → List ℕ → ℕ → List ℕ
  krylov_words d A v zero = v
  krylov_words d A v (suc j) = step_words d A (krylov_words d A v j)

  abbrev pub unit_word : ℕ → ℕ → ℕ
  unit_word i j = cond (eqb i j) m.one m.zero

  -- the column of the monomial 1
  abbrev pub first_words : ℕ → List ℕ
  first_words d = build d (unit_word 0)

  abbrev pub measured_word : ℕ → (ℕ → ℕ → ℕ) → List ℕ → List ℕ → ℕ → ℕ
  measured_word d A r v j = total (words m) d (λ i. m.mul (get_or r i 0) (get_or (krylov_words d A v j) i m.zero))

  -- a word that lists of columns, one list for each variable, have in row j and column i of the matrix of x_k
  abbrev pub entry : List (List (List ℕ)) → ℕ → ℕ → ℕ → ℕ
  entry Ms k j i = get_or (get_or (get_or Ms k []) i []) j m.zero

  -- the words of the first d columns of the multiplication matrices
  abbrev pub columns : Comparison → (n : ℕ) → List (List Term) → ℕ → List (List (List ℕ))
  columns cmp n ps d =
      build n (λ k. build d (λ i. normal_form (words m) n (before_by cmp n) (map (in_variables n) ps) (times n (var n k) (stair n (before_by cmp n) (map (in_variables n) ps) i))))

  -- c rows R of d words are elements, and dual to the c vectors of the words w
  abbrev pub are_elements : ℕ → ℕ → List (List ℕ) → Bool
  are_elements c d R = every c (λ k. every d (λ i. m.elem (get_or (get_or R k []) i 0)))

  abbrev pub dual_words : ℕ → ℕ → (ℕ → ℕ → ℕ) → List (List ℕ) → Bool
  dual_words d c w R =
      are_elements c d R && every c (λ k. every c (λ j. eqb (total (words m) d (λ i. m.mul (get_or (get_or R k []) i 0) (w j i))) (unit_word k j)))

module _ (m : FieldMeaning) (laws : FieldLaws m) where
  abbrev F : Field (Elem m)
  F = field_of m laws

  pub same_word : {x y : Elem m} (a b : ℕ) → a ≡ x.0 → b ≡ y.0 → eqb a b ≡ true → x ≡ y
  same_word a b p q e = elem_path m (sym p ∙ eqb-true a b e ∙ q)

  pub sum_words : (d : ℕ) (f : ℕ → ℕ) (g : ℕ → Elem m) → ((i : ℕ) → i < d → f i ≡ (g i).0) → total (words m) d f ≡ (sum F d g).0
  sum_words zero f g h = refl
  sum_words (suc d) f g h = ap₂ m.add (sum_words d f g (λ i l. h i (omega arith))) (h d (omega arith))

  -- the first d words of a list are those of a vector
  abbrev pub Stands : ℕ → List ℕ → (ℕ → Elem m) → Type 0
  Stands d ws v = (i : ℕ) → i < d → get_or ws i m.zero ≡ (v i).0

  abbrev pub Matrix : ℕ → (ℕ → ℕ → ℕ) → (ℕ → ℕ → Elem m) → Type 0
  Matrix d A B = (j i : ℕ) → j < d → i < d → A j i ≡ (B j i).0

  pub step_stands : (d : ℕ) (A : ℕ → ℕ → ℕ) (B : ℕ → ℕ → Elem m) → Matrix d A B → (ws : List ℕ) (v : ℕ → Elem m) → Stands d ws v → Stands d (step_words m d A ws) (apply F d B v)
  step_stands d A B h ws v s j l = get_or_build d _ m.zero j l ∙ sum_words d _ _ (λ i q. ap₂ m.mul (h j i l q) (s i q))

  pub krylov_stands : (d : ℕ) (A : ℕ → ℕ → ℕ) (B : ℕ → ℕ → Elem m) → Matrix d A B → (ws : List ℕ) (v : ℕ → Elem m) → Stands d ws v
      → (j : ℕ) → Stands d (krylov_words m d A ws j) (krylov F (apply F d B) v j)
  krylov_stands d A B h ws v s zero = s
  krylov_stands d A B h ws v s (suc j) = step_stands d A B h (krylov_words m d A ws j) (krylov F (apply F d B) v j) (krylov_stands d A B h ws v s j)

  unit_by : (b : Bool) → cond b m.one m.zero ≡ (cond b F.one F.zer).0
  unit_by true = refl
  unit_by false = refl

  pub unit_stands : (i j : ℕ) → unit_word m i j ≡ (basis F i j).0
  unit_stands i j = unit_by (eqb i j)

  pub first_stands : (d : ℕ) → Stands d (first_words m d) (basis F 0)
  first_stands d i l = get_or_build d (unit_word m 0) m.zero i l ∙ unit_stands 0 i

  -- lists that are read
  pub read_word : (xs : List ℕ) → Elems m xs → (k : ℕ) → k < length xs → get_or xs k 0 ≡ (read m laws xs k).0
  read_word xs h k l = sym (ap (λ (x : Elem m). x.0) (read_at m laws xs k l) ∙ el_word m laws (get_or xs k 0) (h k l))

  pub measured_stands : (d : ℕ) (A : ℕ → ℕ → ℕ) (B : ℕ → ℕ → Elem m) → Matrix d A B → (ws : List ℕ) (v : ℕ → Elem m) → Stands d ws v
      → (r : List ℕ) → Elems m r → length r ≡ d → (j : ℕ) → measured_word m d A r ws j ≡ (measured F d (apply F d B) v (read m laws r) j).0
  measured_stands d A B h ws v s r el e j = sum_words d _ _ (λ i l. ap₂ m.mul (read_word r el i (omega arith)) (krylov_stands d A B h ws v s j i l))

  -- the matrices of a job
  abbrev pub Entries : Comparison → ℕ → List (List Term) → List (List (List ℕ)) → Type 0
  Entries cmp n ps Ms = (k : ℕ) → k < n → Matrix (D m laws cmp n ps) (entry m Ms k) (Tk m laws cmp n ps k)

  pub entries : (cmp : Comparison) (n : ℕ) (ps : List (List Term)) → ElementTerms m n (map (in_variables n) ps)
      → (Ms : List (List (List ℕ))) → columns m cmp n ps (D m laws cmp n ps) ≡ Ms → Entries cmp n ps Ms
  entries cmp n ps t Ms is k kn j i l q =
      ap (λ (x : List (List (List ℕ))). entry m x k j i) (sym is)
      ∙ ap (λ (x : List (List ℕ)). get_or (get_or x i []) j m.zero) (get_or_build n (λ k. build (D m laws cmp n ps) (λ i. column k i)) [] k kn)
      ∙ ap (λ (x : List ℕ). get_or x j m.zero) (get_or_build (D m laws cmp n ps) (column k) [] i q)
      ∙ (words_agree m laws n (before_by cmp n) (map (in_variables n) ps) t).same_matrices k j i
    where
      column : ℕ → ℕ → List ℕ
      column k i = normal_form (words m) n (before_by cmp n) (map (in_variables n) ps) (times n (var n k) (stair n (before_by cmp n) (map (in_variables n) ps) i))

  -- independence by a dual family
  pub row_word : (c d : ℕ) (R : List (List ℕ)) → are_elements m c d R ≡ true → (k : ℕ) → k < c → (i : ℕ) → i < d → get_or (get_or R k []) i 0 ≡ (el m laws (get_or (get_or R k []) i 0)).0
  row_word c d R e k l i q =
      sym (el_word m laws _ (test_holds _ (every_to d (λ i. m.elem (get_or (get_or R k []) i 0)) (every_to c (λ k. every d (λ i. m.elem (get_or (get_or R k []) i 0))) e k l) i q)))

  pub independent_by : (d c : ℕ) (w : ℕ → ℕ → ℕ) (v : ℕ → ℕ → Elem m) → ((j : ℕ) → j < c → (i : ℕ) → i < d → w j i ≡ (v j i).0)
      → (R : List (List ℕ)) → dual_words m d c w R ≡ true → Independent F d c v
  independent_by d c w v h R e =
      dual→independent F d c (λ k i. el m laws (get_or (get_or R k []) i 0)) v (λ k j l q.
      same_word (product k j) (unit_word m k j)
      (sum_words d _ _ (λ i p. ap₂ m.mul (row_word c d R parts.0 k l i p) (h j q i p)))
      (unit_stands k j)
      (every_to c (λ j. eqb (product k j) (unit_word m k j)) (every_to c (λ k. every c (λ j. eqb (product k j) (unit_word m k j))) parts.1 k l) j q))
    where
      product : ℕ → ℕ → ℕ
      product k j = total (words m) d (λ i. m.mul (get_or (get_or R k []) i 0) (w j i))

      parts : (are_elements m c d R ≡ true) × (every c (λ k. every c (λ j. eqb (product k j) (unit_word m k j))) ≡ true)
      parts = and_parts (are_elements m c d R) _ e
