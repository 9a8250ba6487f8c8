-- Convert of a closed job by tests over words: an accepted one by the words of a dual family of the table's rows, a refusal of 24 by the
-- coefficients of a Krylov vector that depends on those before it, and a refusal of 25 by those of a short recurrence.
use Rattle.std.proofs.Common.{◌≡◌, ℕ, suc, ◌+◌, ◌*◌, ◌<◌, ◌≤◌, Bool, true, cond, ◌&&◌, ◌||◌, T, eqb, ltb, ◌≢◌, ◌⊎◌, List, [], ◌∷◌, length, get_or, sym, refl, ap, ◌∙◌, ap₂, inl, inr, arith}
use Rattle.std.proofs.lemmas.Bool.{and_parts, or_cases, eqb-true, ltb-true, lt-ltb}
use Rattle.field.specs.Meaning.{FieldMeaning, FieldLaws}
use Rattle.order.specs.Laws.{Comparison, OrderLaws}
use Rattle.order.specs.Monomials.{every}
use Rattle.order.specs.Exponents.{every_to}
use Rattle.algebra.specs.Field.{Field}
use Rattle.algebra.specs.Vector.{sum, basis, apply, krylov, Combines, Independent, Least}
use Rattle.algebra.specs.Elements.{Elem, Elems, field_of, el, read}
use Rattle.algebra.specs.Lists.{build}
use Rattle.algebra.specs.NormalForm.{total}
use Rattle.algebra.specs.Records.{before_by}
use Rattle.algebra.specs.Shape.{HasShape, LeastAlone, ShapeDecided}
use Rattle.algebra.specs.Words.{words}
use Rattle.algebra.proofs.Elements.{el_word}
use Rattle.algebra.proofs.Lists.{get_or_build}
use Rattle.algebra.proofs.Span.{no_combination}
use Rattle.linear.specs.Recurrence.{Recurs}
use Rattle.linear.specs.Hankel.{hankel, Table}
use Rattle.linear.proofs.Tables.{not_shorter}
use Rattle.runs.specs.Question.{Question, single, each, AllYes}
use Rattle.runs.specs.Job.{Term, closed}
use Rattle.runs.specs.Generators.{generators, D, Tk}
use Rattle.runs.specs.Convert.{row, sequence, sequence_from, FreeTable, Written, shape_ask, table_ask}
use Rattle.runs.specs.Call.{convert, Answer, refused, accepted, Answers}
use Rattle.runs.specs.Sound.{Sound}
use Rattle.runs.proofs.Questions.{yes_append}
use Rattle.runs.proofs.Conversion as conversion
use Rattle.worked.specs.Examples.{closed_job}
use Rattle.worked.proofs.Tests
use Rattle.worked.proofs.Tests.{Tests, passes, all_yes, refused_after}
use Rattle.worked.proofs.Jobs.{Closing, has_entries, closed_sound}
use Rattle.worked.proofs.Words.{step_words, krylov_words, first_words, measured_word, entry, dual_words, Entries, same_word, sum_words, read_word, step_stands, krylov_stands, first_stands, measured_stands, independent_by}

-- the tests, over words

module _ (m : FieldMeaning) where
  -- the sequence, the right sides of the other rows, and the Krylov vectors
  abbrev pub sequence_words : ℕ → List (List (List ℕ)) → ℕ → List ℕ → List ℕ
  sequence_words d Ms k r = build (d + d) (measured_word m d (entry m Ms k) r (first_words m d))

  abbrev pub right_sides : ℕ → ℕ → List (List (List ℕ)) → ℕ → List ℕ → List (List ℕ)
  right_sides n d Ms k r = build n (λ i. build d (measured_word m d (entry m Ms k) r (step_words m d (entry m Ms i) (first_words m d))))

  abbrev pub vector_words : ℕ → List (List (List ℕ)) → ℕ → List (List ℕ)
  vector_words d Ms k = build (suc d) (krylov_words m d (entry m Ms k) (first_words m d))

  -- the word in row j and column i of the table of a sequence, and at place i of vector j
  abbrev pub table_word : List ℕ → ℕ → ℕ → ℕ
  table_word s j i = get_or s (j + i) m.zero

  abbrev pub vector_word : List (List ℕ) → ℕ → ℕ → ℕ
  vector_word vs j i = get_or (get_or vs j []) i m.zero

  -- row i of the output, along the sequence from j on
  abbrev pub along : ℕ → List ℕ → List ℕ → ℕ → ℕ → ℕ
  along d s out i j = total (words m) d (λ l. m.mul (get_or out (i * d + l) 0) (table_word s l j))

  abbrev pub recurrence_test : ℕ → ℕ → List ℕ → List ℕ → Bool
  recurrence_test d k s out = every d (λ j. eqb (m.add (along d s out k j) (table_word s d j)) m.zero)

  abbrev pub solution_test : ℕ → ℕ → ℕ → List ℕ → List (List ℕ) → List ℕ → Bool
  solution_test n d k s t out = every n (λ i. eqb i k || every d (λ j. eqb (along d s out i j) (vector_word t i j)))

  abbrev pub size_test : ℕ → ℕ → List ℕ → Bool
  size_test n d out = eqb (length out) (n * d) && (every (length out) (λ i. m.elem (get_or out i 0)) && every n (λ i. every d (λ l. ltb (i * d + l) (length out))))

  abbrev pub written_test : ℕ → ℕ → ℕ → List ℕ → List (List ℕ) → List ℕ → List (List ℕ) → Bool
  written_test n d k s t out R = size_test n d out && (recurrence_test d k s out && (solution_test n d k s t out && dual_words m d d (table_word s) R))

  -- coefficients that are elements
  abbrev pub elements_test : ℕ → List ℕ → Bool
  elements_test l c = every l (λ i. m.elem (get_or c i 0))

  -- vector e is the combination of those before it by c, and those before it are independent
  abbrev pub dependent_test : ℕ → ℕ → List (List ℕ) → List ℕ → List (List ℕ) → Bool
  dependent_test d e vs c R =
      ltb e d && (elements_test e c
      && (every d (λ i. eqb (vector_word vs e i) (total (words m) e (λ j. m.mul (get_or c j 0) (vector_word vs j i)))) && dual_words m d e (vector_word vs) R))

  -- the sequence has a recurrence of length l by c, and none shorter, since the l by l table is independent
  abbrev pub recurs_test : ℕ → ℕ → List ℕ → List ℕ → Bool
  recurs_test d l s c = every (d + d) (λ j. cond (ltb (j + l) (d + d)) (eqb (table_word s j l) (total (words m) l (λ i. m.mul (get_or c i 0) (table_word s j i)))) true)

  abbrev pub short_test : ℕ → ℕ → List ℕ → List (List ℕ) → List ℕ → List (List ℕ) → List (List ℕ) → Bool
  short_test d l s vs c H R = ltb l d && (elements_test l c && (recurs_test d l s c && (dual_words m l l (table_word s) H && dual_words m d d (vector_word vs) R)))

module _ (m : FieldMeaning) (laws : FieldLaws m) (cmp : Comparison) (O : OrderLaws cmp) (n : ℕ) (ps : List (List Term)) where
  module _ (S : Sound m laws cmp (closed_job n ps)) (Ms : List (List (List ℕ))) (E : Entries m laws cmp n ps Ms) where
    abbrev F : Field (Elem m)
    F = field_of m laws

    abbrev d : ℕ
    d = D m laws cmp n ps

    abbrev A : ℕ → ℕ → ℕ → Elem m
    A = Tk m laws cmp n ps

    -- the questions before 24

    abbrev pub front_asks : ℕ → List ℕ → ℕ → List Question
    front_asks k r room =
        single 19 0 (closed ≡ closed)
        ∷ single 20 0 ((1 ≤ k) × (k ≤ n))
        ∷ single 21 0 (length r ≡ d)
        ∷ each 22 0 (length r) (λ i. T (m.elem (get_or r i 0)))
        ∷ single 23 0 (n * d ≤ room)
        ∷ []

    abbrev pub front_tests : (k : ℕ) (r : List ℕ) (room : ℕ) → Tests (front_asks k r room)
    front_tests k r room = (
      Tests.once 19 0 (Tests.is_closed closed),
      (
        Tests.once 20 0 (Tests.both (Tests.at_most 1 k) (Tests.at_most k n)),
        (
          Tests.once 21 0 (Tests.equal_numbers (length r) d),
          (Tests.each_of 22 0 (length r) _ (λ i. Tests.test_of (m.elem (get_or r i 0))), (Tests.once 23 0 (Tests.at_most (n * d) room), tt)),
        ),
      ),
    )

    module _ (k : ℕ) (kn : k < n) where
      abbrev V : ℕ → ℕ → Elem m
      V = krylov F (apply F d (A k)) (basis F 0)

      abbrev vs : List (List ℕ)
      vs = vector_words m d Ms k

      decided : ShapeDecided F n (before_by cmp n) (generators m laws n ps) k
      decided = conversion.decided m laws cmp O (closed_job n ps) S refl k kn

      tells : Table F d (apply F d (A k)) (basis F 0)
      tells = conversion.tells m laws cmp O (closed_job n ps) S refl k kn

      vector-at : (j : ℕ) → j < suc d → (i : ℕ) → i < d → vector_word m vs j i ≡ (V j i).0
      vector-at j l i q =
          ap (λ (x : List ℕ). get_or x i m.zero) (get_or_build (suc d) (krylov_words m d (entry m Ms k) (first_words m d)) [] j l)
          ∙ krylov_stands m laws d (entry m Ms k) (A k) (E k kn) (first_words m d) (basis F 0) (first_stands m laws d) j i q

      coefficient : (l : ℕ) (c : List ℕ) → elements_test m l c ≡ true → (i : ℕ) → i < l → get_or c i 0 ≡ (el m laws (get_or c i 0)).0
      coefficient l c e i q = sym (el_word m laws (get_or c i 0) (Tests.test_holds _ (every_to l (λ i. m.elem (get_or c i 0)) e i q)))

      -- 24

      pub no_shape : (e : ℕ) (c : List ℕ) (R : List (List ℕ)) → dependent_test m d e vs c R ≡ true → (HasShape F n (generators m laws n ps) d k → ⊥) × LeastAlone F n (generators m laws n ps) k e
      no_shape e c R t =
          let a = and_parts (ltb e d) _ t in
          let b = and_parts (elements_test m e c) _ a.1 in
          let g = and_parts (every d (λ i. eqb (vector_word m vs e i) (total (words m) e (λ j. m.mul (get_or c j 0) (vector_word m vs j i))))) (dual_words m d e (vector_word m vs) R) b.1 in
          let low : e < d = ltb-true e d a.0 in
          let free : Independent F d e V = independent_by m laws d e (vector_word m vs) V (λ j l. vector-at j (omega arith)) R g.1 in
          let combines : Combines F d e (λ j. el m laws (get_or c j 0)) V (V e) = (λ i q.
          same_word m laws _ _ (vector-at e (omega arith) i q)
          (sum_words m laws e _ _ (λ j p. ap₂ m.mul (coefficient e c b.0 j p) (vector-at j (omega arith) i q)))
          (every_to d (λ i. eqb (vector_word m vs e i) (total (words m) e (λ j. m.mul (get_or c j 0) (vector_word m vs j i)))) g.0 i q)) in
          let least : LeastAlone F n (generators m laws n ps) k e = (decided.least e).1 ((_, combines), λ a x. no_combination F d e a V free x.0 x.1) in
          (λ h. let z : e ≡ d = (decided.full e least).0 h in omega arith, least)

      -- the sequence of a vector r

      module _ (r : List ℕ) (size : length r ≡ d) (elements : Elems m r) where
        abbrev s : List ℕ
        s = sequence_words m d Ms k r

        sequence-at : (j : ℕ) → j < d + d → get_or s j m.zero ≡ (sequence m laws cmp n ps k r j).0
        sequence-at j l =
            get_or_build (d + d) (measured_word m d (entry m Ms k) r (first_words m d)) m.zero j l
            ∙ measured_stands m laws d (entry m Ms k) (A k) (E k kn) (first_words m d) (basis F 0) (first_stands m laws d) r elements size j

        -- 25

        pub short : (l : ℕ) (c : List ℕ) (H R : List (List ℕ)) → short_test m d l s vs c H R ≡ true
            → HasShape F n (generators m laws n ps) d k × (FreeTable m laws cmp n ps k r → ⊥) × Least (Recurs F (sequence m laws cmp n ps k r) (d + d)) l
        short l c H R t =
            let a = and_parts (ltb l d) _ t in
            let b = and_parts (elements_test m l c) _ a.1 in
            let g = and_parts (recurs_test m d l s c) _ b.1 in
            let f = and_parts (dual_words m l l (table_word m s) H) (dual_words m d d (vector_word m vs) R) g.1 in
            let low : l < d = ltb-true l d a.0 in
            let free : Independent F d d V = independent_by m laws d d (vector_word m vs) V (λ j q. vector-at j (omega arith)) R f.1 in
            let rows : Independent F l l (hankel F (sequence m laws cmp n ps k r)) =
            independent_by m laws l l (table_word m s) (hankel F (sequence m laws cmp n ps k r)) (λ j p i q. sequence-at (j + i) (omega arith)) H f.0 in
            let recurs : Recurs F (sequence m laws cmp n ps k r) (d + d) l = (
              λ i. el m laws (get_or c i 0),
              λ j q.
                  same_word m laws _ _ (sequence-at (j + l) q)
                  (sum_words m laws l _ _ (λ i p. ap₂ m.mul (coefficient l c b.0 i p) (sequence-at (j + i) (omega arith))))
                  (within j q (every_to (d + d) (at_place) g.0 j (omega arith))),
            ) in
            let least : Least (Recurs F (sequence m laws cmp n ps k r) (d + d)) l = (recurs, λ e x. not_shorter F l (sequence m laws cmp n ps k r) rows e (x.0, λ j q. x.1 j (omega arith))) in
            (decided.shape.1 free, λ h. let z : l ≡ d = (tells.length_decides free (read m laws r) l least).0 h in omega arith, least)
          where
            test_at : ℕ → Bool
            test_at j = eqb (table_word m s j l) (total (words m) l (λ i. m.mul (get_or c i 0) (table_word m s j i)))

            at_place : ℕ → Bool
            at_place j = cond (ltb (j + l) (d + d)) (test_at j) true

            within : (j : ℕ) → j + l < d + d → at_place j ≡ true → test_at j ≡ true
            within j q e = sym (ap (λ b. cond b (test_at j) true) (lt-ltb (j + l) (d + d) q)) ∙ e

        -- accepted

        abbrev sides : List (List ℕ)
        sides = right_sides m n d Ms k r

        side-at : (i : ℕ) → i < n → (j : ℕ) → j < d → vector_word m sides i j ≡ (sequence_from m laws cmp n ps k r (apply F d (A i) (basis F 0)) j).0
        side-at i l j q =
            ap (λ (x : List ℕ). get_or x j m.zero) (get_or_build n (λ i. build d (measured_word m d (entry m Ms k) r (step_words m d (entry m Ms i) (first_words m d)))) [] i l)
            ∙ get_or_build d (measured_word m d (entry m Ms k) r (step_words m d (entry m Ms i) (first_words m d))) m.zero j q
            ∙ measured_stands m laws d (entry m Ms k) (A k) (E k kn) (step_words m d (entry m Ms i) (first_words m d)) (apply F d (A i) (basis F 0))
            (step_stands m laws d (entry m Ms i) (A i) (E i l) (first_words m d) (basis F 0) (first_stands m laws d)) r elements size j

        pub written : (out : List ℕ) (R : List (List ℕ)) → written_test m n d k s sides out R ≡ true → FreeTable m laws cmp n ps k r × Written m laws cmp n ps (suc k) r out
        written out R t = (
          independent_by m laws d d (table_word m s) (hankel F (sequence m laws cmp n ps k r)) (λ j l i q. sequence-at (j + i) (omega arith)) R g.1,
          record { size = eqb-true (length out) (n * d) z.0; elements = elems; rows = record { recurrence = recurrence; solution = solution } },
        )
          where
            a : (size_test m n d out ≡ true) × ((recurrence_test m d k s out && (solution_test m n d k s sides out && dual_words m d d (table_word m s) R)) ≡ true)
            a = and_parts (size_test m n d out) _ t

            b : (recurrence_test m d k s out ≡ true) × ((solution_test m n d k s sides out && dual_words m d d (table_word m s) R) ≡ true)
            b = and_parts (recurrence_test m d k s out) _ a.1

            g : (solution_test m n d k s sides out ≡ true) × (dual_words m d d (table_word m s) R ≡ true)
            g = and_parts (solution_test m n d k s sides out) (dual_words m d d (table_word m s) R) b.1

            z : (eqb (length out) (n * d) ≡ true) × ((every (length out) (λ i. m.elem (get_or out i 0)) && every n (λ i. every d (λ l. ltb (i * d + l) (length out)))) ≡ true)
            z = and_parts (eqb (length out) (n * d)) _ a.0

            w : (every (length out) (λ i. m.elem (get_or out i 0)) ≡ true) × (every n (λ i. every d (λ l. ltb (i * d + l) (length out))) ≡ true)
            w = and_parts (every (length out) (λ i. m.elem (get_or out i 0))) _ z.1

            elems : Elems m out
            elems i l = Tests.test_holds _ (every_to (length out) (λ i. m.elem (get_or out i 0)) w.0 i l)

            row_at : (i : ℕ) → i < n → (l : ℕ) → l < d → get_or out (i * d + l) 0 ≡ (row m laws d out i l).0
            row_at i p l q =
                read_word m laws out elems (i * d + l) (ltb-true _ _ (every_to d (λ l. ltb (i * d + l) (length out)) (every_to n (λ i. every d (λ l. ltb (i * d + l) (length out))) w.1 i p) l q))

            along-at : (i : ℕ) → i < n → (j : ℕ) → j < d → along m d s out i j ≡ (sum F d (λ l. F.◌⊗◌ (row m laws d out i l) (sequence m laws cmp n ps k r (l + j)))).0
            along-at i p j q = sum_words m laws d _ _ (λ l x. ap₂ m.mul (row_at i p l x) (sequence-at (l + j) (omega arith)))

            recurrence : (j : ℕ) → j < d → F.◌⊕◌ (sum F d (λ l. F.◌⊗◌ (row m laws d out k l) (sequence m laws cmp n ps k r (l + j)))) (sequence m laws cmp n ps k r (d + j)) ≡ F.zer
            recurrence j q =
                same_word m laws (m.add (along m d s out k j) (table_word m s d j)) m.zero (ap₂ m.add (along-at k kn j q) (sequence-at (d + j) (omega arith))) refl
                (every_to d (λ j. eqb (m.add (along m d s out k j) (table_word m s d j)) m.zero) b.0 j q)

            solved : (i : ℕ) → i ≢ k → (eqb i k ≡ true) ⊎ (every d (λ j. eqb (along m d s out i j) (vector_word m sides i j)) ≡ true) → (j : ℕ) → j < d → eqb (along m d s out i j) (vector_word m sides i j) ≡ true
            solved i ne (inl x) j q = absurd (ne (eqb-true i k x))
            solved i ne (inr x) j q = every_to d (λ j. eqb (along m d s out i j) (vector_word m sides i j)) x j q

            solution : (i : ℕ) → i < n → i ≢ k → (j : ℕ) → j < d
                → sum F d (λ l. F.◌⊗◌ (row m laws d out i l) (sequence m laws cmp n ps k r (l + j))) ≡ sequence_from m laws cmp n ps k r (apply F d (A i) (basis F 0)) j
            solution i p ne j q =
                same_word m laws _ _ (along-at i p j q) (side-at i p j q)
                (solved i ne (or_cases (eqb i k) _ (every_to n (λ i. eqb i k || every d (λ j. eqb (along m d s out i j) (vector_word m sides i j))) g.0 i p)) j q)

        pub shape_of : FreeTable m laws cmp n ps k r → HasShape F n (generators m laws n ps) d k
        shape_of free = decided.shape.1 (tells.vectors_free (read m laws r) free)

-- the answers to a call for x_(k + 1)

module _ (m : FieldMeaning) (cmp : Comparison) (O : OrderLaws cmp) (n : ℕ) (ps : List (List Term)) (Ms : List (List (List ℕ))) (x : Closing m cmp n ps Ms) (laws : FieldLaws m) where
  abbrev S : Sound m laws cmp (closed_job n ps)
  S = closed_sound m cmp n ps Ms x laws

  abbrev E : Entries m laws cmp n ps Ms
  E = has_entries m cmp n ps Ms x laws

  abbrev dimension : ℕ
  dimension = D m laws cmp n ps

  abbrev Answered : ℕ → List ℕ → ℕ → Answer → Type 0
  Answered k r room a = Sound m laws cmp (closed_job n ps) × Answers m laws cmp (closed_job n ps) (convert (suc k) r room) a

  module _ (k : ℕ) (r : List ℕ) (room : ℕ) (t : passes (front_asks m laws cmp O n ps S Ms E (suc k) r room) (front_tests m laws cmp O n ps S Ms E (suc k) r room) ≡ true) where
    abbrev front : List Question
    front = front_asks m laws cmp O n ps S Ms E (suc k) r room

    abbrev later : List Question
    later = shape_ask m laws cmp n ps (suc k) ∷ table_ask m laws cmp n ps (suc k) r ∷ []

    yeses : AllYes front
    yeses = all_yes front (front_tests m laws cmp O n ps S Ms E (suc k) r room) t

    kn : k < n
    kn = yeses.1.0.1

    size : length r ≡ dimension
    size = yeses.1.1.0

    elements : Elems m r
    elements = yeses.1.1.1.0

    pub convert_accepted : (out : List ℕ) (R : List (List ℕ)) → written_test m n dimension k (sequence_words m dimension Ms k r) (right_sides m n dimension Ms k r) out R ≡ true → Answered k r room (accepted out)
    convert_accepted out R e =
        let y = written m laws cmp O n ps S Ms E k kn r size elements out R e in
        let shape = shape_of m laws cmp O n ps S Ms E k kn r size elements y.0 in
        (S, (yes_append front later yeses (shape, (y.0, tt)), y.1))

    pub convert_no_shape : (e : ℕ) (c : List ℕ) (R : List (List ℕ)) → dependent_test m dimension e (vector_words m dimension Ms k) c R ≡ true → Answered k r room (refused 24 0 e)
    convert_no_shape e c R h = let y = no_shape m laws cmp O n ps S Ms E k kn e c R h in (S, refused_after front later 24 0 e yeses (inl (y.0, refl, refl, y.1)))

    pub convert_short : (l : ℕ) (c : List ℕ) (H R : List (List ℕ)) → short_test m dimension l (sequence_words m dimension Ms k r) (vector_words m dimension Ms k) c H R ≡ true → Answered k r room (refused 25 0 l)
    convert_short l c H R h =
        let y = short m laws cmp O n ps S Ms E k kn r size elements l c H R h in
        (S, refused_after front later 25 0 l yeses (inr (y.0, inl (y.1, refl, refl, y.2))))
