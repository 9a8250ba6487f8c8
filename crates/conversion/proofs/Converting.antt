-- From the matrices that tables hold to those of the job: what the questions find, and what the rows are, is what Convert asks for.
use Rattle.std.proofs.Common.{◌≡◌, ℕ, suc, pred, ◌+◌, ◌-◌, ◌*◌, ◌<◌, ◌≤◌, T, List, [], ◌∷◌, ◌++◌, length, get_or, take, Ok, Err, Result, sym, refl, ap, ◌∙◌, subst, inl, inr, arith, get_or-take}
use mathlib.Core.Path.{fun_ext}
use native.Mathlib.Decide.{ℕ_discrete}
use Rattle.std.proofs.lemmas.List.{length-take-le}
use Rattle.field.specs.Meaning.{FieldMeaning, FieldLaws}
use Rattle.order.specs.Laws.{Comparison, OrderLaws}
use Rattle.algebra.specs.Field.{Field}
use Rattle.algebra.specs.Vector.{basis, apply, krylov, Independent, Least, Degree}
use Rattle.algebra.specs.Elements.{Elem, Elems, field_of, el, read}
use Rattle.algebra.specs.Polynomial.{Poly}
use Rattle.algebra.specs.Shape.{HasShape, LeastAlone}
use Rattle.algebra.proofs.Sums as sums
use Rattle.linear.specs.Recurrence.{Recurs}
use Rattle.linear.specs.Hankel.{hankel, measured}
use Rattle.linear.proofs.Reading.{read_at}
use Rattle.runs.specs.Question.{Question, AllYes, Refused}
use Rattle.runs.specs.Job.{Term}
use Rattle.runs.specs.Generators.{generators, D, Tk}
use Rattle.runs.specs.Convert.{row, sequence, sequence_from, FreeTable, Rows, Written, shape_ask, table_ask, vector_asks}
use Rattle.runs.specs.Sound.{Sound}
use Rattle.runs.proofs.Conversion.{decided, tells}
use Rattle.tables.specs.declared.tables.Tables.{Tables}
use Rattle.tables.specs.Holds.{stair_count, entry_of, Holds}
use Rattle.polynomials.specs.declared.fault.JobFault.{JobFault}
use Rattle.polynomials.specs.declared.fault.JobFault.TheVariants.{NoShape, DependentRows}
use Rattle.polynomials.specs.Faults.{number_of, place_of}
use Rattle.conversion.specs.Powers.{map_of, unit, power, measure}
use Rattle.conversion.specs.Asked.{vector_words_asks, HasNoShape, Monic, FullLength, ShortLength}
use Rattle.conversion.specs.Rows.{Row}
use Rattle.conversion.specs.Phases.{RowsWritten}
use Rattle.conversion.specs.Answer.{closed_job, Converted}
use Rattle.polynomials.proofs.Answering.{refused_first as first_refused}
use Rattle.runs.proofs.Outputs.{place_in}
use Rattle.staircase.proofs.Replacing.{before_column}
use Rattle.conversion.proofs.Along.{independent_along, degree_along, apply_along, krylov_along, measured_along}

module _ (m : FieldMeaning) (laws : FieldLaws m) (cmp : Comparison) (O : OrderLaws cmp) (n : ℕ) (ps : List (List Term)) (S : Sound m laws cmp (closed_job n ps)) (t : Tables) (H : Holds m laws cmp n ps t) where
  abbrev F : Field (Elem m)
  F = field_of m laws

  abbrev d : ℕ
  d = D m laws cmp n ps

  abbrev L : List (Poly (Elem m) n)
  L = generators m laws n ps

  abbrev Step : ℕ → (ℕ → Elem m) → ℕ → Elem m
  Step k = apply F d (Tk m laws cmp n ps k)

  pub map_is : (k : ℕ) → k < n → (f g : ℕ → Elem m) → ((i : ℕ) → i < stair_count t → f i ≡ g i) → (j : ℕ) → j < stair_count t → map_of m laws t k f j ≡ Step k g j
  map_is k kn f g h j p = apply_along F (stair_count t) (entry_of m laws t k) (Tk m laws cmp n ps k) (λ j i. H.entries k j i kn) f g h j p ∙ ap (λ (x : ℕ). apply F x (Tk m laws cmp n ps k) g j) H.size

  -- of x_k, counted from 0

  module _ (k : ℕ) (kn : k < n) where
    power_is : (j i : ℕ) → j < stair_count t → i < stair_count t → power m laws t k (unit m laws) j i ≡ krylov F (Step k) (basis F 0) j i
    power_is j i q p = krylov_along F (stair_count t) (entry_of m laws t k) (Tk m laws cmp n ps k) (λ j i. H.entries k j i kn) (unit m laws) (unit m laws) (λ i l. refl) j i p ∙ ap (λ (x : ℕ). krylov F (apply F x (Tk m laws cmp n ps k)) (basis F 0) j i) H.size

    measure_is : (r : List ℕ) (f g : ℕ → Elem m) → ((i : ℕ) → i < stair_count t → f i ≡ g i) → measure m laws t k r f ≡ sequence_from m laws cmp n ps k r g
    measure_is r f g h = fun_ext (λ j. measured_along F (stair_count t) (entry_of m laws t k) (Tk m laws cmp n ps k) (λ j i. H.entries k j i kn) (read m laws r) f g h j ∙ ap (λ (x : ℕ). measured F x (apply F x (Tk m laws cmp n ps k)) g (read m laws r) j) H.size)

    sequence_is : (r : List ℕ) → measure m laws t k r (unit m laws) ≡ sequence m laws cmp n ps k r
    sequence_is r = measure_is r (unit m laws) (unit m laws) (λ i l. refl)

    side_is : (r : List ℕ) (i : ℕ) → i < n → measure m laws t k r (map_of m laws t i (unit m laws)) ≡ sequence_from m laws cmp n ps k r (Step i (basis F 0))
    side_is r i p = measure_is r (map_of m laws t i (unit m laws)) (Step i (basis F 0)) (map_is i p (unit m laws) (unit m laws) (λ i l. refl))

    -- 24

    shape_yes : Independent F (stair_count t) (stair_count t) (power m laws t k (unit m laws)) → HasShape F n L d k
    shape_yes h =
        (decided m laws cmp O (closed_job n ps) S refl k kn).shape.1
        (subst (λ (x : ℕ). Independent F x x (krylov F (Step k) (basis F 0))) H.size (independent_along F (stair_count t) (power m laws t k (unit m laws)) (krylov F (Step k) (basis F 0)) (stair_count t) power_is h))

    shape_no : (f : JobFault) → HasNoShape m laws (stair_count t) (power m laws t k (unit m laws)) f → (HasShape F n L d k → ⊥) × ((j : ℕ) × (f ≡ NoShape j) × LeastAlone F n L k j)
    shape_no f x =
        let D = decided m laws cmp O (closed_job n ps) S refl k kn in
        let least = (D.least x.0).1 (subst (λ (y : ℕ). Degree F y (krylov F (Step k) (basis F 0)) x.0) H.size (degree_along F (stair_count t) (power m laws t k (unit m laws)) (krylov F (Step k) (basis F 0)) (stair_count t) power_is x.0 x.2 x.3)) in
        (λ h. omega (arith, x.2, H.size, (D.full x.0 least).0 h), (x.0, x.1, least))

    -- 25

    least_is : (r : List ℕ) (l : ℕ) → Least (Recurs F (measure m laws t k r (unit m laws)) (stair_count t + stair_count t)) l → Least (Recurs F (sequence m laws cmp n ps k r) (d + d)) l
    least_is r l x = subst (λ (y : ℕ). Least (Recurs F (sequence m laws cmp n ps k r) (y + y)) l) H.size (subst (λ (s : ℕ → Elem m). Least (Recurs F s (stair_count t + stair_count t)) l) (sequence_is r) x)

    table_yes : HasShape F n L d k → (r c : List ℕ) → FullLength m laws (stair_count t) (measure m laws t k r (unit m laws)) c → FreeTable m laws cmp n ps k r
    table_yes h r c x = ((tells m laws cmp O (closed_job n ps) S refl k kn).length_decides ((decided m laws cmp O (closed_job n ps) S refl k kn).shape.0 h) (read m laws r) (stair_count t) (least_is r (stair_count t) x.0)).1 H.size

    table_no : HasShape F n L d k → (r : List ℕ) (f : JobFault) → ShortLength m laws (stair_count t) (measure m laws t k r (unit m laws)) f → (FreeTable m laws cmp n ps k r → ⊥) × ((l : ℕ) × (f ≡ DependentRows l) × Least (Recurs F (sequence m laws cmp n ps k r) (d + d)) l)
    table_no h r f x =
        let least = least_is r x.0 x.3 in
        (λ free. x.2 (((tells m laws cmp O (closed_job n ps) S refl k kn).length_decides ((decided m laws cmp O (closed_job n ps) S refl k kn).shape.0 h) (read m laws r) x.0 least).0 free ∙ sym H.size), (x.0, x.1, least))

    table_free : (r : List ℕ) → FreeTable m laws cmp n ps k r → Independent F (stair_count t) (stair_count t) (hankel F (measure m laws t k r (unit m laws)))
    table_free r h = subst (λ (x : ℕ). Independent F x x (hankel F (measure m laws t k r (unit m laws)))) (sym H.size) (subst (λ (s : ℕ → Elem m). Independent F d d (hankel F s)) (sym (sequence_is r)) h)

    -- the rows

    sequence_monic : (r c : List ℕ) → Monic m laws (stair_count t) (measure m laws t k r (unit m laws)) c → Monic m laws d (sequence m laws cmp n ps k r) c
    sequence_monic r c x = subst (λ (y : ℕ). Monic m laws y (sequence m laws cmp n ps k r) c) H.size (subst (λ (s : ℕ → Elem m). Monic m laws (stair_count t) s c) (sequence_is r) x)

    -- row i of the words out
    unfoldable RowAt : List ℕ → List ℕ → List ℕ → ℕ → Type 0
    RowAt r c out i = Row m laws d (hankel F (sequence m laws cmp n ps k r)) c (sequence_from m laws cmp n ps k r (Step i (basis F 0))) i k (λ l. get_or out (i * d + l) 0)

    sequence_row : (r c out : List ℕ) (i : ℕ) → i < n → Row m laws (stair_count t) (hankel F (measure m laws t k r (unit m laws))) c (measure m laws t k r (map_of m laws t i (unit m laws))) i k (λ l. get_or out (i * stair_count t + l) 0) → RowAt r c out i
    unfolding RowAt
    sequence_row r c out i p x =
        subst (λ (y : ℕ). Row m laws y (hankel F (sequence m laws cmp n ps k r)) c (sequence_from m laws cmp n ps k r (Step i (basis F 0))) i k (λ l. get_or out (i * y + l) 0)) H.size
        (subst (λ (b : ℕ → Elem m). Row m laws (stair_count t) (hankel F (sequence m laws cmp n ps k r)) c b i k (λ l. get_or out (i * stair_count t + l) 0)) (side_is r i p)
        (subst (λ (s : ℕ → Elem m). Row m laws (stair_count t) (hankel F s) c (measure m laws t k r (map_of m laws t i (unit m laws))) i k (λ l. get_or out (i * stair_count t + l) 0)) (sequence_is r) x))

    module _ (r c out : List ℕ) (fits : n * d ≤ length out) (M : Monic m laws d (sequence m laws cmp n ps k r) c) (R : (i : ℕ) → i < n → RowAt r c out i) where
      word_at : (i l : ℕ) → i < n → l < d → row m laws d (take (n * d) out) i l ≡ el m laws (get_or out (i * d + l) 0)
      word_at i l p q =
          let inside : i * d + l < n * d = omega (arith, before_column i n d p) in
          read_at m laws (take (n * d) out) (i * d + l) (omega (arith, length-take-le (n * d) out fits)) ∙ ap (el m laws) (get_or-take (n * d) out (i * d + l) 0 inside)

      word-elem : (i l : ℕ) → i < n → l < d → Dec (i ≡ k) → T (m.elem (get_or out (i * d + l) 0))
      unfolding RowAt
      word-elem i l p q (yes e) = subst (λ (w : ℕ). T (m.elem w)) (sym ((R i p).backwards e l q)) (M.elements (d - l) (omega arith))
      word-elem i l p q (no e) = ((R i p).solves e).elements l q

      all-elems : Elems m (take (n * d) out)
      all-elems j h =
          let inside : j < n * d = omega (arith, length-take-le (n * d) out fits) in
          let x = place_in n d j inside in
          subst (λ (w : ℕ). T (m.elem w)) (sym (get_or-take (n * d) out j 0 inside ∙ ap (λ (y : ℕ). get_or out y 0) x.4)) (word-elem x.0 x.1 x.2 x.3 (ℕ_discrete x.0 k))

      rows_are : Rows m laws cmp n ps k r (row m laws d (take (n * d) out))
      unfolding RowAt
      rows_are = record {
        recurrence = λ j h.
            ap (λ (y : Elem m). F.◌⊕◌ y (sequence m laws cmp n ps k r (d + j))) (sums.sum_ext F d _ _ (λ l q. ap (λ (y : Elem m). F.◌⊗◌ y (sequence m laws cmp n ps k r (l + j))) (word_at k l kn q ∙ ap (el m laws) ((R k kn).backwards refl l q))))
            ∙ M.recurs j h;
        solution = λ i p ne j h.
            sums.sum_ext F d _ _ (λ l q. ap (λ (y : Elem m). F.◌⊗◌ y (sequence m laws cmp n ps k r (l + j))) (word_at i l p q))
            ∙ sym (((R i p).solves ne).combines j h);
      }

      written-there : Written m laws cmp n ps (suc k) r (take (n * d) out)
      written-there = record { size = length-take-le (n * d) out fits; elements = all-elems; rows = rows_are }

    written : (r c out : List ℕ) → n * stair_count t ≤ length out → Monic m laws (stair_count t) (measure m laws t k r (unit m laws)) c
        → ((i : ℕ) → i < n → Row m laws (stair_count t) (hankel F (measure m laws t k r (unit m laws))) c (measure m laws t k r (map_of m laws t i (unit m laws))) i k (λ l. get_or out (i * stair_count t + l) 0))
        → Written m laws cmp n ps (suc k) r (take (n * stair_count t) out)
    written r c out fits M R =
        subst (λ (y : ℕ). Written m laws cmp n ps (suc k) r (take (n * y) out)) (sym H.size)
        (written-there r c out (subst (λ (y : ℕ). n * y ≤ length out) H.size fits) (sequence_monic r c M) (λ i p. sequence_row r c out i p (R i p)))

  -- of a call, which counts its variables from 1, for words as many as the tables say

  module _ (k : ℕ) (r : List ℕ) (room : ℕ) where
    pub refused_first : (f : JobFault) → Refused (vector_words_asks m (stair_count t) n k r room) (number_of f) 0 (place_of f) → Refused (vector_asks m laws cmp n ps k r room) (number_of f) 0 (place_of f)
    refused_first f x =
        first_refused (vector_words_asks m d n k r room) (shape_ask m laws cmp n ps k ∷ table_ask m laws cmp n ps k r ∷ []) (number_of f) 0 (place_of f)
        (subst (λ (y : ℕ). Refused (vector_words_asks m y n k r room) (number_of f) 0 (place_of f)) H.size x)

    module _ (Y : AllYes (vector_words_asks m (stair_count t) n k r room)) where
      before : pred k ≡ k - 1
      before = omega (arith, Y.0.0)

      first-yes : AllYes (vector_words_asks m d n k r room)
      first-yes = subst (λ (y : ℕ). AllYes (vector_words_asks m y n k r room)) H.size Y

      pub in_range : k - 1 < n
      in_range = omega (arith, Y.0.0, Y.0.1)

      pub refused-shape : (f : JobFault) → HasNoShape m laws (stair_count t) (power m laws t (k - 1) (unit m laws)) f → Refused (vector_asks m laws cmp n ps k r room) (number_of f) 0 (place_of f)
      refused-shape f x =
          let y = first-yes in
          let z = subst (λ (i : ℕ). (HasShape F n L d i → ⊥) × ((j : ℕ) × (f ≡ NoShape j) × LeastAlone F n L i j)) (sym before) (shape_no (k - 1) in_range f x) in
          subst (λ (g : JobFault). Refused (vector_asks m laws cmp n ps k r room) (number_of g) 0 (place_of g)) (sym z.1.1)
          (inr (y.0, inr (y.1.0, inr (y.1.1.0, inr (y.1.1.1.0, inl (z.0, refl, refl, z.1.2))))))

      module _ (I : Independent F (stair_count t) (stair_count t) (power m laws t (k - 1) (unit m laws))) where
        has-shape : HasShape F n L d (k - 1)
        has-shape = shape_yes (k - 1) in_range I

        shape-there : HasShape F n L d (pred k)
        shape-there = subst (HasShape F n L d) (sym before) has-shape

        pub refused-table : (f : JobFault) → ShortLength m laws (stair_count t) (measure m laws t (k - 1) r (unit m laws)) f → Refused (vector_asks m laws cmp n ps k r room) (number_of f) 0 (place_of f)
        refused-table f x =
            let y = first-yes in
            let z = subst (λ (i : ℕ). (FreeTable m laws cmp n ps i r → ⊥) × ((l : ℕ) × (f ≡ DependentRows l) × Least (Recurs F (sequence m laws cmp n ps i r) (d + d)) l)) (sym before) (table_no (k - 1) in_range has-shape r f x) in
            subst (λ (g : JobFault). Refused (vector_asks m laws cmp n ps k r room) (number_of g) 0 (place_of g)) (sym z.1.1)
            (inr (y.0, inr (y.1.0, inr (y.1.1.0, inr (y.1.1.1.0, inr (shape-there, inl (z.0, refl, refl, z.1.2)))))))

        module _ (c : List ℕ) (W : FullLength m laws (stair_count t) (measure m laws t (k - 1) r (unit m laws)) c) where
          free-table : FreeTable m laws cmp n ps (k - 1) r
          free-table = table_yes (k - 1) in_range has-shape r c W

          pub rows-free : Independent F (stair_count t) (stair_count t) (hankel F (measure m laws t (k - 1) r (unit m laws)))
          rows-free = table_free (k - 1) in_range r free-table

          pub converted : (out : List ℕ) → length out ≡ room → {A : Type 0} (a : Result A JobFault) → RowsWritten m laws t (k - 1) r n c out a → Converted m laws cmp n ps k r room (take (n * stair_count t) out) a
          converted out long (Ok a) R =
              let y = first-yes in
              let fits : n * stair_count t ≤ length out = subst (λ (x : ℕ). n * stair_count t ≤ x) (sym long) Y.1.1.1.0 in
              let counted : suc (k - 1) ≡ k = omega (arith, Y.0.0) in (
                (y.0, (y.1.0, (y.1.1.0, (y.1.1.1.0, (shape-there, (subst (λ (i : ℕ). FreeTable m laws cmp n ps i r) (sym before) free-table, tt)))))),
                subst (λ (i : ℕ). Written m laws cmp n ps i r (take (n * stair_count t) out)) counted (written (k - 1) in_range r c out fits W.1 R),
              )
          converted out long (Err f) R = absurd R
