-- Convert and Reduce of a closed job: what is written has the ideal and is one; there is something to write; another vector does where one does not.
use Rattle.std.proofs.Common.{◌≡◌, ℕ, zero, suc, pred, ◌+◌, ◌*◌, ◌<◌, ◌≤◌, T, ◌↔◌, List, ◌∷◌, length, get_or, sym, refl, ap, ◌∙◌, subst, ap₂, arith}
use mathlib.Core.Path.{fun_ext}
use native.Mathlib.Decide.{ℕ_discrete}
use Rattle.field.specs.Meaning.{FieldMeaning, FieldLaws}
use Rattle.order.specs.Laws.{Comparison, OrderLaws}
use Rattle.algebra.specs.Field.{Field}
use Rattle.algebra.specs.Vector.{sum, basis, apply, krylov, Independent, Least}
use Rattle.algebra.specs.Elements.{Elem, field_of, read}
use Rattle.algebra.specs.Polynomial.{Poly, combination}
use Rattle.algebra.specs.Ideal.{SameIdeal, Congruent}
use Rattle.algebra.specs.Records.{before_by}
use Rattle.algebra.specs.Matrices.{value}
use Rattle.algebra.specs.Shape.{shaped, HasShape, LeastAlone, Relations, ShapeDecided}
use Rattle.algebra.proofs.Sums as sums
use Rattle.algebra.proofs.Maps as maps
use Rattle.algebra.proofs.ShapedBasis.{shapes_equal}
use Rattle.algebra.proofs.HasShape.{shape_decided}
use Rattle.algebra.proofs.Matrices.{congruences, agreement_holds}
use Rattle.linear.specs.Recurrence.{Recurs}
use Rattle.linear.specs.Hankel.{hankel, measured, Table}
use Rattle.linear.proofs.Tables.{table}
use Rattle.runs.specs.Question.{AllYes}
use Rattle.runs.specs.Job.{Term, Job, closed}
use Rattle.runs.specs.Generators.{over_elements, generators, D, stair_at, Tk}
use Rattle.runs.specs.Convert.{row, sequence, FreeTable, Rows, Written, shaped_basis, convert_asks}
use Rattle.runs.specs.Reduce.{Reduced}
use Rattle.runs.specs.Sound.{Sound, BasisPassed, BasisAgrees}
use Rattle.runs.proofs.Entered.{order_of, closed_passed, closed_agrees}
use Rattle.runs.proofs.Outputs as outputs
use Rattle.runs.proofs.Recurrences.{least_length}

combination_ext : {K M : Type 0} (d : ℕ) (s : ℕ → M) (a b : ℕ → K) → ((i : ℕ) → i < d → a i ≡ b i) → combination d s a ≡ combination d s b
combination_ext zero s a b h = refl
combination_ext {K} {M} (suc d) s a b h = ap₂ (λ (x : K) (y : List (K × M)). (x, s d) ∷ y) (h d (omega arith)) (combination_ext d s a b (λ i l. h i (omega arith)))

-- the yeses of Convert by name
pub record Convertible (m : FieldMeaning) (laws : FieldLaws m) (cmp : Comparison) (j : Job) (k : ℕ) (r : List ℕ) (room : ℕ) : Type 0 where
  pub is_closed : j.stage ≡ closed
  pub variable : (1 ≤ k) × (k ≤ j.n)
  pub size : length r ≡ D m laws cmp j.n j.polynomials
  pub elements : (i : ℕ) → i < length r → T (m.elem (get_or r i 0))
  pub fits : j.n * D m laws cmp j.n j.polynomials ≤ room
  pub shape : HasShape (field_of m laws) j.n (generators m laws j.n j.polynomials) (D m laws cmp j.n j.polynomials) (pred k)
  pub table : FreeTable m laws cmp j.n j.polynomials (pred k) r

pub convertible : (m : FieldMeaning) (laws : FieldLaws m) (cmp : Comparison) (j : Job) (k : ℕ) (r : List ℕ) (room : ℕ) → AllYes (convert_asks m laws cmp j k r room) → Convertible m laws cmp j k r room
convertible m laws cmp j k r room y = record {
  is_closed = y.0;
  variable = y.1.0;
  size = y.1.1.0;
  elements = y.1.1.1.0;
  fits = y.1.1.1.1.0;
  shape = y.1.1.1.1.1.0;
  table = y.1.1.1.1.1.1.0;
}

-- a variable of a call, counted from 0
pub from_zero : (n k : ℕ) → (1 ≤ k) × (k ≤ n) → pred k < n
from_zero n k h = omega (arith, h.0, h.1)

module _ (m : FieldMeaning) (laws : FieldLaws m) (cmp : Comparison) (O : OrderLaws cmp) (j : Job) (S : Sound m laws cmp j) (shut : j.stage ≡ closed) where
  abbrev F : Field (Elem m)
  F = field_of m laws

  abbrev n : ℕ
  n = j.n

  abbrev ps : List (List Term)
  ps = j.polynomials

  abbrev L : List (Poly (Elem m) n)
  L = generators m laws n ps

  abbrev d : ℕ
  d = D m laws cmp n ps

  abbrev Step : ℕ → (ℕ → Elem m) → ℕ → Elem m
  Step k = apply F d (Tk m laws cmp n ps k)

  Q : BasisPassed m laws cmp j
  Q = closed_passed m laws cmp O j S shut

  C : BasisAgrees m laws cmp j
  C = closed_agrees m laws cmp O j S shut

  -- reduction

  pub reduced_some : (p : List Term) → (out : List ℕ) × Reduced m laws cmp n ps p out
  reduced_some p =
      let v = value F n (before_by cmp n) L (over_elements m laws n p) in (
        outputs.words_of m laws d v,
        record {
          size = outputs.length_build d (λ l. (v l).0);
          elements = outputs.elems_words m laws d v;
          congruent = subst (Congruent F n L (over_elements m laws n p))
              (combination_ext d (stair_at m laws cmp n ps) v _ (λ i l. sym (outputs.read_words m laws d v i l)))
              ((congruences F n (before_by cmp n) (order_of m laws cmp O j S) L Q).polynomial (over_elements m laws n p));
        },
      )

  pub reduced_once : (p : List Term) (out out' : List ℕ) → Reduced m laws cmp n ps p out → Reduced m laws cmp n ps p out' → out ≡ out'
  reduced_once p out out' X Y =
      let only = (agreement_holds F n (before_by cmp n) (order_of m laws cmp O j S) L Q).only C (over_elements m laws n p) in
      outputs.same_words m laws out out' X.elements Y.elements (X.size ∙ sym Y.size) (λ k l.
      let q : k < d = subst (λ (z : ℕ). k < z) X.size l in
      only (read m laws out) X.congruent k q ∙ sym (only (read m laws out') Y.congruent k q))

  -- conversion in the variable k, counted from 0

  module _ (k : ℕ) (kn : k < n) where
    pub decided : ShapeDecided F n (before_by cmp n) L k
    decided = shape_decided F n (before_by cmp n) (order_of m laws cmp O j S) L Q C k kn

    pub tells : Table F d (Step k) (basis F 0)
    tells = table F d (Step k) (maps.apply_linear F d (Tk m laws cmp n ps k)) (basis F 0)

    pub least_some : (e : ℕ) × LeastAlone F n L k e
    least_some = let x = decided.some in (x.0, x.2)

    pub shape_known : Dec (HasShape F n L d k)
    shape_known = go (ℕ_discrete least_some.0 d)
      where
        go : Dec (least_some.0 ≡ d) → Dec (HasShape F n L d k)
        go (yes e) = yes ((decided.full least_some.0 least_some.1).1 e)
        go (no e) = no (λ h. e ((decided.full least_some.0 least_some.1).0 h))

    -- with a shape, the table's rows are independent exactly where the least recurrence length is D

    pub length_some : (r : List ℕ) → (l : ℕ) × Least (Recurs F (sequence m laws cmp n ps k r) (d + d)) l
    length_some r = least_length F (sequence m laws cmp n ps k r) (d + d)

    pub table_known : HasShape F n L d k → (r : List ℕ) → Dec (FreeTable m laws cmp n ps k r)
    table_known h r = go (ℕ_discrete (length_some r).0 d)
      where
        tell : FreeTable m laws cmp n ps k r ↔ ((length_some r).0 ≡ d)
        tell = tells.length_decides (decided.shape.0 h) (read m laws r) (length_some r).0 (length_some r).1

        go : Dec ((length_some r).0 ≡ d) → Dec (FreeTable m laws cmp n ps k r)
        go (yes e) = yes (tell.1 e)
        go (no e) = no (λ f. e (tell.0 f))

    -- what the sequence and the table say of rows is what the relations of the Krylov vectors say

    related : (r : List ℕ) → FreeTable m laws cmp n ps k r → (rows : ℕ → ℕ → Elem m) → Rows m laws cmp n ps k r rows → Relations F n d (Tk m laws cmp n ps) k rows
    related r f rows W = record {
      first = (tells.monic_is_relation (read m laws r) f (rows k)).0 W.recurrence;
      others = λ i p ne j q. sym ((tells.rows_are_coordinates (read m laws r) f (Step i (basis F 0)) (rows i)).0 (W.solution i p ne) j q);
    }

    rows_from : (r : List ℕ) → FreeTable m laws cmp n ps k r → (rows : ℕ → ℕ → Elem m) → Relations F n d (Tk m laws cmp n ps) k rows → Rows m laws cmp n ps k r rows
    rows_from r f rows R = record {
      recurrence = (tells.monic_is_relation (read m laws r) f (rows k)).1 R.first;
      solution = λ i p ne. (tells.rows_are_coordinates (read m laws r) f (Step i (basis F 0)) (rows i)).1 (λ j q. sym (R.others i p ne j q));
    }

    same_ideal : (r : List ℕ) → FreeTable m laws cmp n ps k r → (rows : ℕ → ℕ → Elem m) → Rows m laws cmp n ps k r rows → SameIdeal F n L (shaped F n k d rows n)
    same_ideal r f rows W = (decided.rows rows).1 (tells.vectors_free (read m laws r) f, related r f rows W)

    rows_some : (r : List ℕ) → FreeTable m laws cmp n ps k r → (rows : ℕ → ℕ → Elem m) × Rows m laws cmp n ps k r rows
    rows_some r f = let h = decided.shape.1 (tells.vectors_free (read m laws r) f) in (h.0, rows_from r f h.0 ((decided.rows h.0).0 h.1).1)

    -- only the first D words of a row count
    rows_ext : (r : List ℕ) (a b : ℕ → ℕ → Elem m) → ((i l : ℕ) → i < n → l < d → a i l ≡ b i l) → Rows m laws cmp n ps k r a → Rows m laws cmp n ps k r b
    rows_ext r a b e W = record {
      recurrence = λ j q. ap (λ x. F.◌⊕◌ x (sequence m laws cmp n ps k r (d + j))) (sym (terms k kn j)) ∙ W.recurrence j q;
      solution = λ i p ne j q. sym (terms i p j) ∙ W.solution i p ne j q;
    }
      where
        terms : (i : ℕ) → i < n → (j : ℕ) → sum F d (λ l. F.◌⊗◌ (a i l) (sequence m laws cmp n ps k r (l + j))) ≡ sum F d (λ l. F.◌⊗◌ (b i l) (sequence m laws cmp n ps k r (l + j)))
        terms i p j = sums.sum_ext F d _ _ (λ l q. ap (λ x. F.◌⊗◌ x (sequence m laws cmp n ps k r (l + j))) (e i l p q))

    -- another vector

    words_sequence : (v : ℕ → Elem m) → measured F d (Step k) (basis F 0) v ≡ sequence m laws cmp n ps k (outputs.words_of m laws d v)
    words_sequence v = fun_ext (λ j. sums.sum_ext F d _ _ (λ i l. ap (λ x. F.◌⊗◌ x (krylov F (Step k) (basis F 0) j i)) (sym (outputs.read_words m laws d v i l))))

    pub other_vector : HasShape F n L d k → (r : List ℕ) × (length r ≡ d) × ((i : ℕ) → i < length r → T (m.elem (get_or r i 0))) × FreeTable m laws cmp n ps k r
    other_vector h =
        let x = tells.some_vector (decided.shape.0 h) in (
          outputs.words_of m laws d x.0,
          outputs.length_build d (λ l. (x.0 l).0),
          outputs.elems_words m laws d x.0,
          subst (λ (q : ℕ → Elem m). Independent F d d (hankel F q)) (words_sequence x.0) x.1,
        )

  -- of a call, which counts its variables from 1

  module _ (k : ℕ) (kn : pred k < n) where
    pub written_ideal : (r out : List ℕ) → FreeTable m laws cmp n ps (pred k) r → Written m laws cmp n ps k r out → SameIdeal F n L (shaped_basis m laws cmp n ps k out)
    written_ideal r out f W = same_ideal (pred k) kn r f (row m laws d out) W.rows

    pub written_once : (r r' out out' : List ℕ) → FreeTable m laws cmp n ps (pred k) r → FreeTable m laws cmp n ps (pred k) r' → Written m laws cmp n ps k r out → Written m laws cmp n ps k r' out' → out ≡ out'
    written_once r r' out out' f f' W V =
        let a = written_ideal r out f W in
        let b = written_ideal r' out' f' V in
        outputs.same_rows m laws n d out out' W.elements V.elements W.size V.size
        (shapes_equal F n (pred k) kn d d (row m laws d out) (row m laws d out') (λ g. (λ x. (b g).0 ((a g).1 x), λ x. (a g).0 ((b g).1 x)))).1

    pub written_some : (r : List ℕ) → FreeTable m laws cmp n ps (pred k) r → (out : List ℕ) × Written m laws cmp n ps k r out
    written_some r f =
        let x = rows_some (pred k) kn r f in (
          outputs.rows_of m laws n d x.0,
          record {
            size = outputs.size_rows m laws n d x.0;
            elements = outputs.elems_rows m laws n d x.0;
            rows = rows_ext (pred k) kn r x.0 _ (λ i l p q. sym (outputs.read_rows m laws n d x.0 i l p q)) x.1;
          },
        )
