-- What the answers to 22, 24 and 25, put to words, say of the vector, the powers and the sequence that the words stand for.
use Rattle.std.proofs.Common.{◌≡◌, ℕ, suc, ◌+◌, ◌*◌, ◌<◌, ◌≤◌, Bool, false, not, T, List, length, get_or, Some, None, position, Ok, Err, Result, sym, refl, subst, arith}
use Rattle.std.specs.List.{position_or_len}
use Rattle.std.proofs.lemmas.Bool.{not-true, not-false}
use Rattle.std.proofs.lemmas.Grind.{common_steps}
use Rattle.std.proofs.lemmas.List.Quantifiers.{position-Some}
use Rattle.std.proofs.lemmas.List.Sums.{fails_before_first}
use Rattle.runs.specs.Question.{each}
use Rattle.std.specs.Result.{IsErrAnd, MatchResult}
use Rattle.std.proofs.lemmas.Result.{err_from_is_err_and}
use Rattle.field.specs.Meaning.{FieldMeaning, FieldLaws}
use Rattle.algebra.specs.Elements.{Elem, field_of}
use Rattle.linear.specs.Elimination.{rows, Eliminated}
use Rattle.linear.specs.declared.elimination.EliminateFault.{EliminateFault}
use Rattle.linear.specs.declared.elimination.EliminateFault.TheVariants.{NoRoom, Depends}
use Rattle.linear.proofs.WordLists.{read_is}
use Rattle.tables.specs.declared.tables.Tables.{Tables}
use Rattle.polynomials.specs.declared.fault.JobFault.{JobFault}
use Rattle.polynomials.specs.declared.fault.JobFault.TheVariants.{NoShape, NotClosed}
use Rattle.tables.specs.Holds.{stair_count}
use Rattle.conversion.specs.Powers.{width, unit, power, measure, Vectors}
use Rattle.conversion.specs.Asked.{ShapeFound, LengthFound}
use Rattle.conversion.specs.Phases.{Half, Whole, ShapeAsked, RowsAsked}
use Rattle.conversion.proofs.Along.{independent_along, degree_along}

-- ---- the first word that is no element, and what question 22 asks

module _ (m : FieldMeaning) (ws : List ℕ) where
  abbrev outside : ℕ → Bool
  outside w = not (m.elem w)

  element : (i : ℕ) → outside (get_or ws i 0) ≡ false → T (m.elem (get_or ws i 0))
  element i e = subst T (sym (not-false (m.elem (get_or ws i 0)) e)) tt

  pub none_outside : position outside ws ≡ None → (i : ℕ) → i < length ws → T (m.elem (get_or ws i 0))
  none_outside e i l =
      let far : length ws ≤ position_or_len outside ws = grind (arith, common_steps) in
      element i (fails_before_first outside ws i 0 (omega arith))

  pub first_outside : (i : ℕ) → position outside ws ≡ Some i → (each 22 0 (length ws) (λ j. T (m.elem (get_or ws j 0)))).place (suc i)
  first_outside i e =
      let f = position-Some outside ws i 0 e in
      (i, f.0, refl, λ t. subst T (not-true (m.elem (get_or ws i 0)) f.1) t, λ j l. element j (f.2 j l))

-- ---- the answers to 24 and 25

-- the fault of question 24 that the fault of an elimination is
abbrev pub no_shape : EliminateFault → JobFault
no_shape (Depends j) = NoShape j
no_shape NoRoom = NotClosed

module _ (m : FieldMeaning) (laws : FieldLaws m) where
  -- of the vectors that were eliminated
  pub shape_of : {A : Type 0} (d : ℕ) (v : ℕ → ℕ → Elem m) (table : List (List ℕ)) (pivots row : List ℕ) (Q : EliminateFault → JobFault → Type 0) → ((e : EliminateFault) (f : JobFault) → Q e f → f ≡ no_shape e)
      → (r : Result A EliminateFault) (a : Result A JobFault) → MatchResult r (λ x. a ≡ Ok x) (λ e. IsErrAnd a (Q e)) → Eliminated m laws d d v table pivots row r → ShapeFound m laws d v a
  shape_of d v table pivots row Q q (Ok y) a is x = rw is x.1.independent
  shape_of d v table pivots row Q q (Err (Depends j)) a is x = let p = err_from_is_err_and a is in rw p.1 (j, q (Depends j) p.0 p.2, x.0, x.1)
  shape_of d v table pivots row Q q (Err NoRoom) a is x = absurd x

module _ (m : FieldMeaning) (laws : FieldLaws m) (t : Tables) (k : ℕ) (r : List ℕ) (n : ℕ) where
  -- of the words that hold the powers
  pub shape_found : (vectors : List ℕ) → length vectors ≡ width * width → Vectors m laws t k vectors → {A : Type 0} (a : Result A JobFault) → ShapeFound m laws (stair_count t) (rows m laws width vectors) a → ShapeFound m laws (stair_count t) (power m laws t k (unit m laws)) a
  shape_found vectors long V a = go a
    where
      same : (j i : ℕ) → j < stair_count t → i < stair_count t → rows m laws width vectors j i ≡ power m laws t k (unit m laws) j i
      same j i p q = read_is m laws vectors (j * width + i) (power m laws t k (unit m laws) j i) (omega (arith, t.few)) (V.stand j p i q)

      go : {A : Type 0} (a : Result A JobFault) → ShapeFound m laws (stair_count t) (rows m laws width vectors) a → ShapeFound m laws (stair_count t) (power m laws t k (unit m laws)) a
      go (Ok a) x = independent_along (field_of m laws) (stair_count t) (rows m laws width vectors) (power m laws t k (unit m laws)) (stair_count t) same x
      go (Err f) x = (x.0, x.1, x.2, degree_along (field_of m laws) (stair_count t) (rows m laws width vectors) (power m laws t k (unit m laws)) (stair_count t) same x.0 x.2 x.3)

  pub shape_asked : (sequence vector : List ℕ) → Half m laws t k r sequence vector → {A : Type 0} (a : Result A JobFault) → ShapeFound m laws (stair_count t) (power m laws t k (unit m laws)) a → ShapeAsked m laws t k r n sequence vector a
  shape_asked sequence vector half (Ok a) x = (x, half)
  shape_asked sequence vector half (Err f) x = λ ready. x

  pub rows_asked : (sequence connection : List ℕ) → Whole m laws t k r sequence → {A : Type 0} (a : Result A JobFault) → LengthFound m laws (stair_count t) (measure m laws t k r (unit m laws)) connection a → RowsAsked m laws t k r n sequence connection a
  rows_asked sequence connection whole (Ok a) x = (x, whole)
  rows_asked sequence connection whole (Err f) x = λ ready. x
