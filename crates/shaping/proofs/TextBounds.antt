-- The bounds of the questions of lines: a line that reads takes a byte at least, so that no line number, and no count of lines, is over that of the bytes.
use Rattle.std.proofs.Common.{ℕ, zero, suc, ◌+◌, ◌≤◌, List, [], ◌∷◌, ◌++◌, length, arith}
use Rattle.std.proofs.lemmas.List.{length-drop}
use Rattle.column.specs.Line.{line_length, EndsAfter}
use Rattle.field.specs.Meaning.{FieldMeaning}
use Rattle.order.specs.Laws.{Comparison}
use Rattle.runs.specs.Question.{AllYes}
use Rattle.runs.specs.Job.{Term, Job, holding}
use Rattle.runs.specs.Enter.{room_asks, terms_asks}
use Rattle.runs.specs.Text.{next, past_terms, term_count, polynomial, past, past_all, header_count, text_polynomials, line_asks, lines_asks, polynomial_asks, polynomials_asks, fill_asks}
use Rattle.runs.proofs.Questions.{yes_first, yes_rest, ◌▸◌}
use Rattle.runs.proofs.Texts.{body_asks, later_asks, header_asks, length_terms}
use Rattle.runs.proofs.Lines.{length_polynomials}
use Rattle.shaping.proofs.Bounds.{Within, within_append, small_at, small_single, small_each}

-- what lines that read leave

pub line_left : (c : ℕ) (bs : List ℕ) → EndsAfter c bs → suc (length (next c bs)) ≤ length bs
line_left c bs e = omega (arith, e.0, length-drop (line_length c) bs)

pub lines_left : (l c k : ℕ) (bs : List ℕ) → AllYes (lines_asks l c k bs) → k + length (past_terms c k bs) ≤ length bs
lines_left l c zero bs y = omega arith
lines_left l c (suc k) bs y = omega (arith, line_left c bs y.0, lines_left (suc l) c k (next c bs) y.1.1)

module _ (m : FieldMeaning) (cmp : Comparison) where
  polynomial_left : (l : ℕ) (j : Job) (bs : List ℕ) → AllYes (polynomial_asks m cmp l j bs) → 1 + term_count bs + length (past j.n bs) ≤ length bs
  polynomial_left l j bs y =
      let b = yes_rest (room_asks l j (term_count bs)) (body_asks m cmp l j bs) (yes_rest (line_asks l 1 bs) (room_asks l j (term_count bs) ++ body_asks m cmp l j bs) y) in
      omega (arith, line_left 1 bs y.0, lines_left (suc l) (suc j.n) (term_count bs) (next 1 bs) (yes_first (lines_asks (suc l) (suc j.n) (term_count bs) (next 1 bs)) (terms_asks m cmp j.n l (polynomial j.n bs)) b))

  polynomials_left : (l : ℕ) (j : Job) (k : ℕ) (bs : List ℕ) → AllYes (polynomials_asks m cmp l j k bs) → k + length (past_all j.n k bs) ≤ length bs
  polynomials_left l j zero bs y = omega arith
  polynomials_left l j (suc k) bs y =
      let left = polynomials_left (l + (1 + term_count bs)) (holding j (polynomial j.n bs ∷ [])) k (past j.n bs) (yes_rest (polynomial_asks m cmp l j bs) (later_asks m cmp l j k bs) y) in
      omega (arith, polynomial_left l j bs (yes_first (polynomial_asks m cmp l j bs) (later_asks m cmp l j k bs) y), left)

  -- an accepted text has no more polynomials than bytes
  pub text_left : (j : Job) (bs : List ℕ) → AllYes (fill_asks m cmp j bs) → length (text_polynomials j.n bs) ≤ length bs
  text_left j bs y =
      let left = polynomials_left 2 j (header_count bs) (next 4 bs) (yes_rest (line_asks 1 4 bs) (header_asks m cmp j bs) y.1).1 in
      omega (arith, line_left 4 bs y.1.0, left, length_polynomials m cmp j.n (header_count bs) (next 4 bs))

-- the questions, where the line of the first and the bytes from there on are together within the bound

module _ (B : ℕ) where
  pub line_within : (l c : ℕ) (bs : List ℕ) → l ≤ B → Within B (line_asks l c bs)
  line_within l c bs h = small_at B 26 l l _ h h ▸ small_at B 27 l l _ h h ▸ tt

  pub lines_within : (l c k : ℕ) (bs : List ℕ) → l + length bs ≤ B → Within B (lines_asks l c k bs)
  lines_within l c zero bs h = tt
  lines_within l c (suc k) bs h = within_append B (line_asks l c bs) (lines_asks (suc l) c k (next c bs)) (line_within l c bs (omega arith)) (λ y. lines_within (suc l) c k (next c bs) (omega (arith, line_left c bs y.0)))

  room_within : (l : ℕ) (j : Job) (c : ℕ) → l ≤ B → Within B (room_asks l j c)
  room_within l j c h = small_single B 6 l _ h ▸ small_single B 7 l _ h ▸ small_single B 8 l _ h ▸ tt

  module _ (m : FieldMeaning) (cmp : Comparison) where
    terms_within : (n l : ℕ) (p : List Term) → l ≤ B → length p ≤ B → Within B (terms_asks m cmp n l p)
    terms_within n l p h k = small_each B 9 l _ _ h k ▸ small_each B 10 l _ _ h k ▸ small_each B 11 l _ _ h k ▸ small_single B 12 l _ h ▸ tt

    polynomial_within : (l : ℕ) (j : Job) (bs : List ℕ) → l + length bs ≤ B → Within B (polynomial_asks m cmp l j bs)
    polynomial_within l j bs h =
        within_append B (line_asks l 1 bs) (room_asks l j (term_count bs) ++ body_asks m cmp l j bs) (line_within l 1 bs (omega arith)) (λ y.
        within_append B (room_asks l j (term_count bs)) (body_asks m cmp l j bs) (room_within l j (term_count bs) (omega arith)) (λ z.
        let lines = lines_asks (suc l) (suc j.n) (term_count bs) (next 1 bs) in
        let left = line_left 1 bs y.0 in
        within_append B lines (terms_asks m cmp j.n l (polynomial j.n bs)) (lines_within (suc l) (suc j.n) (term_count bs) (next 1 bs) (omega arith)) (λ w.
        terms_within j.n l (polynomial j.n bs) (omega arith) (omega (arith, lines_left (suc l) (suc j.n) (term_count bs) (next 1 bs) w, length_terms m cmp (suc j.n) (term_count bs) (next 1 bs))))))

    polynomials_within : (l : ℕ) (j : Job) (k : ℕ) (bs : List ℕ) → l + length bs ≤ B → Within B (polynomials_asks m cmp l j k bs)
    polynomials_within l j zero bs h = tt
    polynomials_within l j (suc k) bs h =
        within_append B (polynomial_asks m cmp l j bs) (later_asks m cmp l j k bs) (polynomial_within l j bs h) (λ y.
        polynomials_within (l + (1 + term_count bs)) (holding j (polynomial j.n bs ∷ [])) k (past j.n bs) (omega (arith, polynomial_left m cmp l j bs y)))

    pub fill_within : (j : Job) (bs : List ℕ) → 1 + length bs ≤ B → Within B (fill_asks m cmp j bs)
    fill_within j bs h =
        small_single B 28 0 _ (omega arith)
        ▸ within_append B (line_asks 1 4 bs) (header_asks m cmp j bs) (line_within 1 4 bs (omega arith)) (λ y.
        small_single B 29 1 _ (omega arith)
        ▸ polynomials_within 2 j (header_count bs) (next 4 bs) (omega (arith, line_left 4 bs y.0)))
