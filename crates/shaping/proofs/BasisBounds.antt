-- The bounds of all questions: of the first line, and of a basis text and its request. With them a refusal has a line and a place that fit 32 bits.
use Rattle.std.proofs.Common.{◌≡◌, ℕ, zero, suc, pred, ◌+◌, ◌≤◌, Bool, true, false, cond, List, [], ◌∷◌, ◌++◌, length, take, drop, ◌==◌, refl, ap, arith, length-append}
use Rattle.std.proofs.lemmas.List.{take-append-drop}
use Rattle.std.proofs.lemmas.List.Sums.{count_by-le-length}
use Rattle.field.specs.Meaning.{FieldMeaning, FieldLaws}
use Rattle.order.specs.Monomials.{variables}
use Rattle.order.specs.Laws.{Comparison, OrderLaws}
use Rattle.algebra.specs.Elements.{field_of}
use Rattle.runs.specs.Question.{single, AllYes}
use Rattle.runs.specs.Job.{Job, closed, new, shut, most_stairs}
use Rattle.runs.specs.Text.{text_length, text_polynomials, next, past_terms, line_asks, lines_asks, fill_asks, header_n}
use Rattle.runs.specs.Writing.{field_code, order_code}
use Rattle.runs.specs.Generators.{D}
use Rattle.runs.specs.Close.{close_asks}
use Rattle.runs.specs.Convert.{shape_ask, table_ask, convert_asks}
use Rattle.runs.specs.Run.{open_asks}
use Rattle.runs.specs.Sound.{Sound}
use Rattle.runs.proofs.Questions.{◌▸◌, yes_first}
use Rattle.runs.proofs.Conversion as conversion
use Rattle.runs.proofs.Conversion.{from_zero}
use Rattle.shaping.specs.Questions.{most_bytes, most_words, in_line, residue_asks, field_asks, code_asks, header_asks, job_of, request, request_line, variable, count, column, vector, request_asks, basis_asks}
use Rattle.shaping.proofs.Bounds.{Small, Within, within_append, within_in_line, small_single, small_each}
use Rattle.shaping.proofs.TextBounds.{line_left, lines_left, text_left, line_within, lines_within, fill_within}
use Rattle.shaping.proofs.Questions.{word_asks, shape_asks, after_close, after_fill, shut_sound}

-- the first line of the request and the bytes from there on are together no more than those of the input, and one
request_left : (n : ℕ) (bs : List ℕ) → request_line n bs + length (request n bs) ≤ 1 + length bs
request_left n bs =
    let at = text_length n bs in
    omega (arith, count_by-le-length (λ b. b == 10) (take at bs), length-append (take at bs) (drop at bs), ap length (take-append-drop at bs))

length_column : (c : ℕ) (bs : List ℕ) → length (column c bs) ≡ c
length_column zero bs = refl
length_column (suc c) bs = ap suc (length_column c (next 1 bs))

module _ (B : ℕ) where
  -- before the basis

  field_within : 1 ≤ B → (c : ℕ) → Within B (field_asks c)
  field_within h c = go (c == 0)
    where
      go : (b : Bool) → Within B (cond b [] (residue_asks c))
      go true = tt
      go false = small_single B 1 1 _ h ▸ small_single B 2 1 _ h ▸ tt

  first_within : 1 ≤ B → (bs : List ℕ) → Within B (header_asks bs)
  first_within h bs =
      small_single B 32 0 _ (omega arith)
      ▸ within_append B (line_asks 1 4 bs) (field_asks (field_code bs) ++ code_asks (order_code bs) (header_n bs)) (line_within B 1 4 bs h) (λ y.
      within_append B (field_asks (field_code bs)) (code_asks (order_code bs) (header_n bs)) (field_within h (field_code bs)) (λ z.
      small_single B 31 1 _ h
      ▸ within_in_line B 1 h (open_asks (header_n bs)) (small_single B 4 0 _ (omega arith) ▸ tt)))

  module _ (m : FieldMeaning) (laws : FieldLaws m) (cmp : Comparison) where
    -- Close and Convert

    close_within : (j : Job) → j.n ≤ B → length j.polynomials ≤ B → Within B (close_asks m laws cmp j)
    close_within j h k =
        let l : 0 ≤ B = omega arith in
        small_single B 5 0 _ l
        ▸ small_each B 13 0 _ _ l k
        ▸ small_each B 14 0 _ _ l h
        ▸ small_each B 15 0 _ _ l k
        ▸ small_single B 16 0 _ l
        ▸ small_each B 17 0 _ _ l k
        ▸ small_single B 18 0 _ l
        ▸ tt

    module _ (O : OrderLaws cmp) (j : Job) (S : Sound m laws cmp j) (stairs : most_stairs + most_stairs ≤ B) where
      few : j.stage ≡ closed → D m laws cmp j.n j.polynomials ≤ most_stairs
      few e = (S.closes e).1.1.1.0

      -- the least degree of a member in one variable alone is at most D
      shape_small : j.stage ≡ closed → (k : ℕ) → (1 ≤ k) × (k ≤ j.n) → Small B (shape_ask m laws cmp j.n j.polynomials k)
      shape_small e k v =
          let some = (conversion.decided m laws cmp O j S e (pred k) (from_zero j.n k v)).some in
          record { line = omega arith; place = λ p least. omega (arith, least.1 some.0 some.2.0, some.1, few e, stairs) }

      -- 2D words have a recurrence of length 2D, since no word follows them
      table_small : j.stage ≡ closed → (k : ℕ) (r : List ℕ) → Small B (table_ask m laws cmp j.n j.polynomials k r)
      table_small e k r =
          let d = D m laws cmp j.n j.polynomials in
          record { line = omega arith; place = λ p least. omega (arith, least.1 (d + d) ((λ i. (field_of m laws).zer), λ i l. absurd (omega (arith, l))), few e, stairs) }

      convert_within : (k : ℕ) (r : List ℕ) (room : ℕ) → length r ≤ B → Within B (convert_asks m laws cmp j k r room)
      convert_within k r room h =
          let l : 0 ≤ B = omega arith in (
            small_single B 19 0 _ l,
            λ e. (
              small_single B 20 0 _ l,
              λ v. small_single B 21 0 _ l
                  ▸ small_each B 22 0 _ _ l h
                  ▸ small_single B 23 0 _ l
                  ▸ shape_small e k v
                  ▸ table_small e k r
                  ▸ tt,
            ),
          )

    -- the basis text and the request

    -- a request

    request_within : (l n d : ℕ) (qs : List ℕ) → l + length qs ≤ B → Within B (request_asks l n d qs)
    request_within l n d qs h =
        within_append B (line_asks l 2 qs) (single 20 l ((1 ≤ variable qs) × (variable qs ≤ n)) ∷ single 21 l (count qs ≡ d) ∷ word_asks l qs) (line_within B l 2 qs (omega arith)) (λ y.
        small_single B 20 l _ (omega arith)
        ▸ small_single B 21 l _ (omega arith)
        ▸ within_append B (lines_asks (suc l) 1 (count qs) (next 2 qs)) (single 30 0 (past_terms 1 (count qs) (next 2 qs) ≡ []) ∷ []) (lines_within B (suc l) 1 (count qs) (next 2 qs) (omega (arith, line_left 2 qs y.0))) (λ z. small_single B 30 0 _ (omega arith) ▸ tt))

    -- one whose lines read has no more words than bytes
    vector_left : (l n d : ℕ) (qs : List ℕ) → l + length qs ≤ B → AllYes (request_asks l n d qs) → length (vector qs) ≤ B
    vector_left l n d qs h y =
        let words = yes_first (lines_asks (suc l) 1 (count qs) (next 2 qs)) (single 30 0 (past_terms 1 (count qs) (next 2 qs) ≡ []) ∷ []) y.1.1.1.1 in
        omega (arith, h, line_left 2 qs y.0, lines_left (suc l) 1 (count qs) (next 2 qs) words, length_column (count qs) (next 2 qs))

    module _ (n : ℕ) (bs : List ℕ) (h : 1 + length bs ≤ B) where
      abbrev l : ℕ
      l = request_line n bs

      abbrev qs : List ℕ
      qs = request n bs

      abbrev d : ℕ
      d = D m laws cmp n (text_polynomials n bs)

      placed : l + length qs ≤ B
      placed = omega (arith, request_left n bs)

      all_within : OrderLaws cmp → AllYes (open_asks n) → variables ≤ B → most_stairs + most_stairs ≤ B → Within B (basis_asks m laws cmp n bs)
      all_within O opens vars stairs =
          within_append B (fill_asks m cmp (new n) bs) (after_fill m laws cmp n bs) (fill_within B m cmp (new n) bs h) (λ f.
          within_append B (close_asks m laws cmp (job_of n bs)) (after_close m laws cmp n bs) (close_within (job_of n bs) (omega (arith, opens.0.1)) (omega (arith, text_left m cmp (new n) bs f))) (λ c.
          within_append B (request_asks l n d qs) (in_line l (shape_asks m laws cmp n bs)) (request_within l n d qs placed) (λ y.
          within_in_line B l (omega (arith, request_left n bs)) (shape_asks m laws cmp n bs)
          (convert_within O (shut (job_of n bs)) (shut_sound m laws cmp n bs O opens f c) stairs (variable qs) (vector qs) most_words (vector_left l n d qs placed y)))))

-- at 9000

pub header_within : (bs : List ℕ) → Within 9000 (header_asks bs)
header_within = first_within 9000 (omega arith)

pub basis_within : (m : FieldMeaning) (laws : FieldLaws m) (cmp : Comparison) → OrderLaws cmp → (n : ℕ) → 1 ≤ n → n ≤ variables → (bs : List ℕ) → length bs ≤ most_bytes → Within 9000 (basis_asks m laws cmp n bs)
basis_within m laws cmp O n l u bs h = all_within 9000 m laws cmp n bs (omega arith) O ((l, u), tt) (omega arith) (omega arith)
