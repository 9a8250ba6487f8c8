-- Whole texts: what Fill reads line by line is the basis text of the polynomials that it enters.
use Rattle.std.proofs.Common.{◌≡◌, ℕ, zero, suc, ◌+◌, ◌≤◌, List, [], ◌∷◌, ◌++◌, length, get_or, drop, replicate, sym, refl, ap, ◌∙◌, ap₂, append_assoc, arith, length-append}
use Rattle.std.specs.List.{flat_map}
use Rattle.std.specs.Result.{result_unwrap_or}
use Rattle.std.proofs.lemmas.List.{ext_get_or}
use Rattle.column.specs.Line.{line, line_length, reading_line}
use Rattle.column.proofs.Lines.{line_length_is}
use Rattle.column.proofs.Exactness.{reading_from_begins}
use Rattle.field.specs.Meaning.{FieldMeaning}
use Rattle.order.specs.Monomials.{variables, exponent, monomial}
use Rattle.order.specs.Laws.{Comparison}
use Rattle.order.specs.Exponents.{exponent_monomial}
use Rattle.algebra.proofs.Lists.{get_or_build}
use Rattle.runs.specs.Question.{AllYes}
use Rattle.runs.specs.Job.{Job, holding}
use Rattle.runs.specs.Enter.{room_asks}
use Rattle.runs.specs.Text.{words, next, term, terms, past_terms, term_count, polynomial, past, polynomials, past_all, header_count, text_polynomials, Numbers, line_asks, lines_asks, polynomial_asks, polynomials_asks, fill_asks}
use Rattle.runs.specs.Writing.{exponents, term_line, polynomial_text, basis_text, field_code, order_code, TextsWritten}
use Rattle.runs.proofs.Questions.{yes_first, yes_rest}
use Rattle.runs.proofs.Outputs.{length_build}
use Rattle.runs.proofs.Texts.{length_terms, body_asks, later_asks, header_asks}

-- a line that reads is the line of its words
line_is : (c : ℕ) (bs : List ℕ) → Numbers c bs → (length (words c bs) ≡ c) × (bs ≡ line (words c bs) ++ next c bs)
unfolding words
line_is c bs x =
    let ws = x.0 in
    let e : words c bs ≡ ws = ap (λ r. result_unwrap_or r (replicate c 0)) (ap (λ (k : ℕ). reading_line k bs) (sym x.1) ∙ reading_from_begins ws bs x.2 x.3) in
    let n : length (line ws) ≡ line_length c = line_length_is ws x.2 ∙ ap line_length x.1 in
    (ap length e ∙ x.1, x.3 ∙ ap₂ (λ (vs : List ℕ) (k : ℕ). line vs ++ drop k bs) (sym e) n)

-- one after the other
after_part : (a b c x y : List ℕ) → x ≡ a ++ b → b ≡ c ++ y → x ≡ (a ++ c) ++ y
after_part a b c x y e f = e ∙ ap (λ z. a ++ z) f ∙ sym (append_assoc a c y)

module _ (n : ℕ) (fits : n ≤ variables) where
  -- the words of a term's line are its coefficient and its exponents
  term_is : (ws : List ℕ) → length ws ≡ suc n → ws ≡ get_or ws 0 0 ∷ exponents n (term ws).1
  term_is [] h = absurd (omega arith)
  term_is (w ∷ ws) h =
      ap (λ (vs : List ℕ). w ∷ vs)
      (ext_get_or 0 ws (exponents n (monomial (λ k. get_or ws k 0))) (omega (arith, length_build n (exponent (monomial (λ k. get_or ws k 0)))))
      (λ i l. sym (get_or_build n (exponent (monomial (λ k. get_or ws k 0))) 0 i (omega arith) ∙ exponent_monomial (λ k. get_or ws k 0) i (omega arith))))

  lines_are : (l k : ℕ) (bs : List ℕ) → AllYes (lines_asks l (suc n) k bs) → bs ≡ flat_map (term_line n) (terms (suc n) k bs) ++ past_terms (suc n) k bs
  lines_are l zero bs y = refl
  lines_are l (suc k) bs y =
      let x = line_is (suc n) bs y.1.0 in
      after_part (term_line n (term (words (suc n) bs))) (next (suc n) bs) (flat_map (term_line n) (terms (suc n) k (next (suc n) bs))) bs (past_terms (suc n) k (next (suc n) bs))
      (x.1 ∙ ap (λ (ws : List ℕ). line ws ++ next (suc n) bs) (term_is (words (suc n) bs) x.0))
      (lines_are (suc l) k (next (suc n) bs) y.1.1)

one_word : (ws : List ℕ) → length ws ≡ 1 → ws ≡ get_or ws 0 0 ∷ []
one_word [] h = absurd (omega arith)
one_word (w ∷ []) h = refl
one_word (w ∷ v ∷ ws) h = absurd (omega arith)

four_words : (ws : List ℕ) → length ws ≡ 4 → ws ≡ get_or ws 0 0 ∷ get_or ws 1 0 ∷ get_or ws 2 0 ∷ get_or ws 3 0 ∷ []
four_words [] h = absurd (omega arith)
four_words (a ∷ []) h = absurd (omega arith)
four_words (a ∷ b ∷ []) h = absurd (omega arith)
four_words (a ∷ b ∷ c ∷ []) h = absurd (omega arith)
four_words (a ∷ b ∷ c ∷ d ∷ []) h = refl
four_words (a ∷ b ∷ c ∷ d ∷ e ∷ ws) h = absurd (omega arith)

module _ (m : FieldMeaning) (cmp : Comparison) where
  polynomial_is : (l : ℕ) (j : Job) → j.n ≤ variables → (bs : List ℕ) → AllYes (polynomial_asks m cmp l j bs) → bs ≡ polynomial_text j.n (polynomial j.n bs) ++ past j.n bs
  polynomial_is l j fits bs y =
      let x = line_is 1 bs y.1.0 in
      let b = yes_rest (room_asks l j (term_count bs)) (body_asks m cmp l j bs) (yes_rest (line_asks l 1 bs) (room_asks l j (term_count bs) ++ body_asks m cmp l j bs) y) in
      after_part (line (length (polynomial j.n bs) ∷ [])) (next 1 bs) (flat_map (term_line j.n) (polynomial j.n bs)) bs (past j.n bs)
      (x.1 ∙ ap (λ (ws : List ℕ). line ws ++ next 1 bs) (one_word (words 1 bs) x.0 ∙ ap (λ (c : ℕ). c ∷ []) (sym (length_terms m cmp (suc j.n) (term_count bs) (next 1 bs)))))
      (lines_are j.n fits (suc l) (term_count bs) (next 1 bs) (yes_first (lines_asks (suc l) (suc j.n) (term_count bs) (next 1 bs)) _ b))

  polynomials_are : (l : ℕ) (j : Job) → j.n ≤ variables → (k : ℕ) (bs : List ℕ) → AllYes (polynomials_asks m cmp l j k bs) → bs ≡ flat_map (polynomial_text j.n) (polynomials j.n k bs) ++ past_all j.n k bs
  polynomials_are l j fits zero bs y = refl
  polynomials_are l j fits (suc k) bs y =
      after_part (polynomial_text j.n (polynomial j.n bs)) (past j.n bs) (flat_map (polynomial_text j.n) (polynomials j.n k (past j.n bs))) bs (past_all j.n k (past j.n bs))
      (polynomial_is l j fits bs (yes_first (polynomial_asks m cmp l j bs) (later_asks m cmp l j k bs) y))
      (polynomials_are (l + (1 + term_count bs)) (holding j (polynomial j.n bs ∷ [])) fits k (past j.n bs) (yes_rest (polynomial_asks m cmp l j bs) (later_asks m cmp l j k bs) y))

  pub length_polynomials : (n k : ℕ) (bs : List ℕ) → length (polynomials n k bs) ≡ k
  length_polynomials n zero bs = refl
  length_polynomials n (suc k) bs = ap suc (length_polynomials n k (past n bs))

  text_is : (j : Job) → j.n ≤ variables → (bs : List ℕ) → AllYes (fill_asks m cmp j bs)
      → bs ≡ basis_text (field_code bs) (order_code bs) j.n (text_polynomials j.n bs) ++ past_all j.n (header_count bs) (next 4 bs)
  text_is j fits bs y =
      let x = line_is 4 bs y.1.1.0 in
      let h = yes_rest (line_asks 1 4 bs) (header_asks m cmp j bs) y.1 in
      after_part (line (field_code bs ∷ order_code bs ∷ j.n ∷ length (text_polynomials j.n bs) ∷ [])) (next 4 bs) (flat_map (polynomial_text j.n) (text_polynomials j.n bs)) bs _
      (x.1 ∙ ap (λ (ws : List ℕ). line ws ++ next 4 bs) (four_words (words 4 bs) x.0 ∙ ap₂ (λ (a b : ℕ). field_code bs ∷ order_code bs ∷ a ∷ b ∷ []) h.0 (sym (length_polynomials j.n (header_count bs) (next 4 bs)))))
      (polynomials_are 2 j fits (header_count bs) (next 4 bs) h.1)

pub texts_written : TextsWritten
texts_written m laws cmp j fits bs out h =
    let e = text_is m cmp j fits bs h.0 in
    record {
      left = past_all j.n (header_count bs) (next 4 bs);
      text = e;
      size = h.1 ∙ ap (λ (c : ℕ). c ∷ []) (omega (arith, ap length e, length-append (basis_text (field_code bs) (order_code bs) j.n (text_polynomials j.n bs)) (past_all j.n (header_count bs) (next 4 bs))));
    }
