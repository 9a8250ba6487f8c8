-- From the answers to its questions to the outcome of a text.
use Rattle.std.proofs.Common.{◌≡◌, ℕ, ◌+◌, ◌<◌, ◌≤◌, Bool, true, false, cond, eqb, leb, List, [], ◌∷◌, length, get_or, drop, IfSome, IfOk, Some, None, Ok, Err, Option, Result, sym, refl, ap, ◌∙◌, subst, ap₂, zero-add, arith, drop-cons}
use Rattle.std.specs.Bool.{then_some}
use Rattle.std.specs.Result as results
use Rattle.std.proofs.lemmas.List.{drop_all}
use Rattle.std.proofs.lemmas.Bool.{eq-eqb, ne_eqb, le-leb, lt-leb}
use Rattle.std.proofs.lemmas.Result.{IfOk-at_ok}
use Rattle.column.specs.declared.line.LineFault.{LineFault}
use Rattle.column.specs.Line.{line, line_length, reading_line, after_line, taken_words}
use Rattle.column.specs.Place.{put, placed}
use Rattle.column.specs.Place as at
use Rattle.field.specs.declared.fault.FieldFault.{FieldFault}
use Rattle.field.specs.Meaning.{FieldMeaning, total}
use Rattle.field.specs.Bytes.{bytes}
use Rattle.field.specs.Residues.{residues}
use Rattle.field.specs.Faults.{residue_of}
use Rattle.evaluation.specs.declared.fault.ProbeFault.{ProbeFault}
use Rattle.evaluation.specs.declared.fault.ProbeFault.TheVariants.{TooLong, Line, Field, OrderCode, Variables, Point, NotOver}
use Rattle.column.specs.Walk.{left, byte_after}
use Rattle.column.specs.declared.reader.Reader.{Reader}
use Rattle.evaluation.specs.Basis.{words, next, after_all, lines_all}
use Rattle.evaluation.specs.Answer.{Refusal, then, at_place, unless, first_no, asks_line, asks_polynomials, asks_point, asks_over, values_at, outcome_over, one_to_four, outcome_with, outcome_by, outcome_from, outcome, value_lines, printed, answer}
use Rattle.evaluation.specs.Faults.{report_of}
use Rattle.evaluation.specs.Steps.{LinePassed, PolynomialsPassed, Wrote}

cond_at_true : {A : Type 0} (x : Bool) (u v : A) → x ≡ true → cond x u v ≡ u
cond_at_true x u v e = ap (λ (b : Bool). cond b u v) e

cond_at_false : {A : Type 0} (x : Bool) (u v : A) → x ≡ false → cond x u v ≡ v
cond_at_false x u v e = ap (λ (b : Bool). cond b u v) e

over_none : (text : List ℕ) (i : ℕ) → length text ≤ i → asks_over (drop i text) ≡ None
over_none text i h = ap asks_over (drop_all i text h)

over_some : (text : List ℕ) (i : ℕ) → i < length text → asks_over (drop i text) ≡ Some NotOver
over_some text i h = ap asks_over (drop-cons text i 0 h)

module _ (ws : List ℕ) (m : FieldMeaning) (n k : ℕ) (first end last : Reader) (at : first.place.at ≡ 45) (line : first.place.line ≡ 2) where
  abbrev bs : List ℕ
  bs = next 4 first.text.now

  abbrev asked : Refusal → Refusal → Refusal → List ℕ → Result (List ℕ) ProbeFault
  asked a b c x = unless (then a (then b c)) (values_at m n x k bs)

  basis_asked : (a b c : Refusal) → asks_polynomials m n k bs 2 ≡ a → asks_point m n (after_all n k bs) (2 + lines_all n k bs) ≡ b → asks_over (next n (after_all n k bs)) ≡ c
      → outcome_over m n k bs ≡ asked a b c (words n (after_all n k bs))
  unfolding outcome_over
  basis_asked a b c ea eb ec = ap₂ (λ (x y : Refusal). unless (then x y) (values_at m n (words n (after_all n k bs)) k bs)) ea (ap₂ then eb ec)

  abbrev start : List ℕ
  start = left first

  begins : start ≡ bs
  unfolding next
  begins = ap (λ (j : ℕ). drop j first.text.now) at

  first_asked : (a : Refusal) → asks_polynomials m n k start first.place.line ≡ a → asks_polynomials m n k bs 2 ≡ a
  first_asked a h = ap₂ (asks_polynomials m n k) (sym begins) (sym line) ∙ h

  pub basis_refused : (e : ProbeFault) → asks_polynomials m n k start first.place.line ≡ Some e → outcome_over m n k bs ≡ Err e
  basis_refused e h = basis_asked (Some e) _ _ (first_asked (Some e) h) refl refl

  module _ (p : PolynomialsPassed m n k first end) where
    here : after_all n k bs ≡ left end
    here = sym (p.rest ∙ ap (after_all n k) begins)

    count : 2 + lines_all n k bs ≡ end.place.line
    count = sym (p.line ∙ ap₂ (λ (l : ℕ) (xs : List ℕ). l + lines_all n k xs) line begins)

    point_asked : (b : Refusal) → asks_point m n (left end) end.place.line ≡ b → asks_point m n (after_all n k bs) (2 + lines_all n k bs) ≡ b
    point_asked b e = ap₂ (asks_point m n) here count ∙ e

    from_point : (b c : Refusal) → asks_point m n (left end) end.place.line ≡ b → asks_over (next n (left end)) ≡ c
        → outcome_over m n k bs ≡ asked None b c (words n (left end))
    from_point b c eb ec =
        basis_asked None b c (first_asked None p.asked) (point_asked b eb) (ap (λ (xs : List ℕ). asks_over (next n xs)) here ∙ ec)
        ∙ ap (λ (xs : List ℕ). asked None b c (words n xs)) here

    pub point_unread : (e : ProbeFault) → asks_line n (left end) end.place.line ≡ Some e → outcome_over m n k bs ≡ Err e
    unfolding asks_point
    point_unread e h = from_point (Some e) _ (ap (λ (x : Refusal). then x (at_place (Point end.place.line) (first_no m.elem (words n (left end))))) h) refl

    module _ (l : LinePassed n end last ws) where
      words-asked : (o : Option ℕ) → o ≡ first_no m.elem ws → asks_point m n (left end) end.place.line ≡ at_place (Point end.place.line) o
      unfolding asks_point
      words-asked o h = ap₂ (λ (x : Refusal) (y : Option ℕ). then x (at_place (Point end.place.line) y)) l.asked (sym (h ∙ ap (first_no m.elem) l.taken))

      pub word-refused : (w : ℕ) → Some w ≡ first_no m.elem ws → outcome_over m n k bs ≡ Err (Point end.place.line w)
      word-refused w h = from_point _ _ (words-asked (Some w) h) refl

      pub more-follows : None ≡ first_no m.elem ws → last.place.at < length last.text.now → outcome_over m n k bs ≡ Err NotOver
      more-follows h i = from_point None (Some NotOver) (words-asked None h) (ap asks_over (sym l.rest) ∙ over_some last.text.now last.place.at i)

      pub all-answered : None ≡ first_no m.elem ws → length last.text.now ≤ last.place.at → outcome_over m n k bs ≡ Ok (values_at m n ws k start)
      all-answered h i =
          from_point None None (words-asked None h) (ap asks_over (sym l.rest) ∙ over_none last.text.now last.place.at i)
          ∙ ap₂ (λ (x y : List ℕ). Ok (values_at m n x k y)) (sym l.taken) (sym begins)

-- ---- the header

abbrev pub four : List ℕ
four = 0 ∷ 0 ∷ 0 ∷ 0 ∷ []

pub wrote_as : (r : Result ℕ ProbeFault) (x y : Result (List ℕ) ProbeFault) (old new : List ℕ) → x ≡ y → Wrote r x old new → Wrote r y old new
wrote_as r x y old new e w = subst (λ (z : Result (List ℕ) ProbeFault). Wrote r z old new) e w

module _ (m : FieldMeaning) (o n k : ℕ) (bs : List ℕ) where
  header_asked : (x y : Bool) → x ≡ one_to_four o → y ≡ one_to_four n → cond x (cond y (outcome_over m n k bs) (Err Variables)) (Err OrderCode) ≡ outcome_with m o n k bs
  unfolding outcome_with
  header_asked x y ex ey = ap₂ (λ (s t : Bool). cond s (cond t (outcome_over m n k bs) (Err Variables)) (Err OrderCode)) ex ey

  pub order_refused : false ≡ one_to_four o → outcome_with m o n k bs ≡ Err OrderCode
  order_refused h = sym (header_asked false _ h refl)

  pub variables_refused : true ≡ one_to_four o → false ≡ one_to_four n → outcome_with m o n k bs ≡ Err Variables
  variables_refused h i = sym (header_asked true false h i)

  header_stands : true ≡ one_to_four o → true ≡ one_to_four n → outcome_over m n k bs ≡ outcome_with m o n k bs
  header_stands h i = header_asked true true h i

  pub header_wrote : (r : Result ℕ ProbeFault) (old new : List ℕ) → true ≡ one_to_four o → true ≡ one_to_four n
      → Wrote r (outcome_over m n k bs) old new → Wrote r (outcome_with m o n k bs) old new
  header_wrote r old new h i w = wrote_as r _ _ old new (header_stands h i) w

-- ---- the field

module _ (c o n k : ℕ) (bs : List ℕ) where
  pub over_bytes : c ≡ 0 → outcome_with (total bytes) o n k bs ≡ outcome_by c o n k bs
  unfolding outcome_by
  over_bytes z = sym (cond_at_true (eqb c 0) _ _ (eq-eqb c 0 z))

  by_residue : (c ≡ 0 → ⊥) → (r : Result ℕ FieldFault) → residue_of c ≡ r → outcome_by c o n k bs ≡ elim r [ Ok p ↦ outcome_with (total (residues p)) o n k bs | Err e ↦ Err (Field e) ]
  unfolding outcome_by
  by_residue nz r e = cond_at_false (eqb c 0) _ _ (ne_eqb c 0 nz) ∙ ap (λ (x : Result ℕ FieldFault). elim x [ Ok p ↦ outcome_with (total (residues p)) o n k bs | Err e ↦ Err (Field e) ]) e

  pub field_refused : (c ≡ 0 → ⊥) → (e : FieldFault) → residue_of c ≡ Err e → outcome_by c o n k bs ≡ Err (Field e)
  field_refused nz e h = by_residue nz (Err e) h

  pub over_residues : (c ≡ 0 → ⊥) → (p : ℕ) → residue_of c ≡ Ok p → outcome_with (total (residues p)) o n k bs ≡ outcome_by c o n k bs
  over_residues nz p h = sym (by_residue nz (Ok p) h)

-- ---- the text

module _ (text : List ℕ) where
  pub text_refused : 8192 < length text → outcome text ≡ Err TooLong
  unfolding outcome
  text_refused h = cond_at_false (leb (length text) 8192) _ _ (lt-leb (length text) 8192 h)

  text_asked : length text ≤ 8192 → outcome text ≡ outcome_from (reading_line 4 text) (next 4 text)
  unfolding outcome
  text_asked h = cond_at_true (leb (length text) 8192) _ _ (le-leb (length text) 8192 h)

  header_no : length text ≤ 8192 → (f : LineFault) → Err f ≡ after_line text 0 4 → outcome text ≡ Err (Line f 1)
  header_no h f e = text_asked h ∙ by_reading (reading_line 4 text) e
    where
      by_reading : (r : Result (List ℕ) LineFault) → Err f ≡ results.result_map_both (λ _. 0 + line_length 4) (λ f. f) r → outcome_from r (next 4 text) ≡ Err (Line f 1)
      by_reading (Ok ws) e = absurd (let z : ◌≡◌ {A = ℕ} 0 1 = cc in omega arith)
      by_reading (Err g) e = let s : f ≡ g = cc in ap (λ (x : LineFault). Err (Line x 1)) (sym s)

  header_yes : length text ≤ 8192 → (q : ℕ) (old new : List ℕ) → Ok q ≡ after_line text 0 4 → length old ≡ 4 → new ≡ taken_words text 0 old
      → outcome_by (get_or new 0 0) (get_or new 1 0) (get_or new 2 0) (get_or new 3 0) (next 4 text) ≡ outcome text
  header_yes h q old new e l t = by_reading (reading_line 4 text) refl e (t ∙ ap (λ (j : ℕ). results.result_unwrap_or (reading_line j text) old) l) ∙ sym (text_asked h)
    where
      by_reading : (r : Result (List ℕ) LineFault) → reading_line 4 text ≡ r → Ok q ≡ results.result_map_both (λ _. 0 + line_length 4) (λ f. f) (reading_line 4 text) → new ≡ results.result_unwrap_or (reading_line 4 text) old
          → outcome_by (get_or new 0 0) (get_or new 1 0) (get_or new 2 0) (get_or new 3 0) (next 4 text) ≡ outcome_from (reading_line 4 text) (next 4 text)
      by_reading (Ok ws) er e t =
          let s : new ≡ ws = t ∙ ap (λ (r : Result (List ℕ) LineFault). results.result_unwrap_or r old) er in
          ap (λ (xs : List ℕ). outcome_by (get_or xs 0 0) (get_or xs 1 0) (get_or xs 2 0) (get_or xs 3 0) (next 4 text)) s ∙ sym (ap (λ (r : Result (List ℕ) LineFault). outcome_from r (next 4 text)) er)
      by_reading (Err f) er e t = absurd (let z : ◌≡◌ {A = ℕ} 0 1 = cc in omega arith)

  -- from what reading the line promises of a reader at the first
  module _ (p : Reader) (same : p.text.now ≡ text) (first : p.place.at ≡ 0) (h : length text ≤ 8192) (r : Result Reader LineFault) (e : byte_after r ≡ after_line p.text.now p.place.at 4) where
    at_first : byte_after r ≡ after_line text 0 4
    at_first = e ∙ ap₂ (λ (t : List ℕ) (at : ℕ). after_line t at 4) same first

    pub header_unread : (f : LineFault) → r ≡ Err f → outcome text ≡ Err (Line f 1)
    header_unread f is = header_no h f (sym (ap byte_after is) ∙ at_first)

    pub header_read : (q : Reader) (new : List ℕ) → r ≡ Ok q → IfOk r (λ q. q.text.now ≡ p.text.now) → new ≡ taken_words p.text.now p.place.at four
        → outcome_by (get_or new 0 0) (get_or new 1 0) (get_or new 2 0) (get_or new 3 0) (next 4 q.text.now) ≡ outcome text
    header_read q new is there t =
        ap (λ (bs : List ℕ). outcome_by (get_or new 0 0) (get_or new 1 0) (get_or new 2 0) (get_or new 3 0) (next 4 bs)) (IfOk-at_ok (λ (q : Reader). q.text.now ≡ p.text.now) is there ∙ same)
        ∙ header_yes h q.place.at four new (sym (ap byte_after is) ∙ at_first) refl (t ∙ ap₂ (λ (t : List ℕ) (at : ℕ). taken_words t at four) same first)

-- ---- what is printed

module _ (text old : List ℕ) where
  pub values_printed : (end : ℕ) (new : List ℕ) → Wrote (Ok end) (outcome text) old new → (Some end ≡ Some (length (answer text))) × (new ≡ put old 0 (answer text))
  unfolding answer
  values_printed end new w =
      let e : printed (outcome text) ≡ value_lines w.0 = ap printed w.1 in
      (ap Some (w.3 ∙ sym (ap length e)), w.2 ∙ sym (ap (put old 0) e))

  pub fault_printed : (f : ProbeFault) (mid new ws : List ℕ) (r : Option ℕ) → 8192 ≤ length old → Wrote (Err f) (outcome text) old mid → ws ≡ report_of f → length (line ws) ≤ 8192
      → r ≡ at.after mid 0 (line ws) → new ≡ placed mid 0 (line ws) → (r ≡ Some (length (answer text))) × (new ≡ put old 0 (answer text)) × IfSome r (λ n. n ≤ length old)
  unfolding answer
  fault_printed f mid new ws r room w s short er en =
      let e : printed (outcome text) ≡ line ws = ap printed w.0 ∙ ap line (sym s) in
      let yes : leb (0 + length (line ws)) (length mid) ≡ true = le-leb _ _ (omega (arith, ap length w.1)) in
      let size : r ≡ Some (length (line ws)) = er ∙ ap (λ (t : Bool). then_some t (0 + length (line ws))) yes ∙ ap Some (zero-add (length (line ws))) in
      let fits : length (line ws) ≤ length old = omega arith in (
        size ∙ ap Some (sym (ap length e)),
        en ∙ ap (λ (t : Bool). cond t (put mid 0 (line ws)) mid) yes ∙ ap₂ (λ (o b : List ℕ). put o 0 b) w.1 (sym e),
        subst (λ (x : Option ℕ). IfSome x (λ n. n ≤ length old)) (sym size) fits,
      )
