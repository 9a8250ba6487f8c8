-- What reading a line answers is exact, and nothing else is; from it, that a line that reads is the line, and that there is at most one.
-- Used by: read_line, the laws that functions name, and the text layers above.
use Rattle.std.proofs.Common.{◌≡◌, ℕ, ◌+◌, ◌*◌, Bool, true, false, cond, List, ◌∷◌, ◌++◌, length, take, drop, Some, Ok, Err, Result, sym, refl, ap, ◌∙◌, subst, arith}
use Rattle.std.specs.Result as results
use Rattle.std.specs.List.{AllByRecursion}
use Rattle.std.proofs.lemmas.List.{drop-drop, drop_more, take_at}
use Rattle.std.proofs.lemmas.Bool.{both_ways, leb-true}
use Rattle.column.specs.Column.{Word, column, reading}
use Rattle.column.specs.Line.{columns, line, line_length, Begins, EndsAfter, ReadsLine, before_newline, exact, numbers, values, reading_line, after_line, taken_words, LineTaken}
use Rattle.column.specs.Place.{room, put, placed}
use Rattle.column.specs.declared.line.LineFault.{LineFault}
use Rattle.column.specs.declared.line.LineFault.TheVariants.{WrongLength, NotANumber}
use Rattle.column.proofs.Columns.{column_length, reading_column}
use Rattle.column.proofs.Lines.{line_then, line_length_is, before_newline_line, numbers_line, reading_line_line, columns_from_numbers}
use Rattle.column.proofs.Newlines.{ends_from_exact, exact_from_ends}
use Rattle.column.proofs.Places.{drop_put}
use Rattle.column.proofs.Questions.{reading_wrong_length, reading_not_a_number, reading_words}

-- each way through the two questions

module _ (c : ℕ) (bs : List ℕ) where
  -- the columns are numbers, and the byte after them is 10
  line_from_numbers : exact c bs ≡ true → numbers c bs ≡ true → ReadsLine c bs (Ok (values c bs))
  line_from_numbers e t =
      let ends = ends_from_exact c bs e in
      let cols = columns_from_numbers c bs t in
      let vs : List ℕ = values c bs in
      let rest : drop (11 * c) bs ≡ 10 ∷ drop (line_length c) bs =
      drop_more bs (11 * c) 0 ends.0 ∙ ap (λ b. b ∷ drop (line_length c) bs) ends.1 in
      let n : line_length c ≡ length (line vs) = ap line_length (sym cols.0) ∙ sym (line_length_is vs cols.1) in (
        cols.0,
        cols.1,
        cols.2 ∙ ap (λ xs. columns vs ++ xs) rest ∙ sym (line_then vs (drop (line_length c) bs)) ∙ ap (λ k. line vs ++ drop k bs) n,
      )

  numbers_from_begins : (ws : List ℕ) → length ws ≡ c → AllByRecursion Word ws → Begins bs (line ws) → numbers c bs ≡ true
  numbers_from_begins ws n h b = ap (λ k. numbers k bs) (sym n) ∙ ap (numbers (length ws)) b ∙ numbers_line ws (drop (length (line ws)) bs) h

  reads_by : (t u : Bool) → exact c bs ≡ t → numbers c bs ≡ u → ReadsLine c bs (reading_line c bs)
  reads_by false u e n = subst (ReadsLine c bs) (sym (reading_wrong_length c bs e)) (λ ends. both_ways (exact c bs) e (exact_from_ends c bs ends))
  reads_by true false e n =
      subst (ReadsLine c bs) (sym (reading_not_a_number c bs e n))
      (ends_from_exact c bs e, λ ws l h b. both_ways (numbers c bs) n (numbers_from_begins ws l h b))
  reads_by true true e n = subst (ReadsLine c bs) (sym (reading_words c bs e n)) (line_from_numbers e n)

  pub reads_line_reading : ReadsLine c bs (reading_line c bs)
  reads_line_reading = reads_by (exact c bs) (numbers c bs) refl refl

-- no other answer

pub reading_from_begins : (ws bs : List ℕ) → AllByRecursion Word ws → Begins bs (line ws) → reading_line (length ws) bs ≡ Ok ws
reading_from_begins ws bs h b = ap (reading_line (length ws)) b ∙ reading_line_line ws (drop (length (line ws)) bs) h

module _ (c : ℕ) (bs : List ℕ) where
  wrong_length_by : (t : Bool) → exact c bs ≡ t → (EndsAfter c bs → ⊥) → exact c bs ≡ false
  wrong_length_by false e no' = e
  wrong_length_by true e no' = absurd (no' (ends_from_exact c bs e))

  no_number_by : (t : Bool) → numbers c bs ≡ t → exact c bs ≡ true → ((ws : List ℕ) → length ws ≡ c → AllByRecursion Word ws → Begins bs (line ws) → ⊥) → numbers c bs ≡ false
  no_number_by false n e no' = n
  no_number_by true n e no' = let l = line_from_numbers c bs e n in absurd (no' (values c bs) l.0 l.1 l.2)

  pub reading_line_from : (r : Result (List ℕ) LineFault) → ReadsLine c bs r → r ≡ reading_line c bs
  reading_line_from (Ok ws) (n, h, b) = sym (ap (λ k. reading_line k bs) (sym n) ∙ reading_from_begins ws bs h b)
  reading_line_from (Err WrongLength) no' = sym (reading_wrong_length c bs (wrong_length_by (exact c bs) refl no'))
  reading_line_from (Err NotANumber) (ends, no') =
      let e = exact_from_ends c bs ends in
      sym (reading_not_a_number c bs e (no_number_by (numbers c bs) refl e no'))

-- at a place of a text

pub line_reads_back : (bytes rest ws : List ℕ) (at : ℕ) → AllByRecursion Word ws → drop at bytes ≡ line ws ++ rest → reading_line (length ws) (drop at bytes) ≡ Ok ws
line_reads_back bytes rest ws at h e = ap (reading_line (length ws)) e ∙ reading_line_line ws rest h

pub read_is_line : (bytes ws : List ℕ) (at c : ℕ) → reading_line c (drop at bytes) ≡ Ok ws
    → (length ws ≡ c) × AllByRecursion Word ws × (drop at bytes ≡ line ws ++ drop (at + line_length c) bytes)
read_is_line bytes ws at c e =
    let r : ReadsLine c (drop at bytes) (Ok ws) = subst (ReadsLine c (drop at bytes)) e (reads_line_reading c (drop at bytes)) in
    let n : length (line ws) ≡ line_length c = line_length_is ws r.1 ∙ ap line_length r.0 in (
      r.0,
      r.1,
      r.2 ∙ ap (λ k. line ws ++ drop k (drop at bytes)) n ∙ ap (λ xs. line ws ++ xs) (drop-drop (line_length c) at bytes),
    )

taken_by : (bytes old : List ℕ) (at : ℕ) (q : Result (List ℕ) LineFault) → ReadsLine (length old) (drop at bytes) q
    → LineTaken bytes at old (results.result_unwrap_or q old) (results.result_map_both (λ _. at + line_length (length old)) (λ f. f) q)
taken_by bytes old at (Ok ws) h = (refl, h)
taken_by bytes old at (Err f) h = (h, refl)

-- what a read answers and leaves is exact
pub line_taken : (bytes old new : List ℕ) (at : ℕ) (r : Result ℕ LineFault) → r ≡ after_line bytes at (length old) → new ≡ taken_words bytes at old → LineTaken bytes at old new r
line_taken bytes old new at r e is =
    let h = taken_by bytes old at (reading_line (length old) (drop at bytes)) (reads_line_reading (length old) (drop at bytes)) in
    subst (LineTaken bytes at old new) (sym e) (subst (λ ws. LineTaken bytes at old ws (after_line bytes at (length old))) (sym is) h)

-- bytes begin with at most one line: its length shows at the first byte 10

same_words : (vs ws : List ℕ) → ◌≡◌ {A = Result (List ℕ) LineFault} (Ok vs) (Ok ws) → vs ≡ ws
same_words vs ws e = cc

pub one_line : (bs vs ws : List ℕ) → AllByRecursion Word vs → AllByRecursion Word ws → Begins bs (line vs) → Begins bs (line ws) → vs ≡ ws
one_line bs vs ws h k b d =
    let n : 11 * length vs ≡ 11 * length ws =
    sym (before_newline_line vs (drop (length (line vs)) bs) h) ∙ ap before_newline (sym b ∙ d) ∙ before_newline_line ws (drop (length (line ws)) bs) k in
    let m : length vs ≡ length ws = omega arith in
    same_words vs ws (sym (reading_from_begins vs bs h b) ∙ ap (λ c. reading_line c bs) m ∙ reading_from_begins ws bs k d)

-- what was written

pub written_line_reads : (out ws : List ℕ) (at : ℕ) → AllByRecursion Word ws → room out at (line ws) ≡ true → reading_line (length ws) (drop at (placed out at (line ws))) ≡ Ok ws
written_line_reads out ws at h t =
    let fits = leb-true (at + length (line ws)) (length out) t in
    ap (λ b. reading_line (length ws) (drop at (cond b (put out at (line ws)) out))) t
    ∙ line_reads_back (put out at (line ws)) (drop (at + length (line ws)) out) ws at h (drop_put out (line ws) at (omega arith))

pub written_column_reads : (out : List ℕ) (at w : ℕ) → Word w → room out at (column w) ≡ true → reading (take 11 (drop at (placed out at (column w)))) ≡ Some w
written_column_reads out at w h t =
    let fits = leb-true (at + length (column w)) (length out) t in
    ap (λ b. reading (take 11 (drop at (cond b (put out at (column w)) out)))) t
    ∙ ap (λ bs. reading (take 11 bs)) (drop_put out (column w) at (omega arith))
    ∙ ap reading (take_at (column w) (drop (at + length (column w)) out) 11 (column_length w h))
    ∙ reading_column w h
