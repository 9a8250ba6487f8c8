-- The two questions of reading a line, in order, and the answer that each way gives.
-- Used by: ends_after, read_line.
use Rattle.std.proofs.Common.{◌≡◌, ℕ, ◌+◌, ◌*◌, ◌<◌, ◌≤◌, Bool, true, false, not, cond, ◌&&◌, eqb, ltb, List, length, drop, Some, None, position, Ok, Err, refl, sym, ap, ◌∙◌, arith, length-drop}
use Rattle.std.specs.List.{prefix_len}
use Rattle.std.specs.Option.{option_eq}
use Rattle.std.specs.Result as results
use Rattle.std.proofs.lemmas.Bool.Decides.{nat_tests}
use Rattle.std.proofs.lemmas.List.Sums.{prefix_len-le-length}
use Rattle.column.specs.Line.{line_length, before_newline, exact, numbers, values, reading_line, after_line, taken_words}
use Rattle.column.specs.declared.line.LineFault.{LineFault}
use Rattle.column.specs.declared.line.LineFault.TheVariants.{WrongLength, NotANumber}

compared : (t : Bool) (p n l : ℕ) → ltb p l ≡ t → p ≤ l → option_eq eqb (cond t (Some p) None) (Some n) ≡ eqb p n && ltb n l
compared true p n l e h = grind (arith, nat_tests)
compared false p n l e h = grind (arith, nat_tests)

-- where the first byte 10 is found decides whether a line of c columns ends there
pub ends_when : (c : ℕ) (bs : List ℕ) → option_eq eqb (position (λ b. eqb b 10) bs) (Some (11 * c)) ≡ exact c bs
unfolding exact before_newline
ends_when c bs = compared _ (prefix_len (λ b. not (eqb b 10)) bs) (11 * c) (length bs) refl (prefix_len-le-length (λ b. not (eqb b 10)) bs)

pub exact_without_room : (bytes : List ℕ) (at c : ℕ) → length bytes < at + line_length c → false ≡ exact c (drop at bytes)
unfolding exact
exact_without_room bytes at c h = let l = length-drop at bytes in grind (arith, nat_tests)

-- the answer by the two tests

module _ (c : ℕ) (bs : List ℕ) where
  pub reading_wrong_length : exact c bs ≡ false → reading_line c bs ≡ Err WrongLength
  unfolding reading_line
  reading_wrong_length e = ap (λ t. cond t (cond (numbers c bs) (Ok (values c bs)) (Err NotANumber)) (Err WrongLength)) e

  pub reading_exact_length : exact c bs ≡ true → reading_line c bs ≡ cond (numbers c bs) (Ok (values c bs)) (Err NotANumber)
  unfolding reading_line
  reading_exact_length e = ap (λ t. cond t (cond (numbers c bs) (Ok (values c bs)) (Err NotANumber)) (Err WrongLength)) e

  pub reading_not_a_number : exact c bs ≡ true → numbers c bs ≡ false → reading_line c bs ≡ Err NotANumber
  reading_not_a_number e n = reading_exact_length e ∙ ap (λ t. cond t (Ok (values c bs)) (Err NotANumber)) n

  pub reading_words : exact c bs ≡ true → numbers c bs ≡ true → reading_line c bs ≡ Ok (values c bs)
  reading_words e n = reading_exact_length e ∙ ap (λ t. cond t (Ok (values c bs)) (Err NotANumber)) n

-- what the caller gets

module _ (bytes : List ℕ) (at : ℕ) (old : List ℕ) where
  pub refused_answer : (f : LineFault) → reading_line (length old) (drop at bytes) ≡ Err f → (Err f ≡ after_line bytes at (length old)) × (old ≡ taken_words bytes at old)
  refused_answer f e =
      (sym (ap (results.result_map_both (λ _. at + line_length (length old)) (λ g. g)) e), sym (ap (λ r. results.result_unwrap_or r old) e))

  pub read_answer : (ws : List ℕ) → reading_line (length old) (drop at bytes) ≡ Ok (values (length old) (drop at bytes)) → ws ≡ values (length old) (drop at bytes)
      → (Ok (at + 11 * length old + 1) ≡ after_line bytes at (length old)) × (ws ≡ taken_words bytes at old)
  read_answer ws e is =
      (ap Ok (omega arith) ∙ sym (ap (results.result_map_both (λ _. at + line_length (length old)) (λ g. g)) e), is ∙ sym (ap (λ r. results.result_unwrap_or r old) e))
