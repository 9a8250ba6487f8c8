-- A line and its words, on lists: lengths, the first byte 10, and reading back and forth.
-- Used by: write_line, the laws that functions name, and the text layers above.
use Rattle.std.proofs.Common.{◌≡◌, ℕ, zero, suc, ◌+◌, ◌-◌, ◌*◌, ◌%◌, ◌≤◌, true, false, List, [], ◌∷◌, ◌++◌, length, get_or, take, drop, set, replicate, is_some, Some, None, Ok, decimal, Option, unwrap_or, sym, refl, ap, ◌∙◌, arith, length-append, take-append-drop, w32, Fits}
use Rattle.std.specs.List.{AllByRecursion}
use Rattle.std.proofs.lemmas.Fmt.{decimal_by_steps}
use Rattle.std.proofs.ByRecursion.{All-from_get_or, All-append, All-push}
use Rattle.std.proofs.lemmas.List.{append_assoc, drop_at, drop-drop, take_at}
use Rattle.std.proofs.lemmas.Bool.{and_from, and_parts, both_ways, eq-eqb, lt-ltb}
use Rattle.column.specs.Column.{Word, column, Reads, reading}
use Rattle.column.specs.Line.{columns, line, line_length, before_newline, exact, numbers, values, reading_line}
use Rattle.column.specs.Place.{put}
use Rattle.column.proofs.Columns.{column_length, reading_exact, reading_column}
use Rattle.column.proofs.Newlines.{Other, before_newline_past, before_newline_here}
use Rattle.column.proofs.Places.{put_put, put_byte}
use Rattle.column.proofs.Questions.{reading_words}

-- the numbers that a slice of words holds are words
pub words_from_fits : (ws : List ℕ) → ((i : ℕ) → Fits w32 (get_or ws i 0)) → AllByRecursion Word ws
words_from_fits ws h = All-from_get_or Word ws 0 (λ i _. let k = h i in omega arith)

pub columns_length : (ws : List ℕ) → AllByRecursion Word ws → length (columns ws) ≡ 11 * length ws
unfolding columns
columns_length [] h = refl
columns_length (w ∷ ws) (h, hs) = length-append (column w) (columns ws) ∙ omega (arith, column_length w h, columns_length ws hs)

pub line_length_is : (ws : List ℕ) → AllByRecursion Word ws → length (line ws) ≡ line_length (length ws)
unfolding line
line_length_is ws h = length-append (columns ws) (10 ∷ []) ∙ ap (λ n. n + 1) (columns_length ws h)

pub line_then : (ws rest : List ℕ) → line ws ++ rest ≡ columns ws ++ (10 ∷ rest)
unfolding line
line_then ws rest = append_assoc (columns ws) (10 ∷ []) rest

-- no byte of a column is 10, so a line ends at its first one

digits_no_newline : (w : ℕ) → Word w → AllByRecursion Other (decimal w)
digits_no_newline w h =
    decimal_by_steps (λ _ ds. AllByRecursion Other ds)
    (λ n _. ((λ e. omega arith), tt))
    (λ n ds _ ih. All-push Other ds (48 + n % 10) ih (λ e. omega arith))
    w (omega arith)

blanks_no_newline : (k : ℕ) → AllByRecursion Other (replicate k 32)
blanks_no_newline zero = tt
blanks_no_newline (suc k) = ((λ e. omega arith), blanks_no_newline k)

column_no_newline : (w : ℕ) → Word w → AllByRecursion Other (column w)
unfolding column
column_no_newline w h = All-append Other (replicate (11 - length (decimal w)) 32) (decimal w) (blanks_no_newline (11 - length (decimal w))) (digits_no_newline w h)

columns_no_newline : (ws : List ℕ) → AllByRecursion Word ws → AllByRecursion Other (columns ws)
unfolding columns
columns_no_newline [] h = tt
columns_no_newline (w ∷ ws) (h, hs) = All-append Other (column w) (columns ws) (column_no_newline w h) (columns_no_newline ws hs)

pub before_newline_line : (ws rest : List ℕ) → AllByRecursion Word ws → before_newline (line ws ++ rest) ≡ 11 * length ws
before_newline_line ws rest h =
    ap before_newline (line_then ws rest)
    ∙ before_newline_past (columns ws) (10 ∷ rest) (columns_no_newline ws h)
    ∙ omega (arith, before_newline_here rest, columns_length ws h)

pub exact_line : (ws rest : List ℕ) → AllByRecursion Word ws → exact (length ws) (line ws ++ rest) ≡ true
unfolding exact
exact_line ws rest h =
    let l : length (line ws ++ rest) ≡ line_length (length ws) + length rest =
    length-append (line ws) rest ∙ ap (λ n. n + length rest) (line_length_is ws h) in
    and_from _ _ (eq-eqb _ _ (before_newline_line ws rest h)) (lt-ltb (11 * length ws) (length (line ws ++ rest)) (omega arith))

-- the columns of words are numbers, and their numbers are the words

module _ (w : ℕ) (ws rest : List ℕ) (h : Word w) where
  split : columns (w ∷ ws) ++ rest ≡ column w ++ (columns ws ++ rest)
  unfolding columns
  split = append_assoc (column w) (columns ws) rest

  first_column : reading (take 11 (columns (w ∷ ws) ++ rest)) ≡ Some w
  first_column = ap (λ bs. reading (take 11 bs)) split ∙ ap reading (take_at (column w) (columns ws ++ rest) 11 (column_length w h)) ∙ reading_column w h

  other_columns : drop 11 (columns (w ∷ ws) ++ rest) ≡ columns ws ++ rest
  other_columns = ap (drop 11) split ∙ drop_at (column w) (columns ws ++ rest) 11 (column_length w h)

numbers_columns : (ws rest : List ℕ) → AllByRecursion Word ws → numbers (length ws) (columns ws ++ rest) ≡ true
unfolding numbers
numbers_columns [] rest h = refl
numbers_columns (w ∷ ws) rest (h, hs) =
    and_from _ _ (ap is_some (first_column w ws rest h)) (ap (numbers (length ws)) (other_columns w ws rest h) ∙ numbers_columns ws rest hs)

values_columns : (ws rest : List ℕ) → AllByRecursion Word ws → values (length ws) (columns ws ++ rest) ≡ ws
unfolding values
values_columns [] rest h = refl
values_columns (w ∷ ws) rest (h, hs) =
    ap (λ o. unwrap_or o 0 ∷ values (length ws) (drop 11 (columns (w ∷ ws) ++ rest))) (first_column w ws rest h)
    ∙ ap (λ vs. w ∷ vs) (ap (values (length ws)) (other_columns w ws rest h) ∙ values_columns ws rest hs)

pub numbers_line : (ws rest : List ℕ) → AllByRecursion Word ws → numbers (length ws) (line ws ++ rest) ≡ true
numbers_line ws rest h = ap (numbers (length ws)) (line_then ws rest) ∙ numbers_columns ws (10 ∷ rest) h

-- a line reads as its words, whatever comes after it
pub reading_line_line : (ws rest : List ℕ) → AllByRecursion Word ws → reading_line (length ws) (line ws ++ rest) ≡ Ok ws
reading_line_line ws rest h =
    reading_words (length ws) (line ws ++ rest) (exact_line ws rest h) (numbers_line ws rest h)
    ∙ ap Ok (ap (values (length ws)) (line_then ws rest) ∙ values_columns ws (10 ∷ rest) h)

-- columns that are numbers are the columns of these numbers

column_from_some : (bs : List ℕ) (o : Option ℕ) → Reads bs o → is_some o ≡ true → (bs ≡ column (unwrap_or o 0)) × Word (unwrap_or o 0)
column_from_some bs (Some w) h t = h
column_from_some bs None h t = absurd (both_ways false refl t)

pub columns_from_numbers : (c : ℕ) (bs : List ℕ) → numbers c bs ≡ true
    → (length (values c bs) ≡ c) × AllByRecursion Word (values c bs) × (bs ≡ columns (values c bs) ++ drop (11 * c) bs)
unfolding numbers values columns
columns_from_numbers zero bs t = (refl, tt, refl)
columns_from_numbers (suc c) bs t =
    let p = and_parts (is_some (reading (take 11 bs))) (numbers c (drop 11 bs)) t in
    let w : ℕ = unwrap_or (reading (take 11 bs)) 0 in
    let vs : List ℕ = values c (drop 11 bs) in
    let first = column_from_some (take 11 bs) (reading (take 11 bs)) (reading_exact (take 11 bs)) p.0 in
    let others = columns_from_numbers c (drop 11 bs) p.1 in
    let n : 11 + 11 * c ≡ 11 * suc c = omega arith in (
      ap suc others.0,
      (first.1, others.1),
      sym (take-append-drop 11 bs)
          ∙ ap (λ xs. xs ++ drop 11 bs) first.0
          ∙ ap (λ xs. column w ++ xs) others.2
          ∙ ap (λ xs. column w ++ (columns vs ++ xs)) (drop-drop (11 * c) 11 bs ∙ ap (λ k. drop k bs) n)
          ∙ sym (append_assoc (column w) (columns vs) (drop (11 * suc c) bs)),
    )

-- writing: the columns, then the byte 10 after them, are the line
pub put_line : (out cols ws : List ℕ) (at : ℕ) → AllByRecursion Word ws → at + line_length (length ws) ≤ length out → length cols ≡ length out
    → cols ≡ put out at (columns ws) → set cols (at + 11 * length ws) 10 ≡ put out at (line ws)
unfolding line
put_line out cols ws at h room n e =
    let l = columns_length ws h in
    put_byte cols (at + 11 * length ws) 10 (omega arith)
    ∙ ap (λ k. put cols (at + k) (10 ∷ [])) (sym l)
    ∙ ap (λ xs. put xs (at + length (columns ws)) (10 ∷ [])) e
    ∙ put_put out (columns ws) (10 ∷ []) at (omega arith)
