-- Lines of columns.
--   columns ws          the columns of the words ws, one after the other
--   line ws             the columns of ws, then byte 10
--   line_length c       the bytes of a line of c columns
--   Begins bs ys        bs begins with ys
--   EndsAfter c bs     the first byte 10 of bs stands right after c columns
--   ReadsLine c bs r   r is the c words whose line bs begins with; or WrongLength, where no line of c columns ends there; or
--                       NotANumber, where one ends there and bs begins with the line of no c words
--   before_newline bs   how many bytes stand before the first byte 10, all of them where there is none
--   exact c bs          the test of EndsAfter
--   numbers c bs        the test that each of the first c columns of bs is a number
--   values c bs         the numbers of the first c columns of bs
--   reading_line c bs   what reading a line of c columns from bs gives: the length is asked first, then the numbers
--   after_line          the place after the line of c columns at a place, or why it does not read
--   taken_words         the words after a read: those of the line, or as they were where it does not read
--   LineTaken          the words are now those whose line stands at the place, which r is after; or r says why not, and they are as they were
--   fault_number f      the number of a refusal: 26 wrong length, 27 not a number
-- Used by: read_line, write_line and the text layers above. Theorems: in Laws.
use Rattle.std.specs.Prelude.{◌≡◌, ℕ, zero, suc, ◌+◌, ◌*◌, ◌<◌, Bool, true, cond, not, ◌&&◌, List, [], ◌∷◌, ◌++◌, length, take, drop, is_some, Ok, Err, Result, ◌==◌, ◌≢◌, nat_lt, slice_index}
use Rattle.std.specs.List.{flat_map, prefix_len, AllByRecursion}
use Rattle.std.specs.Option.{unwrap_or}
use Rattle.std.specs.Result as results
use Rattle.column.specs.Column.{Word, column, reading}
use Rattle.column.specs.declared.line.LineFault.{LineFault}
use Rattle.column.specs.declared.line.LineFault.TheVariants.{WrongLength, NotANumber}

unfoldable pub columns : List ℕ → List ℕ
columns ws = flat_map column ws

unfoldable pub line : List ℕ → List ℕ
line ws = columns ws ++ (10 ∷ [])

abbrev pub line_length : ℕ → ℕ
line_length c = 11 * c + 1

abbrev pub Begins : List ℕ → List ℕ → Type 0
Begins bs ys = bs ≡ ys ++ drop (length ys) bs

abbrev pub EndsAfter : ℕ → List ℕ → Type 0
EndsAfter c bs = (11 * c < length bs) × (slice_index bs (11 * c) ≡ 10) × ((k : ℕ) → k < 11 * c → slice_index bs k ≢ 10)

abbrev pub ReadsLine : ℕ → List ℕ → Result (List ℕ) LineFault → Type 0
ReadsLine c bs (Ok ws) = (length ws ≡ c) × AllByRecursion Word ws × Begins bs (line ws)
ReadsLine c bs (Err WrongLength) = EndsAfter c bs → ⊥
ReadsLine c bs (Err NotANumber) = EndsAfter c bs × ((ws : List ℕ) → length ws ≡ c → AllByRecursion Word ws → Begins bs (line ws) → ⊥)

unfoldable pub before_newline : List ℕ → ℕ
before_newline bs = prefix_len (λ b. not (b == 10)) bs

unfoldable pub exact : ℕ → List ℕ → Bool
exact c bs = before_newline bs == 11 * c && nat_lt (11 * c) (length bs)

unfoldable pub numbers : ℕ → List ℕ → Bool
numbers zero bs = true
numbers (suc c) bs = is_some (reading (take 11 bs)) && numbers c (drop 11 bs)

unfoldable pub values : ℕ → List ℕ → List ℕ
values zero bs = []
values (suc c) bs = unwrap_or (reading (take 11 bs)) 0 ∷ values c (drop 11 bs)

unfoldable pub reading_line : ℕ → List ℕ → Result (List ℕ) LineFault
reading_line c bs = cond (exact c bs) (cond (numbers c bs) (Ok (values c bs)) (Err NotANumber)) (Err WrongLength)

abbrev pub after_line : List ℕ → ℕ → ℕ → Result ℕ LineFault
after_line bytes at c = results.result_map_both (λ _. at + line_length c) (λ f. f) (reading_line c (drop at bytes))

abbrev pub taken_words : List ℕ → ℕ → List ℕ → List ℕ
taken_words bytes at ws = results.result_unwrap_or (reading_line (length ws) (drop at bytes)) ws

abbrev pub LineTaken : List ℕ → ℕ → List ℕ → List ℕ → Result ℕ LineFault → Type 0
LineTaken bytes at old new (Ok place) = (place ≡ at + line_length (length old)) × ReadsLine (length old) (drop at bytes) (Ok new)
LineTaken bytes at old new (Err f) = ReadsLine (length old) (drop at bytes) (Err f) × (new ≡ old)

abbrev pub fault_number : LineFault → ℕ
fault_number WrongLength = 26
fault_number NotANumber = 27
