-- The laws of columns and lines, each named by a function of laws.rt.
--   Numeral ds w               ds are decimal digits without leading zeros that write w, and 0 is the digit 0
--   Justified bs w             bs are eleven bytes: blanks, then a numeral of w
--   RightJustified            a column is eleven bytes: blanks, then the numeral of its number
--   ColumnReadingExact       reading answers the number whose column the bytes are, None where there is none, and nothing else is such an answer
--   ColumnReadsBack          reading the column of a number gives the number
--   ReadIsColumn             bytes that read as a number are its column
--   ColumnsDiffer             two numbers have two columns
--   LineOfLength             the line of c words has 11 * c + 1 bytes
--   LineReadingExact         reading a line gives its words or the first question that gets a no, and nothing else is such an answer
--   LineReadsBack            a line at a place reads as its words, whatever comes after it
--   ReadIsLine               bytes that read as words from a place on are their line there
--   OneLine                   bytes begin with at most one line
--   WrittenColumnReads       a column that was written reads back
--   WrittenLineReads         a line that was written reads back
use Rattle.std.specs.Prelude.{◌≡◌, ℕ, ◌+◌, ◌<◌, ◌≤◌, true, List, ◌++◌, length, take, drop, replicate, Some, Ok, Option, Result, slice_index}
use Rattle.std.specs.List.{AllByRecursion}
use Rattle.column.specs.Column.{Word, column, Reads, shown, reading}
use Rattle.column.specs.Line.{line, line_length, Begins, ReadsLine, reading_line}
use Rattle.column.specs.Place.{room, placed}
use Rattle.column.specs.declared.line.LineFault.{LineFault}

abbrev pub Numeral : List ℕ → ℕ → Type 0
Numeral ds w = (0 < length ds) × AllByRecursion (λ d. (48 ≤ d) × (d ≤ 57)) ds × (slice_index ds 0 ≡ 48 → length ds ≡ 1) × (shown ds ≡ w)

abbrev pub Justified : List ℕ → ℕ → Type 0
Justified bs w = (length bs ≡ 11) × ((k : ℕ) × ((ds : List ℕ) × ((bs ≡ replicate k 32 ++ ds) × Numeral ds w)))

abbrev pub RightJustified : Type 0
RightJustified = (bs : List ℕ) (w : ℕ) → Word w → (bs ≡ column w → Justified bs w) × (Justified bs w → bs ≡ column w)

abbrev pub ColumnReadingExact : Type 0
ColumnReadingExact = (bs : List ℕ) (o : Option ℕ) → Reads bs (reading bs) × (Reads bs o → o ≡ reading bs)

abbrev pub ColumnReadsBack : Type 0
ColumnReadsBack = (w : ℕ) → Word w → reading (column w) ≡ Some w

abbrev pub ReadIsColumn : Type 0
ReadIsColumn = (bs : List ℕ) (w : ℕ) → reading bs ≡ Some w → (bs ≡ column w) × Word w

abbrev pub ColumnsDiffer : Type 0
ColumnsDiffer = (v w : ℕ) → Word v → Word w → column v ≡ column w → v ≡ w

abbrev pub LineOfLength : Type 0
LineOfLength = (ws : List ℕ) → AllByRecursion Word ws → length (line ws) ≡ line_length (length ws)

abbrev pub LineReadingExact : Type 0
LineReadingExact = (c : ℕ) (bs : List ℕ) (r : Result (List ℕ) LineFault) → ReadsLine c bs (reading_line c bs) × (ReadsLine c bs r → r ≡ reading_line c bs)

abbrev pub LineReadsBack : Type 0
LineReadsBack = (bytes rest ws : List ℕ) (at : ℕ) → AllByRecursion Word ws → drop at bytes ≡ line ws ++ rest → reading_line (length ws) (drop at bytes) ≡ Ok ws

abbrev pub ReadIsLine : Type 0
ReadIsLine = (bytes ws : List ℕ) (at c : ℕ) → reading_line c (drop at bytes) ≡ Ok ws
    → (length ws ≡ c) × AllByRecursion Word ws × (drop at bytes ≡ line ws ++ drop (at + line_length c) bytes)

abbrev pub OneLine : Type 0
OneLine = (bs vs ws : List ℕ) → AllByRecursion Word vs → AllByRecursion Word ws → Begins bs (line vs) → Begins bs (line ws) → vs ≡ ws

abbrev pub WrittenColumnReads : Type 0
WrittenColumnReads = (out : List ℕ) (at w : ℕ) → Word w → room out at (column w) ≡ true → reading (take 11 (drop at (placed out at (column w)))) ≡ Some w

abbrev pub WrittenLineReads : Type 0
WrittenLineReads = (out ws : List ℕ) (at : ℕ) → AllByRecursion Word ws → room out at (line ws) ≡ true → reading_line (length ws) (drop at (placed out at (line ws))) ≡ Ok ws
