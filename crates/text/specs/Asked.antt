-- What a function that reads a text answers.
--   Faulted qs f      the fault f is the first of the questions qs that gets a no, by number, line and place
--   Asked qs r        r is the answer to the questions qs: accepted if all get a yes, else the first that gets a no
--   header_of bs      the four numbers of the first line of bs: field code, order code, number of variables and count of polynomials; or why it does not read
-- Used by: header, and the functions that read lines.
use Rattle.std.specs.Prelude.{ℕ, List, Ok, Err, Result, slice_index}
use Rattle.std.specs.Result.{result_map_both}
use Rattle.column.specs.Line.{reading_line}
use Rattle.runs.specs.Question.{Question, AllYes, Refused}
use Rattle.text.specs.declared.fault.TextFault.{TextFault}
use Rattle.text.specs.declared.fault.TextFault.TheVariants.{Line}
use Rattle.text.specs.Faults.{number_of, line_of, place_of}

abbrev pub Faulted : List Question → TextFault → Type 0
Faulted qs f = Refused qs (number_of f) (line_of f) (place_of f)

abbrev pub Asked : {A : Type 0} → List Question → Result A TextFault → Type 0
Asked qs (Ok a) = AllYes qs
Asked qs (Err f) = Faulted qs f

abbrev pub header_of : List ℕ → Result (ℕ × ℕ × ℕ × ℕ) TextFault
header_of bs = result_map_both (λ ws. (slice_index ws 0, slice_index ws 1, slice_index ws 2, slice_index ws 3)) (λ f. Line f 1) (reading_line 4 bs)
