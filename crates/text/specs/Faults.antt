-- What is refused where a text is read: number, layer, line and place.
--   number_of f        the number of the refusal
--   layer_of f         the layer that refuses: 3, the text, or that of the job's fault
--   line_of f          the line of the text that the refusal is about, 0 where it is about none
--   place_of f         the place that the refusal names, otherwise 0; a line that does not read is its own place
--   in_line f l        the fault with the line l, where it is one of a job
--   shown f            the fault as it is printed: its number, layer, line and place
-- Used by: every function that reads a text.
use Rattle.std.specs.Prelude.{ℕ, List, ◌++◌, decimal, codes}
use Rattle.column.specs.Line.{fault_number}
use Rattle.polynomials.specs.Faults as job
use Rattle.text.specs.declared.fault.TextFault.{TextFault}
use Rattle.text.specs.declared.fault.TextFault.TheVariants.{Line, NotEmpty, OtherVariables, Job}

abbrev pub number_of : TextFault → ℕ
number_of (Line f l) = fault_number f
number_of NotEmpty = 28
number_of OtherVariables = 29
number_of (Job f l) = job.number_of f

abbrev pub layer_of : TextFault → ℕ
layer_of (Line f l) = 3
layer_of NotEmpty = 3
layer_of OtherVariables = 3
layer_of (Job f l) = job.layer_of f

abbrev pub line_of : TextFault → ℕ
line_of (Line f l) = l
line_of NotEmpty = 0
line_of OtherVariables = 1
line_of (Job f l) = l

abbrev pub place_of : TextFault → ℕ
place_of (Line f l) = l
place_of NotEmpty = 0
place_of OtherVariables = 0
place_of (Job f l) = job.place_of f

abbrev pub in_line : TextFault → ℕ → TextFault
in_line (Line f l) k = Line f l
in_line NotEmpty k = NotEmpty
in_line OtherVariables k = OtherVariables
in_line (Job f l) k = Job f k

abbrev pub shown : TextFault → List ℕ
shown f = decimal (number_of f) ++ codes " of layer " ++ decimal (layer_of f) ++ codes ", line " ++ decimal (line_of f) ++ codes " at " ++ decimal (place_of f)
