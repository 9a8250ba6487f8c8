-- What a function that puts questions answers.
--   Asked line qs r     r is the answer to the questions qs, each of this line: none if all get a yes, else the first that gets a no, by number and place
-- Used by: the functions that put the questions of Enter and Close.
use Rattle.std.specs.Prelude.{ℕ, List, Ok, Err, Result}
use Rattle.runs.specs.Question.{Question, AllYes, Refused}
use Rattle.polynomials.specs.declared.fault.JobFault.{JobFault}
use Rattle.polynomials.specs.Faults.{number_of, place_of}

abbrev pub Asked : {A : Type 0} → ℕ → List Question → Result A JobFault → Type 0
Asked line qs (Ok a) = AllYes qs
Asked line qs (Err f) = Refused qs (number_of f) line (place_of f)
