-- What a job refuses, and by which number.
--   number_of f     the number of the refusal
--   layer_of f      the layer that refuses: 2, the job
--   place_of f      the place that the refusal names, or 0
--   text_of f       the text that the refusal prints: its number and its place
-- Used by: every call of a job.
use Rattle.std.specs.Prelude.{ℕ, List, ◌++◌, codes}
use Rattle.std.specs.Fmt.{decimal}
use Rattle.polynomials.specs.declared.fault.JobFault.{JobFault}
use Rattle.polynomials.specs.declared.fault.JobFault.TheVariants.{Variables, NotOpen, ManyPolynomials, NoTerm, ManyTerms, Coefficient, Exponent, NotFalling, NotMonic, LedByOne, NoPower, Divided, ManyStairs, Outside, Disagree, NotClosed, NoVariable, VectorLength, VectorWord, ShortOutput, NoShape, DependentRows}

abbrev pub number_of : JobFault → ℕ
number_of Variables = 4
number_of NotOpen = 5
number_of ManyPolynomials = 6
number_of NoTerm = 7
number_of ManyTerms = 8
number_of (Coefficient p) = 9
number_of (Exponent p) = 10
number_of (NotFalling p) = 11
number_of NotMonic = 12
number_of (LedByOne p) = 13
number_of (NoPower p) = 14
number_of (Divided p) = 15
number_of ManyStairs = 16
number_of (Outside p) = 17
number_of Disagree = 18
number_of NotClosed = 19
number_of NoVariable = 20
number_of VectorLength = 21
number_of (VectorWord p) = 22
number_of ShortOutput = 23
number_of (NoShape p) = 24
number_of (DependentRows p) = 25

abbrev pub layer_of : JobFault → ℕ
layer_of f = 2

abbrev pub place_of : JobFault → ℕ
place_of Variables = 0
place_of NotOpen = 0
place_of ManyPolynomials = 0
place_of NoTerm = 0
place_of ManyTerms = 0
place_of (Coefficient p) = p
place_of (Exponent p) = p
place_of (NotFalling p) = p
place_of NotMonic = 0
place_of (LedByOne p) = p
place_of (NoPower p) = p
place_of (Divided p) = p
place_of ManyStairs = 0
place_of (Outside p) = p
place_of Disagree = 0
place_of NotClosed = 0
place_of NoVariable = 0
place_of VectorLength = 0
place_of (VectorWord p) = p
place_of ShortOutput = 0
place_of (NoShape p) = p
place_of (DependentRows p) = p

abbrev pub text_of : JobFault → List ℕ
text_of f = decimal (number_of f) ++ codes " at " ++ decimal (place_of f)
