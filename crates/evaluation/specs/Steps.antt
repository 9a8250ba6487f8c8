-- What one walk over lines keeps. Inner: the private functions of the crate cite it, and no public contract.
--   LinePassed      the line of c columns that the reader p is at reads as the words ws, and the reader q is at the next
--   LinesPassed     the same of k lines, without their words
--   refusal_of      the fault of an answer, if it is one
--   PolynomialPassed, PolynomialsPassed   the questions of one polynomial, of k polynomials, got a yes, and the next reader follows them
--   Wrote           the answer of a call with the bytes that it wrote
--   WalkedPolynomials   i of k polynomials are passed, likewise
--   Walked          i of k lines are passed, and what is asked and what follows is as from the start
use Rattle.std.specs.Prelude.{◌≡◌, ℕ, ◌+◌, ◌-◌, ◌*◌, ◌≤◌, List, length, Some, None, Ok, Err, Result}
use Rattle.evaluation.specs.Basis.{words, next, after_lines, term_count, after, after_all, lines_all}
use Rattle.column.specs.Line.{line_length}
use Rattle.column.specs.Place.{put}
use Rattle.column.specs.Walk.{left}
use Rattle.column.specs.declared.reader.Reader.{Reader}
use Rattle.field.specs.Meaning.{FieldMeaning}
use Rattle.evaluation.specs.Answer.{Refusal, asks_line, asks_lines, asks_polynomial, asks_polynomials, value_lines}
use Rattle.evaluation.specs.declared.fault.ProbeFault.{ProbeFault}

pub record LinePassed (c : ℕ) (p q : Reader) (ws : List ℕ) : Type 0 where
  pub asked : asks_line c (left p) p.place.line ≡ None
  pub rest : left q ≡ next c (left p)
  pub line : q.place.line ≡ p.place.line + 1
  pub further : p.place.at + line_length c ≡ q.place.at
  pub taken : ws ≡ words c (left p)

pub record LinesPassed (c k : ℕ) (p q : Reader) : Type 0 where
  pub asked : asks_lines c k (left p) p.place.line ≡ None
  pub rest : left q ≡ after_lines c k (left p)
  pub line : q.place.line ≡ p.place.line + k
  pub further : p.place.at ≤ q.place.at

-- i of k lines are passed: what is asked and what follows is as from the start
pub record Walked (c k i : ℕ) (p q : Reader) : Type 0 where
  pub asked : asks_lines c (k - i) (left q) q.place.line ≡ asks_lines c k (left p) p.place.line
  pub rest : after_lines c (k - i) (left q) ≡ after_lines c k (left p)
  pub line : q.place.line ≡ p.place.line + i
  pub further : p.place.at ≤ q.place.at

-- the fault of an answer, if it is one
abbrev pub refusal_of : {A : Type 0} → Result A ProbeFault → Refusal
refusal_of (Ok v) = None
refusal_of (Err e) = Some e

pub record PolynomialPassed (m : FieldMeaning) (n : ℕ) (p q : Reader) : Type 0 where
  pub asked : asks_polynomial m n (left p) p.place.line ≡ None
  pub rest : left q ≡ after n (left p)
  pub line : q.place.line ≡ p.place.line + (1 + term_count (left p))
  pub further : p.place.at + 12 ≤ q.place.at

pub record PolynomialsPassed (m : FieldMeaning) (n k : ℕ) (p q : Reader) : Type 0 where
  pub asked : asks_polynomials m n k (left p) p.place.line ≡ None
  pub rest : left q ≡ after_all n k (left p)
  pub line : q.place.line ≡ p.place.line + lines_all n k (left p)
  pub further : 12 * k ≤ q.place.at

-- i of k polynomials are passed: what is asked, what follows and how many lines there are is as from the start
pub record WalkedPolynomials (m : FieldMeaning) (n k i : ℕ) (p q : Reader) : Type 0 where
  pub asked : asks_polynomials m n (k - i) (left q) q.place.line ≡ asks_polynomials m n k (left p) p.place.line
  pub rest : after_all n (k - i) (left q) ≡ after_all n k (left p)
  pub line : q.place.line + lines_all n (k - i) (left q) ≡ p.place.line + lines_all n k (left p)
  pub further : 12 * i ≤ q.place.at

-- an answer with the bytes that it wrote, and what is asked for: the values' lines are written at the front, and a refusal writes nothing
abbrev pub Wrote : Result ℕ ProbeFault → Result (List ℕ) ProbeFault → List ℕ → List ℕ → Type 0
Wrote (Ok end) o old new = (vs : List ℕ) × (o ≡ Ok vs) × (new ≡ put old 0 (value_lines vs)) × (end ≡ length (value_lines vs)) × (end ≤ length old)
Wrote (Err e) o old new = (o ≡ Err e) × (new ≡ old)
