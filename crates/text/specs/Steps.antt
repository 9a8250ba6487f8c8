-- What reading from a line on keeps. LineRead is what read_line promises; the rest is inner, for the functions that read many lines.
--   LinePassed           the questions of the line of c columns that the reader p is at got a yes, and the reader q is at the next line of the same text
--   LinesPassed          the same of k lines
--   LineRead             the answer of reading a line into words: the reader at the next, or the question that got a no
--   CountRead            the same of the line with a polynomial's number of terms
--   TermsRead            the same of k term lines, the terms standing at the front of out, clamped
--   LinesWalked          i of k lines are read: what is asked and what follows is as from the start, and the reader is at no earlier byte
--   TermsWalked          they are lines of terms, and what is read is as from the start too
use Rattle.std.specs.Prelude.{◌≡◌, ℕ, suc, ◌+◌, ◌-◌, ◌≤◌, List, ◌++◌, take, Ok, Err, Result}
use Rattle.staircase.specs.declared.rules.Term.{Term}
use Rattle.polynomials.specs.Held.{terms_of}
use Rattle.runs.specs.Question.{AllYes, Refused}
use Rattle.runs.specs.Text.{words, next, terms, past_terms, term_count, line_asks, lines_asks}
use Rattle.text.specs.declared.fault.TextFault.{TextFault}
use Rattle.column.specs.declared.reader.Reader.{Reader}
use Rattle.column.specs.Walk.{left}
use Rattle.text.specs.Asked.{Faulted}
use Rattle.text.specs.Clamped.{clamped_terms}

pub record LinePassed (c : ℕ) (p q : Reader) : Type 0 where
  pub asked : AllYes (line_asks p.place.line c (left p))
  pub rest : left q ≡ next c (left p)
  pub line : q.place.line ≡ suc p.place.line
  pub same_text : q.text.now ≡ p.text.now

pub record LinesPassed (c k : ℕ) (p q : Reader) : Type 0 where
  pub asked : AllYes (lines_asks p.place.line c k (left p))
  pub rest : left q ≡ past_terms c k (left p)
  pub line : q.place.line ≡ p.place.line + k
  pub same_text : q.text.now ≡ p.text.now

abbrev pub LineRead : ℕ → Reader → List ℕ → Result Reader TextFault → Type 0
LineRead c p ws (Ok q) = LinePassed c p q × (ws ≡ words c (left p))
LineRead c p ws (Err f) = Faulted (line_asks p.place.line c (left p)) f

abbrev pub CountRead : Reader → Result (ℕ × Reader) TextFault → Type 0
CountRead p (Ok a) = (a.0 ≡ term_count (left p)) × LinePassed 1 p a.1
CountRead p (Err f) = Faulted (line_asks p.place.line 1 (left p)) f

abbrev pub TermsRead : ℕ → ℕ → Reader → List Term → Result Reader TextFault → Type 0
TermsRead c k p out (Ok q) = LinesPassed c k p q × (terms_of (take k out) ≡ clamped_terms (terms c k (left p)))
TermsRead c k p out (Err f) = Faulted (lines_asks p.place.line c k (left p)) f

pub record LinesWalked (c k i : ℕ) (p q : Reader) : Type 0 where
  pub refuses : (number line place : ℕ) → Refused (lines_asks q.place.line c (k - i) (left q)) number line place → Refused (lines_asks p.place.line c k (left p)) number line place
  pub accepts : AllYes (lines_asks q.place.line c (k - i) (left q)) → AllYes (lines_asks p.place.line c k (left p))
  pub rest : past_terms c (k - i) (left q) ≡ past_terms c k (left p)
  pub line : q.place.line ≡ p.place.line + i
  pub further : p.place.at ≤ q.place.at
  pub same_text : q.text.now ≡ p.text.now

pub record TermsWalked (c k i : ℕ) (p q : Reader) (out : List Term) : Type 0 where
  pub lines : LinesWalked c k i p q
  pub taken : terms_of (take i out) ++ clamped_terms (terms c (k - i) (left q)) ≡ clamped_terms (terms c k (left p))
