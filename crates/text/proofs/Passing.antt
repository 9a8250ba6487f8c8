-- A line that was read, and one that was not: what its questions got, and what stands after it.
use Rattle.std.proofs.Common.{◌≡◌, ℕ, ◌+◌, ◌≤◌, true, List, length, drop, replicate, IfOk, Ok, Err, Result, sym, refl, ap, ◌∙◌, ap₂, subst, inl, inr, arith, length-drop, drop-drop}
use Rattle.std.specs.Result.{result_unwrap_or, result_map_both}
use Rattle.column.specs.Line.{line, line_length, ReadsLine, exact, LineTaken, fault_number}
use Rattle.column.specs.Walk.{byte_after}
use Rattle.column.specs.declared.line.LineFault.{LineFault}
use Rattle.column.specs.declared.line.LineFault.TheVariants.{WrongLength, NotANumber}
use Rattle.column.proofs.Lines.{exact_line}
use Rattle.column.proofs.Newlines.{ends_from_exact}
use Rattle.column.proofs.Exactness.{reading_line_from}
use Rattle.runs.specs.Question.{AllYes, Refused}
use Rattle.runs.specs.Text.{words, line_asks}
use Rattle.column.specs.declared.reader.Reader.{Reader}
use Rattle.column.specs.Walk.{left}
use Rattle.text.specs.declared.fault.TextFault.TheVariants.{Line}
use Rattle.text.specs.Steps.{LinePassed, LineRead}

module _ (c : ℕ) (bs : List ℕ) where
  -- the two questions of a line that reads
  pub line_yes : (l : ℕ) (ws : List ℕ) → ReadsLine c bs (Ok ws) → AllYes (line_asks l c bs)
  line_yes l ws h = (ends_from_exact c bs (subst (λ (k : ℕ). exact k bs ≡ true) h.0 (ap (exact (length ws)) h.2 ∙ exact_line ws (drop (length (line ws)) bs) h.1)), ((ws, h.0, h.1, h.2), tt))

  -- and of one that does not
  pub line_no : (l : ℕ) (f : LineFault) → ReadsLine c bs (Err f) → Refused (line_asks l c bs) (fault_number f) l l
  line_no l WrongLength h = inl (h, refl, refl, refl)
  line_no l NotANumber h = inr (h.0, inl ((λ x. h.1 x.0 x.1 x.2 x.3), refl, refl, refl))

  pub line_words : (ws : List ℕ) → ReadsLine c bs (Ok ws) → ws ≡ words c bs
  unfolding words
  line_words ws h = ap (λ (r : Result (List ℕ) LineFault). result_unwrap_or r (replicate c 0)) (reading_line_from c bs (Ok ws) h)

module _ (old new : List ℕ) (p : Reader) where
  -- from what reading a line promises
  pub line_passed : (q : Reader) → q.text.now ≡ p.text.now → q.place.line ≡ p.place.line + 1 → LineTaken p.text.now p.place.at old new (Ok q.place.at) → LineRead (length old) p new (Ok q)
  line_passed q same after h = (
    record {
      asked = line_yes (length old) (left p) p.place.line new h.1;
      rest = ap₂ drop h.0 same ∙ sym (drop-drop (line_length (length old)) p.place.at p.text.now);
      line = omega (arith, after);
      same_text = same;
    },
    line_words (length old) (left p) new h.1,
  )

  -- whichever it promises
  pub line_answered : (r : Result Reader LineFault) → IfOk r (λ q. q.text.now ≡ p.text.now) → LineTaken p.text.now p.place.at old new (byte_after r) → IfOk r (λ q. q.place.line ≡ p.place.line + 1) → LineRead (length old) p new (result_map_both (λ q. q) (λ f. Line f p.place.line) r)
  line_answered (Ok q) same h after = line_passed q same after h
  line_answered (Err f) same h after = line_no (length old) (left p) p.place.line f h.0

-- a reader of the same text that has no more bytes left is at no earlier byte
pub further : (p q : Reader) → q.text.now ≡ p.text.now → length (left q) ≤ length (left p) → p.place.at ≤ q.place.at
further p q same h = omega (arith, h, ap length same, length-drop p.place.at p.text.now, length-drop q.place.at q.text.now, p.inside, q.inside)

-- so is one that passed a line
pub line_further : (c : ℕ) (p q : Reader) → LinePassed c p q → p.place.at ≤ q.place.at
line_further c p q l = further p q l.same_text (omega (arith, ap length l.rest, length-drop (line_length c) (left p)))
