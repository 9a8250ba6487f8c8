-- Passing over lines of a text: what reading one tells, and one turn of a walk over many.
use Rattle.std.proofs.Common.{◌≡◌, ℕ, suc, ◌+◌, ◌-◌, ◌<◌, ◌≤◌, List, length, drop, replicate, Some, Ok, Err, Result, sym, refl, ap, ◌∙◌, ap₂, arith, drop-drop}
use Rattle.std.specs.Result as results
use Rattle.column.specs.Walk.{left, byte_after}
use Rattle.column.specs.declared.line.LineFault.{LineFault}
use Rattle.column.specs.Line.{line_length, reading_line, after_line, taken_words}
use Rattle.evaluation.specs.Basis.{words, next, after_lines}
use Rattle.evaluation.specs.Answer.{unread, asks_line, asks_lines, then}
use Rattle.evaluation.specs.Steps.{LinePassed, LinesPassed, Walked}
use Rattle.evaluation.specs.declared.fault.ProbeFault.{ProbeFault}
use Rattle.column.specs.declared.reader.Reader.{Reader}

-- ---- a line that reads

module _ (old new : List ℕ) (p : Reader) where
  by_reading : (r : Result (List ℕ) LineFault) → reading_line (length old) (left p) ≡ r → (q : Reader) → q.text.now ≡ p.text.now
      → Ok q.place.at ≡ results.result_map_both (λ _. p.place.at + line_length (length old)) (λ f. f) r → new ≡ results.result_unwrap_or r old
      → q.place.line ≡ p.place.line + 1 → LinePassed (length old) p q new
  unfolding words next
  by_reading (Ok ws) e q same h k el =
      let sum : q.place.at ≡ p.place.at + line_length (length old) = cc in
      record {
        asked = ap (λ (r : Result (List ℕ) LineFault). unread r p.place.line) e;
        rest = ap₂ drop sum same ∙ sym (drop-drop (line_length (length old)) p.place.at p.text.now);
        line = el;
        further = sym sum;
        taken = k ∙ sym (ap (λ (r : Result (List ℕ) LineFault). results.result_unwrap_or r (replicate (length old) 0)) e);
      }
  by_reading (Err f) e q same h k el = absurd (let z : ◌≡◌ {A = ℕ} 0 1 = cc in omega arith)

  -- from what reading a line promises
  pub line_passed : (r : Result Reader LineFault) (q : Reader) → r ≡ Ok q → q.text.now ≡ p.text.now → byte_after r ≡ after_line p.text.now p.place.at (length old) → new ≡ taken_words p.text.now p.place.at old
      → q.place.line ≡ p.place.line + 1 → LinePassed (length old) p q new
  line_passed r q e same h k el = by_reading (reading_line (length old) (left p)) refl q same (sym (ap byte_after e) ∙ h) k el

-- ---- a walk over k lines

one_less : (k i : ℕ) → i < k → k - i ≡ suc (k - (i + 1))
one_less k i h = omega arith

module _ (c k : ℕ) (p : Reader) where
  asked_next : (i : ℕ) (q : Reader) → i < k → asks_lines c (k - i) (left q) q.place.line ≡ then (asks_line c (left q) q.place.line) (asks_lines c (k - (i + 1)) (next c (left q)) (q.place.line + 1))
  unfolding asks_lines
  asked_next i q h = ap (λ (j : ℕ). asks_lines c j (left q) q.place.line) (one_less k i h)

  rest_next : (i : ℕ) (q : Reader) → i < k → after_lines c (k - i) (left q) ≡ after_lines c (k - (i + 1)) (next c (left q))
  unfolding after_lines
  rest_next i q h = ap (λ (j : ℕ). after_lines c j (left q)) (one_less k i h)

  pub walked_more : (i : ℕ) (q s : Reader) (ws : List ℕ) → i < k → Walked c k i p q → LinePassed c q s ws → Walked c k (i + 1) p s
  walked_more i q s ws h w l =
      record {
        asked = ap₂ (asks_lines c (k - (i + 1))) l.rest l.line ∙ sym (ap (λ x. then x (asks_lines c (k - (i + 1)) (next c (left q)) (q.place.line + 1))) l.asked) ∙ sym (asked_next i q h) ∙ w.asked;
        rest = ap (after_lines c (k - (i + 1))) l.rest ∙ sym (rest_next i q h) ∙ w.rest;
        line = omega (arith, l.line, w.line);
        further = omega (arith, w.further, l.further);
      }

  pub walked_all : (i : ℕ) (q : Reader) → k ≤ i → i ≤ k → Walked c k i p q → LinesPassed c k p q
  unfolding asks_lines after_lines
  walked_all i q h g w =
      let e : k - i ≡ 0 = omega arith in
      record {
        asked = sym w.asked ∙ ap (λ (j : ℕ). asks_lines c j (left q) q.place.line) e;
        rest = sym (ap (λ (j : ℕ). after_lines c j (left q)) e) ∙ w.rest;
        line = omega (arith, w.line);
        further = w.further;
      }

  pub walk_broken : (i : ℕ) (q : Reader) (e : ProbeFault) → i < k → Walked c k i p q → asks_line c (left q) q.place.line ≡ Some e → asks_lines c k (left p) p.place.line ≡ Some e
  walk_broken i q e h w b = sym w.asked ∙ asked_next i q h ∙ ap (λ x. then x (asks_lines c (k - (i + 1)) (next c (left q)) (q.place.line + 1))) b
