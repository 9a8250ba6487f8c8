-- A request: a walk over lines of one word each, in which the words so far are those of the lines so far, and all its questions.
use Rattle.std.proofs.Common.{◌≡◌, ℕ, suc, ◌+◌, ◌-◌, ◌<◌, ◌≤◌, List, [], ◌∷◌, ◌++◌, length, take, set, get_or, inl, sym, refl, ap, ◌∙◌, subst, ap₂, arith, length-drop}
use Rattle.std.proofs.lemmas.List.{append_assoc, append-nil, take_more_set, take_all}
use Rattle.polynomials.proofs.Answering.{refused_first, refused_after}
use Rattle.runs.specs.Question.{Question, single, AllYes, Refused}
use Rattle.runs.specs.Text.{words, next, past_terms, lines_asks}
use Rattle.runs.proofs.Questions.{yes_append}
use Rattle.std.proofs.lemmas.List.{nil_from_length}
use Rattle.column.specs.declared.reader.Reader.{Reader}
use Rattle.column.specs.Walk.{left}
use Rattle.text.specs.Steps.{LinePassed, LinesPassed, LinesWalked}
use Rattle.text.proofs.Walking.{lines_walked_none, lines_walked_more, lines_walked_all}
use Rattle.shaping.specs.Questions.{count, column, vector, request_asks}
use Rattle.shaping.specs.Steps.{first_asks}

pub record WordsWalked (k i : ℕ) (p q : Reader) (out : List ℕ) : Type 0 where
  pub lines : LinesWalked 1 k i p q
  pub taken : take i out ++ column (k - i) (left q) ≡ column k (left p)

module _ (k : ℕ) (p : Reader) where
  pub words_walked_none : (out : List ℕ) → WordsWalked k 0 p p out
  words_walked_none out = record { lines = lines_walked_none 1 k p; taken = ap (λ (j : ℕ). column j (left p)) (let e : k - 0 ≡ k = omega arith in e) }

  pub words_walked_more : (i : ℕ) (q s : Reader) (out : List ℕ) → i < k → WordsWalked k i p q out → LinePassed 1 q s → (ws : List ℕ) (w : ℕ) → i < length out → ws ≡ words 1 (left q) → w ≡ get_or ws 0 0 → WordsWalked k (i + 1) p s (set out i w)
  words_walked_more i q s out h w l ws x r is e =
      let less : k - i ≡ suc (k - (i + 1)) = omega arith in
      record {
        lines = lines_walked_more 1 k p i q h w.lines s l;
        taken = ap (λ (ys : List ℕ). ys ++ column (k - (i + 1)) (left s)) (take_more_set out i x r)
            ∙ append_assoc (take i out) (x ∷ []) (column (k - (i + 1)) (left s))
            ∙ ap₂ (λ (y : ℕ) (bs : List ℕ). take i out ++ (y ∷ column (k - (i + 1)) bs)) (e ∙ ap (λ (vs : List ℕ). get_or vs 0 0) is) l.rest
            ∙ sym (ap (λ (j : ℕ). take i out ++ column j (left q)) less)
            ∙ w.taken;
      }

  pub words_walked_all : (i : ℕ) (q : Reader) (out : List ℕ) → i ≡ k → length out ≡ k → WordsWalked k i p q out → LinesPassed 1 k p q × (out ≡ column k (left p))
  words_walked_all i q out whole long w =
      let e : k - i ≡ 0 = omega arith in
      (lines_walked_all 1 k p i q whole w.lines, sym (ap (λ (j : ℕ). take i out ++ column j (left q)) e ∙ append-nil (take i out) ∙ take_all i out (omega arith)) ∙ w.taken)

-- ---- a whole request: p is at its first line, q at its words

module _ (n d : ℕ) (p q : Reader) (yes : AllYes (first_asks p.place.line n d (left p))) (first : LinePassed 2 p q) where
  abbrev lines : List Question
  lines = lines_asks (suc p.place.line) 1 (count (left p)) (next 2 (left p))

  abbrev over : List Question
  over = single 30 0 (past_terms 1 (count (left p)) (next 2 (left p)) ≡ []) ∷ []

  many : count (left p) ≡ d
  many = yes.1.1.1.0

  lines_are : lines_asks q.place.line 1 d (left q) ≡ lines
  lines_are = ap (λ (l : ℕ). lines_asks l 1 d (left q)) first.line ∙ ap₂ (lines_asks (suc p.place.line) 1) (sym many) first.rest

  pub words_refused : (number line place : ℕ) → Refused (lines_asks q.place.line 1 d (left q)) number line place → Refused (request_asks p.place.line n d (left p)) number line place
  words_refused number line place r =
      refused_after (first_asks p.place.line n d (left p)) (lines ++ over) number line place yes (refused_first lines over number line place (subst (λ (qs : List Question). Refused qs number line place) lines_are r))

  pub vector_is : (ws : List ℕ) → ws ≡ column d (left q) → ws ≡ vector (left p)
  vector_is ws e = e ∙ ap₂ column (sym many) first.rest

  -- r is after the words
  module _ (r : Reader) (l : LinesPassed 1 d q r) where
    rest_is : left r ≡ past_terms 1 (count (left p)) (next 2 (left p))
    rest_is = l.rest ∙ ap₂ (past_terms 1) (sym many) first.rest

    lines_yes : AllYes lines
    lines_yes = subst AllYes lines_are l.asked

    pub more_follows : r.place.at < length r.text.now → Refused (request_asks p.place.line n d (left p)) 30 0 0
    more_follows h =
        let no : (past_terms 1 (count (left p)) (next 2 (left p)) ≡ []) → ⊥ = λ e. omega (arith, h, length-drop r.place.at r.text.now, ap length (rest_is ∙ e)) in
        refused_after (first_asks p.place.line n d (left p)) (lines ++ over) 30 0 0 yes (refused_after lines over 30 0 0 lines_yes (inl (no, refl, refl, refl)))

    pub request_passed : length r.text.now ≤ r.place.at → AllYes (request_asks p.place.line n d (left p))
    request_passed h =
        let empty = nil_from_length (left r) (omega (arith, h, length-drop r.place.at r.text.now)) in
        yes_append (first_asks p.place.line n d (left p)) (lines ++ over) yes (yes_append lines over lines_yes (sym rest_is ∙ empty, tt))
