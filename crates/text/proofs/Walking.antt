-- A walk over k lines, one turn at a time: what is asked, what follows and, where they are of terms, what is read is as from the start.
use Rattle.std.proofs.Common.{◌≡◌, ℕ, zero, suc, ◌+◌, ◌-◌, ◌<◌, ◌≤◌, List, [], ◌∷◌, ◌++◌, length, take, set, Result, sym, refl, ap, ◌∙◌, subst, ap₂, arith}
use Rattle.std.proofs.lemmas.List.{append_assoc, append-nil, length-drop, length-take-le, map-append, take_more_set}
use Rattle.staircase.specs.declared.rules.Term.{Term}
use Rattle.polynomials.specs.Held.{terms_of}
use Rattle.polynomials.proofs.Answering.{refused_first, refused_after}
use Rattle.runs.specs.Job as job
use Rattle.runs.specs.Question.{AllYes, Refused}
use Rattle.runs.specs.Text.{words, next, term, terms, past_terms, line_asks, lines_asks}
use Rattle.runs.proofs.Questions.{yes_append}
use Rattle.column.specs.Line.{line_length}
use Rattle.column.specs.declared.reader.Reader.{Reader}
use Rattle.column.specs.Walk.{left}
use Rattle.text.specs.Clamped.{clamped, clamped_terms}
use Rattle.text.specs.declared.fault.TextFault.{TextFault}
use Rattle.text.specs.Steps.{LinePassed, LinesPassed, TermsRead, LinesWalked, TermsWalked}
use Rattle.text.proofs.Passing.{further, line_further}

pub one_less : (k i : ℕ) → i < k → k - i ≡ suc (k - (i + 1))
one_less k i h = omega arith

-- what follows k lines is no longer than all of it
lines_leave : (c k : ℕ) (bs : List ℕ) → length (past_terms c k bs) ≤ length bs
lines_leave c zero bs = omega arith
lines_leave c (suc k) bs = omega (arith, lines_leave c k (next c bs), length-drop (line_length c) bs)

-- a reader that passed k lines is at no earlier byte
pub lines_further : (c k : ℕ) (p q : Reader) → LinesPassed c k p q → p.place.at ≤ q.place.at
lines_further c k p q l = further p q l.same_text (omega (arith, ap length l.rest, lines_leave c k (left p)))

module _ (c k : ℕ) (p : Reader) where
  pub lines_walked_none : LinesWalked c k 0 p p
  lines_walked_none =
      let e : k - 0 ≡ k = omega arith in
      record {
        refuses = λ number line place r. subst (λ (j : ℕ). Refused (lines_asks p.place.line c j (left p)) number line place) e r;
        accepts = λ y. subst (λ (j : ℕ). AllYes (lines_asks p.place.line c j (left p))) e y;
        rest = ap (λ (j : ℕ). past_terms c j (left p)) e;
        line = omega arith;
        further = omega arith;
        same_text = refl;
      }

  module _ (i : ℕ) (q : Reader) (h : i < k) (w : LinesWalked c k i p q) where
    -- the line at q got its yes
    module _ (s : Reader) (l : LinePassed c q s) where
      refused-there : (number line place : ℕ) → Refused (lines_asks s.place.line c (k - (i + 1)) (left s)) number line place → Refused (lines_asks q.place.line c (k - i) (left q)) number line place
      refused-there number line place r =
          let a = subst (λ (x : ℕ). Refused (lines_asks x c (k - (i + 1)) (left s)) number line place) l.line r in
          let b = subst (λ (x : List ℕ). Refused (lines_asks (suc q.place.line) c (k - (i + 1)) x) number line place) l.rest a in
          subst (λ (j : ℕ). Refused (lines_asks q.place.line c j (left q)) number line place) (sym (one_less k i h))
          (refused_after (line_asks q.place.line c (left q)) (lines_asks (suc q.place.line) c (k - (i + 1)) (next c (left q))) number line place l.asked b)

      yes-there : AllYes (lines_asks s.place.line c (k - (i + 1)) (left s)) → AllYes (lines_asks q.place.line c (k - i) (left q))
      yes-there y =
          let a = subst (λ (x : ℕ). AllYes (lines_asks x c (k - (i + 1)) (left s))) l.line y in
          let b = subst (λ (x : List ℕ). AllYes (lines_asks (suc q.place.line) c (k - (i + 1)) x)) l.rest a in
          subst (λ (j : ℕ). AllYes (lines_asks q.place.line c j (left q))) (sym (one_less k i h))
          (yes_append (line_asks q.place.line c (left q)) (lines_asks (suc q.place.line) c (k - (i + 1)) (next c (left q))) l.asked b)

      rest-there : past_terms c (k - (i + 1)) (left s) ≡ past_terms c (k - i) (left q)
      rest-there = ap (past_terms c (k - (i + 1))) l.rest ∙ sym (ap (λ (j : ℕ). past_terms c j (left q)) (one_less k i h))

      pub lines_walked_more : LinesWalked c k (i + 1) p s
      lines_walked_more = record {
        refuses = λ number line place x. w.refuses number line place (refused-there number line place x);
        accepts = λ y. w.accepts (yes-there y);
        rest = rest-there ∙ w.rest;
        line = omega (arith, l.line, w.line);
        further = omega (arith, line_further c q s l, w.further);
        same_text = l.same_text ∙ w.same_text;
      }

    -- it got a no
    pub walk_broken : (number line place : ℕ) → Refused (line_asks q.place.line c (left q)) number line place → Refused (lines_asks p.place.line c k (left p)) number line place
    walk_broken number line place r =
        w.refuses number line place
        (subst (λ (j : ℕ). Refused (lines_asks q.place.line c j (left q)) number line place) (sym (one_less k i h))
        (refused_first (line_asks q.place.line c (left q)) (lines_asks (suc q.place.line) c (k - (i + 1)) (next c (left q))) number line place r))

  -- all of them are read
  pub lines_walked_all : (i : ℕ) (q : Reader) → i ≡ k → LinesWalked c k i p q → LinesPassed c k p q
  lines_walked_all i q whole w =
      let e : k - i ≡ 0 = omega arith in
      record {
        asked = w.accepts (subst (λ (j : ℕ). AllYes (lines_asks q.place.line c j (left q))) (sym e) tt);
        rest = sym (ap (λ (j : ℕ). past_terms c j (left q)) e) ∙ w.rest;
        line = omega (arith, w.line);
        same_text = w.same_text;
      }

  -- ---- lines of terms

  pub terms_walked_none : (out : List Term) → TermsWalked c k 0 p p out
  terms_walked_none out = let e : k - 0 ≡ k = omega arith in record { lines = lines_walked_none; taken = ap (λ (j : ℕ). clamped_terms (terms c j (left p))) e }

  module _ (i : ℕ) (q s : Reader) (out : List Term) (h : i < k) (w : TermsWalked c k i p q out) (l : LinePassed c q s) (ws : List ℕ) (t : Term) (r : i < length out) (is : ws ≡ words c (left q)) (e : (t.coefficient, t.monomial) ≡ clamped (term ws)) where
    taken-there : terms_of (take (i + 1) (set out i t)) ++ clamped_terms (terms c (k - (i + 1)) (left s)) ≡ terms_of (take i out) ++ clamped_terms (terms c (k - i) (left q))
    taken-there =
        let to-come : List job.Term = clamped_terms (terms c (k - (i + 1)) (left s)) in
        ap (λ (ts : List Term). terms_of ts ++ to-come) (take_more_set out i t r)
        ∙ ap (λ (ts : List job.Term). ts ++ to-come) (map-append (λ (u : Term). (u.coefficient, u.monomial)) (take i out) (t ∷ []))
        ∙ append_assoc (terms_of (take i out)) ((t.coefficient, t.monomial) ∷ []) to-come
        ∙ ap₂ (λ (u : job.Term) (us : List job.Term). terms_of (take i out) ++ (u ∷ us)) (e ∙ ap (λ (vs : List ℕ). clamped (term vs)) is) (ap (λ (x : List ℕ). clamped_terms (terms c (k - (i + 1)) x)) l.rest)
        ∙ sym (ap (λ (j : ℕ). terms_of (take i out) ++ clamped_terms (terms c j (left q))) (one_less k i h))

    pub terms_walked_more : TermsWalked c k (i + 1) p s (set out i t)
    terms_walked_more = record { lines = lines_walked_more i q h w.lines s l; taken = taken-there ∙ w.taken }

  pub terms_walked_all : (i : ℕ) (q : Reader) (out : List Term) → k ≤ i → i ≤ k → TermsWalked c k i p q out → LinesPassed c k p q × (terms_of (take k out) ≡ clamped_terms (terms c k (left p)))
  terms_walked_all i q out a b w =
      let e : k - i ≡ 0 = omega arith in
      let whole : i ≡ k = omega arith in (
        lines_walked_all i q whole w.lines,
        ap (λ (j : ℕ). terms_of (take j out)) (sym whole)
            ∙ sym (ap (λ (j : ℕ). terms_of (take i out) ++ clamped_terms (terms c j (left q))) e ∙ append-nil (terms_of (take i out)))
            ∙ w.taken,
      )

-- what reading terms answers, the numbers of variables and of terms known by other names
pub terms_read : (n n' count : ℕ) (before after : List Term) (p : Reader) (r : Result Reader TextFault) → n' ≡ n → count ≤ length before → TermsRead (suc n') (length (take count before)) p after r → TermsRead (suc n) count p after r
terms_read n n' count before after p r e h t = subst (λ (k : ℕ). TermsRead (suc n) k p after r) (length-take-le count before h) (subst (λ (x : ℕ). TermsRead (suc x) (length (take count before)) p after r) e t)
