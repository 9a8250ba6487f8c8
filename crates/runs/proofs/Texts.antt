-- Enter and Fill: their questions are answered, and an accepted text enters its polynomials one after the other.
use Rattle.std.proofs.Common.{◌≡◌, ℕ, zero, suc, ◌+◌, ◌<◌, ◌≤◌, true, List, [], ◌∷◌, ◌++◌, length, Ok, Err, Result, sym, refl, ap, ◌∙◌, subst, append_assoc, append-nil}
use native.Mathlib.Decide.{ℕ_discrete, dec_lt, dec_le}
use Rattle.column.specs.Line.{EndsAfter, ReadsLine, reading_line, exact}
use Rattle.column.specs.declared.line.LineFault.{LineFault}
use Rattle.column.specs.declared.line.LineFault.TheVariants.{WrongLength, NotANumber}
use Rattle.column.proofs.Newlines.{ends_from_exact, exact_from_ends}
use Rattle.column.proofs.Exactness.{reads_line_reading}
use Rattle.field.specs.Meaning.{FieldMeaning, FieldLaws}
use Rattle.order.specs.declared.monomial.Monomial.{Monomial}
use Rattle.order.specs.Monomials.{variables, exponent}
use Rattle.order.specs.Laws.{Comparison}
use Rattle.runs.specs.Question.{Question, single, AllYes}
use Rattle.runs.specs.Job.{Term, Job, opened, holding, terms_held, most_polynomials, most_terms, most_exponent}
use Rattle.runs.specs.Enter.{InRange, room_asks, Falls, terms_asks, enter_asks, Enters}
use Rattle.runs.specs.Text.{next, terms, term_count, polynomial, past, polynomials, header_n, header_count, text_polynomials, Numbers, line_asks, lines_asks, polynomial_asks, polynomials_asks, fill_asks}
use Rattle.runs.specs.Run.{Follows, ends}
use Rattle.runs.specs.Writing.{enterings, TextsEnter}
use Rattle.runs.proofs.Questions.{yes_first, yes_rest, Chain, ◌▸◌, chain_append, settled, settled_at, settled_each}
use Rattle.runs.proofs.Deciding.{below_known, both_known, not_known, if_known, test_known, true_known, opened_known, less_known, nil_known}

-- a line

ends_known : (c : ℕ) (bs : List ℕ) → Dec (EndsAfter c bs)
ends_known c bs = go (true_known (exact c bs))
  where
    go : Dec (exact c bs ≡ true) → Dec (EndsAfter c bs)
    go (yes e) = yes (ends_from_exact c bs e)
    go (no d) = no (λ x. d (exact_from_ends c bs x))

numbers_known : (c : ℕ) (bs : List ℕ) → EndsAfter c bs → Dec (Numbers c bs)
numbers_known c bs ends = go (reading_line c bs) (reads_line_reading c bs)
  where
    go : (r : Result (List ℕ) LineFault) → ReadsLine c bs r → Dec (Numbers c bs)
    go (Ok ws) h = yes (ws, h.0, h.1, h.2)
    go (Err WrongLength) h = absurd (h ends)
    go (Err NotANumber) h = no (λ x. h.1 x.0 x.1 x.2 x.3)

pub line_chain : (l c : ℕ) (bs : List ℕ) → Chain (line_asks l c bs)
line_chain l c bs = (settled_at 26 l l (ends_known c bs), λ ends. (settled_at 27 l l (numbers_known c bs ends), λ y. tt))

pub lines_chain : (l c k : ℕ) (bs : List ℕ) → Chain (lines_asks l c k bs)
lines_chain l c zero bs = tt
lines_chain l c (suc k) bs = chain_append (line_asks l c bs) (lines_asks (suc l) c k (next c bs)) (line_chain l c bs) (λ y. lines_chain (suc l) c k (next c bs))

-- the room and the terms of one polynomial

room_chain : (l : ℕ) (j : Job) (c : ℕ) → Chain (room_asks l j c)
room_chain l j c = settled 6 l (dec_lt _ most_polynomials) ▸ settled 7 l (dec_lt 0 c) ▸ settled 8 l (dec_le _ most_terms) ▸ tt

pub range_known : (n : ℕ) (t : Monomial) → Dec (InRange n t)
range_known n t = below_known _ variables (λ k l. both_known (dec_le (exponent t k) most_exponent) (if_known (dec_le n k) (ℕ_discrete (exponent t k) 0)))

module _ (m : FieldMeaning) (cmp : Comparison) where
  falls_known : (p : List Term) (i : ℕ) → Dec (Falls cmp p i)
  falls_known p zero = yes tt
  falls_known p (suc i) = less_known _

  terms_chain : (n l : ℕ) (p : List Term) → Chain (terms_asks m cmp n l p)
  terms_chain n l p =
      settled_each 9 l _ _ (λ i q. both_known (test_known _) (not_known (ℕ_discrete _ _)))
      ▸ settled_each 10 l _ _ (λ i q. range_known n _)
      ▸ settled_each 11 l _ _ (λ i q. falls_known p i)
      ▸ settled 12 l (ℕ_discrete _ _)
      ▸ tt

  -- the questions of Enter are answered
  pub enter_chain : (j : Job) (p : List Term) → Chain (enter_asks m cmp j p)
  enter_chain j p = settled 5 0 (opened_known _) ▸ chain_append (room_asks 0 j (length p)) (terms_asks m cmp j.n 0 p) (room_chain 0 j (length p)) (λ z. terms_chain j.n 0 p)

  -- and those of Fill

  -- what follows the room of a polynomial
  abbrev pub body_asks : ℕ → Job → List ℕ → List Question
  body_asks l j bs = lines_asks (suc l) (suc j.n) (term_count bs) (next 1 bs) ++ terms_asks m cmp j.n l (polynomial j.n bs)

  polynomial_chain : (l : ℕ) (j : Job) (bs : List ℕ) → Chain (polynomial_asks m cmp l j bs)
  polynomial_chain l j bs =
      chain_append (line_asks l 1 bs) (room_asks l j (term_count bs) ++ body_asks l j bs) (line_chain l 1 bs) (λ y.
      chain_append (room_asks l j (term_count bs)) (body_asks l j bs) (room_chain l j (term_count bs)) (λ z.
      chain_append (lines_asks (suc l) (suc j.n) (term_count bs) (next 1 bs)) (terms_asks m cmp j.n l (polynomial j.n bs)) (lines_chain (suc l) (suc j.n) (term_count bs) (next 1 bs)) (λ w.
      terms_chain j.n l (polynomial j.n bs))))

  -- what follows a polynomial
  abbrev pub later_asks : ℕ → Job → ℕ → List ℕ → List Question
  later_asks l j k bs = polynomials_asks m cmp (l + (1 + term_count bs)) (holding j (polynomial j.n bs ∷ [])) k (past j.n bs)

  polynomials_chain : (l : ℕ) (j : Job) (k : ℕ) (bs : List ℕ) → Chain (polynomials_asks m cmp l j k bs)
  polynomials_chain l j zero bs = tt
  polynomials_chain l j (suc k) bs = chain_append (polynomial_asks m cmp l j bs) (later_asks l j k bs) (polynomial_chain l j bs) (λ y. polynomials_chain (l + (1 + term_count bs)) (holding j (polynomial j.n bs ∷ [])) k (past j.n bs))

  -- what follows the header
  abbrev pub header_asks : Job → List ℕ → List Question
  header_asks j bs = single 29 1 (header_n bs ≡ j.n) ∷ polynomials_asks m cmp 2 j (header_count bs) (next 4 bs)

  pub fill_chain : (j : Job) (bs : List ℕ) → Chain (fill_asks m cmp j bs)
  fill_chain j bs =
      settled 28 0 (both_known (opened_known _) (nil_known _))
      ▸ chain_append (line_asks 1 4 bs) (header_asks j bs) (line_chain 1 4 bs) (λ z. settled 29 1 (ℕ_discrete _ _) ▸ polynomials_chain 2 j (header_count bs) (next 4 bs))

  -- the polynomials of an accepted text pass the questions of Enter

  pub length_terms : (c k : ℕ) (bs : List ℕ) → length (terms c k bs) ≡ k
  length_terms c zero bs = refl
  length_terms c (suc k) bs = ap suc (length_terms c k (next c bs))

  polynomial_enters : (l : ℕ) (j : Job) (bs : List ℕ) → j.stage ≡ opened → AllYes (polynomial_asks m cmp l j bs) → AllYes (enter_asks m cmp j (polynomial j.n bs))
  polynomial_enters l j bs o y =
      let a = yes_rest (line_asks l 1 bs) (room_asks l j (term_count bs) ++ body_asks l j bs) y in
      let t = yes_rest (lines_asks (suc l) (suc j.n) (term_count bs) (next 1 bs)) (terms_asks m cmp j.n l (polynomial j.n bs)) (yes_rest (room_asks l j (term_count bs)) (body_asks l j bs) a) in
      let e = length_terms (suc j.n) (term_count bs) (next 1 bs) in
      (o, (a.0, (subst (λ (k : ℕ). 0 < k) (sym e) a.1.0, (subst (λ (k : ℕ). terms_held j.polynomials + k ≤ most_terms) (sym e) a.1.1.0, t))))

  polynomials_enter : (l : ℕ) (j : Job) (k : ℕ) (bs : List ℕ) → j.stage ≡ opened → AllYes (polynomials_asks m cmp l j k bs) → Enters m cmp j (polynomials j.n k bs)
  polynomials_enter l j zero bs o y = tt
  polynomials_enter l j (suc k) bs o y = (
    polynomial_enters l j bs o (yes_first (polynomial_asks m cmp l j bs) (later_asks l j k bs) y),
    polynomials_enter (l + (1 + term_count bs)) (holding j (polynomial j.n bs ∷ [])) k (past j.n bs) o (yes_rest (polynomial_asks m cmp l j bs) (later_asks l j k bs) y),
  )

  pub text_enters : (j : Job) (bs : List ℕ) → AllYes (fill_asks m cmp j bs) → Enters m cmp j (text_polynomials j.n bs)
  text_enters j bs y = polynomials_enter 2 j (header_count bs) (next 4 bs) y.0.0 (yes_rest (line_asks 1 4 bs) (header_asks j bs) y.1).1

-- as accepted calls of Enter

enterings_follow : (m : FieldMeaning) (laws : FieldLaws m) (cmp : Comparison) (j : Job) (ps : List (List Term)) → Enters m cmp j ps → Follows m laws cmp j (enterings ps)
enterings_follow m laws cmp j [] h = tt
enterings_follow m laws cmp j (p ∷ ps) h = ((h.0, refl), enterings_follow m laws cmp (holding j (p ∷ [])) ps h.1)

enterings_end : (j : Job) (ps : List (List Term)) → ends j (enterings ps) ≡ holding j ps
enterings_end j [] = ap (λ (ps : List (List Term)). record { n = j.n; polynomials = ps; stage = j.stage }) (sym (append-nil j.polynomials))
enterings_end j (p ∷ ps) = enterings_end (holding j (p ∷ [])) ps ∙ ap (λ (ps : List (List Term)). record { n = j.n; polynomials = ps; stage = j.stage }) (append_assoc j.polynomials (p ∷ []) ps)

pub texts_enter : TextsEnter
texts_enter m laws cmp j bs out h = (enterings_follow m laws cmp j _ (text_enters m cmp j bs h.0), enterings_end j _)
