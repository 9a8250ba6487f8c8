-- A basis text reads back: Fill finds the lines that were written, and with them the polynomials.
use Rattle.std.proofs.Common.{◌≡◌, ℕ, suc, ◌+◌, ◌<◌, ◌≤◌, true, List, [], ◌∷◌, ◌++◌, length, get_or, drop, replicate, sym, refl, ap, ◌∙◌, subst, ap₂, append_assoc, arith, length-append}
use native.Mathlib.Decide.{dec_lt}
use Rattle.std.specs.List.{flat_map, AllByRecursion}
use Rattle.std.specs.Result.{result_unwrap_or}
use Rattle.std.proofs.ByRecursion.{All-get_or, All-from_get_or}
use Rattle.std.proofs.lemmas.List.{drop_at}
use Rattle.column.specs.Column.{Word}
use Rattle.column.specs.Line.{line, line_length, reading_line, exact}
use Rattle.column.proofs.Lines.{line_length_is, exact_line, reading_line_line}
use Rattle.column.proofs.Newlines.{ends_from_exact}
use Rattle.field.specs.Meaning.{FieldMeaning}
use Rattle.order.specs.declared.monomial.Monomial.{Monomial}
use Rattle.order.specs.Monomials.{variables, exponent, one}
use Rattle.order.specs.Laws.{Comparison}
use Rattle.order.specs.Exponents.{exponent_monomial, same_exponents}
use Rattle.algebra.proofs.Lists.{get_or_build, get_d_past}
use Rattle.runs.specs.Question.{AllYes}
use Rattle.runs.specs.Job.{Term, Job, new, holding, most_polynomials}
use Rattle.runs.specs.Enter.{InRange, room_asks, terms_asks, enter_asks, Enters}
use Rattle.runs.specs.Text.{words, next, term, terms, past_terms, term_count, polynomial, past, polynomials, past_all, header_count, line_asks, lines_asks, polynomial_asks, polynomials_asks}
use Rattle.runs.specs.Writing.{exponents, term_line, polynomial_text, basis_text, TextsReadBack}
use Rattle.runs.proofs.Questions.{yes_append, yes_rest}
use Rattle.runs.proofs.Outputs.{length_build}
use Rattle.runs.proofs.Texts.{body_asks, later_asks, header_asks}
use Rattle.runs.proofs.Entered.{fine}

-- a line that stands at the front of bs, before tail
record LineAt (c : ℕ) (ws tail bs : List ℕ) : Type 0 where
  pub reads : words c bs ≡ ws
  pub leaves : next c bs ≡ tail
  pub passes : (l : ℕ) → AllYes (line_asks l c bs)

line_at : (c : ℕ) (ws tail bs : List ℕ) → length ws ≡ c → AllByRecursion Word ws → bs ≡ line ws ++ tail → LineAt c ws tail bs
unfolding words
line_at c ws tail bs e h is = record {
  reads = ap (λ r. result_unwrap_or r (replicate c 0)) (ap₂ reading_line (sym e) is ∙ reading_line_line ws tail h);
  leaves = ap₂ drop (sym size) is ∙ drop_at (line ws) tail _ refl;
  passes = λ l. (ends_from_exact c bs (subst (λ (k : ℕ). exact k bs ≡ true) e (ap (exact (length ws)) is ∙ exact_line ws tail h)), ((ws, e, h, is ∙ ap (λ (z : List ℕ). line ws ++ z) (sym (ap (drop (length (line ws))) is ∙ drop_at (line ws) tail _ refl))), tt));
}
  where
    size : length (line ws) ≡ line_length c
    size = line_length_is ws h ∙ ap line_length e

-- a term within n variables, whose coefficient is a word
abbrev Writable : ℕ → Term → Type 0
Writable n t = InRange n t.1 × Word t.0

module _ (n : ℕ) (fits : n ≤ variables) where
  term_words : (t : Term) → Writable n t → (length (t.0 ∷ exponents n t.1) ≡ suc n) × AllByRecursion Word (t.0 ∷ exponents n t.1)
  term_words t h = (
    ap suc (length_build n (exponent t.1)),
    (
      h.1,
      All-from_get_or Word (exponents n t.1) 0 (λ i l.
          let q : i < n = omega (arith, length_build n (exponent t.1)) in
          subst Word (sym (get_or_build n (exponent t.1) 0 i q)) (omega (arith, (h.0 i (omega arith)).0))),
    ),
  )

  term_back : (t : Term) → Writable n t → term (t.0 ∷ exponents n t.1) ≡ t
  term_back t h = ap (λ (u : Monomial). (t.0, u)) (same_exponents _ _ (λ k l. exponent_monomial (λ k. get_or (exponents n t.1) k 0) k l ∙ at k l (dec_lt k n)))
    where
      at : (k : ℕ) → k < variables → Dec (k < n) → get_or (exponents n t.1) k 0 ≡ exponent t.1 k
      at k l (yes q) = get_or_build n (exponent t.1) 0 k q
      at k l (no q) = get_d_past n (exponent t.1) 0 k (omega arith) ∙ sym ((h.0 k l).1 (omega arith))

  record TermsAt (p : List Term) (tail bs : List ℕ) : Type 0 where
    pub reads : terms (suc n) (length p) bs ≡ p
    pub leaves : past_terms (suc n) (length p) bs ≡ tail
    pub passes : (l : ℕ) → AllYes (lines_asks l (suc n) (length p) bs)

  terms_at : (p : List Term) (tail bs : List ℕ) → AllByRecursion (Writable n) p → bs ≡ flat_map (term_line n) p ++ tail → TermsAt p tail bs
  terms_at [] tail bs h is = record { reads = refl; leaves = is; passes = λ l. tt }
  terms_at (t ∷ p) tail bs h is =
      let w = term_words t h.0 in
      let x = line_at (suc n) (t.0 ∷ exponents n t.1) (flat_map (term_line n) p ++ tail) bs w.0 w.1 (is ∙ append_assoc (term_line n t) (flat_map (term_line n) p) tail) in
      let r = terms_at p tail (next (suc n) bs) h.1 x.leaves in
      record {
        reads = ap₂ (λ (u : Term) (us : List Term). u ∷ us) (ap term x.reads ∙ term_back t h.0) r.reads;
        leaves = r.leaves;
        passes = λ l. yes_append (line_asks l (suc n) bs) (lines_asks (suc l) (suc n) (length p) (next (suc n) bs)) (x.passes l) (r.passes (suc l));
      }

module _ (m : FieldMeaning) (cmp : Comparison) where
  -- what Enter took can be written
  writable : (i : Job) (p : List Term) → AllYes (enter_asks m cmp i p) → AllByRecursion (λ t. Word t.0) p → AllByRecursion (Writable i.n) p
  writable i p y h = All-from_get_or (Writable i.n) p (0, one) (λ k l. ((fine m cmp i p y).ranges k l, All-get_or (λ t. Word t.0) p k (0, one) l h))

  record PolynomialAt (i : Job) (p : List Term) (tail bs : List ℕ) : Type 0 where
    pub reads : polynomial i.n bs ≡ p
    pub leaves : past i.n bs ≡ tail
    pub passes : (l : ℕ) → AllYes (polynomial_asks m cmp l i bs)

  polynomial_at : (i : Job) → i.n ≤ variables → (p : List Term) (tail bs : List ℕ) → AllYes (enter_asks m cmp i p) → AllByRecursion (λ t. Word t.0) p → bs ≡ polynomial_text i.n p ++ tail → PolynomialAt i p tail bs
  polynomial_at i fits p tail bs y h is = record {
    reads = reads;
    leaves = ap (λ (k : ℕ). past_terms (suc i.n) k (next 1 bs)) count ∙ r.leaves;
    passes = λ l.
        yes_append (line_asks l 1 bs) (room_asks l i (term_count bs) ++ body_asks m cmp l i bs) (x.passes l)
        (yes_append (room_asks l i (term_count bs)) (body_asks m cmp l i bs) (subst (λ (k : ℕ). AllYes (room_asks l i k)) (sym count) (y.1.0, (y.1.1.0, (y.1.1.1.0, tt))))
        (yes_append (lines_asks (suc l) (suc i.n) (term_count bs) (next 1 bs)) (terms_asks m cmp i.n l (polynomial i.n bs))
        (subst (λ (k : ℕ). AllYes (lines_asks (suc l) (suc i.n) k (next 1 bs))) (sym count) (r.passes (suc l)))
        (subst (λ (q : List Term). AllYes (terms_asks m cmp i.n l q)) (sym reads) (yes_rest (room_asks 0 i (length p)) (terms_asks m cmp i.n 0 p) y.1))));
  }
    where
      x : LineAt 1 (length p ∷ []) (flat_map (term_line i.n) p ++ tail) bs
      x = line_at 1 (length p ∷ []) (flat_map (term_line i.n) p ++ tail) bs refl (omega (arith, y.1.1.1.0), tt) (is ∙ append_assoc (line (length p ∷ [])) (flat_map (term_line i.n) p) tail)

      r : TermsAt i.n fits p tail (next 1 bs)
      r = terms_at i.n fits p tail (next 1 bs) (writable i p y h) x.leaves

      count : term_count bs ≡ length p
      count = ap (λ (ws : List ℕ). get_or ws 0 0) x.reads

      reads : polynomial i.n bs ≡ p
      reads = ap (λ (k : ℕ). terms (suc i.n) k (next 1 bs)) count ∙ r.reads

  record PolynomialsAt (i : Job) (ps : List (List Term)) (tail bs : List ℕ) : Type 0 where
    pub reads : polynomials i.n (length ps) bs ≡ ps
    pub leaves : past_all i.n (length ps) bs ≡ tail
    pub passes : (l : ℕ) → AllYes (polynomials_asks m cmp l i (length ps) bs)

  polynomials_at : (i : Job) → i.n ≤ variables → (ps : List (List Term)) (tail bs : List ℕ) → Enters m cmp i ps → AllByRecursion (AllByRecursion (λ t. Word t.0)) ps → bs ≡ flat_map (polynomial_text i.n) ps ++ tail → PolynomialsAt i ps tail bs
  polynomials_at i fits [] tail bs y h is = record { reads = refl; leaves = is; passes = λ l. tt }
  polynomials_at i fits (p ∷ ps) tail bs y h is =
      let x = polynomial_at i fits p (flat_map (polynomial_text i.n) ps ++ tail) bs y.0 h.0 (is ∙ append_assoc (polynomial_text i.n p) (flat_map (polynomial_text i.n) ps) tail) in
      let r = polynomials_at (holding i (p ∷ [])) fits ps tail (past i.n bs) y.1 h.1 x.leaves in
      record {
        reads = ap₂ (λ (q : List Term) (qs : List (List Term)). q ∷ qs) x.reads r.reads;
        leaves = r.leaves;
        passes = λ l. yes_append (polynomial_asks m cmp l i bs) (later_asks m cmp l i (length ps) bs) (x.passes l)
            (subst (λ (q : List Term). AllYes (polynomials_asks m cmp (l + (1 + term_count bs)) (holding i (q ∷ [])) (length ps) (past i.n bs))) (sym x.reads) (r.passes (l + (1 + term_count bs))));
      }

  -- a job holds few polynomials
  few : (i : Job) (ps : List (List Term)) → length i.polynomials ≤ most_polynomials → Enters m cmp i ps → length i.polynomials + length ps ≤ most_polynomials
  few i [] l y = omega arith
  few i (p ∷ ps) l y =
      let e = length-append i.polynomials (p ∷ []) in
      omega (arith, e, few (holding i (p ∷ [])) ps (omega (arith, e, y.0.1.0)) y.1)

pub texts_read_back : TextsReadBack
texts_read_back m laws cmp j S h f o hf ho rest = record {
  answers = (
    ((refl, refl), yes_append (line_asks 1 4 bs) (header_asks m cmp (new n) bs) (x.passes 1) (ap (λ (ws : List ℕ). get_or ws 2 0) x.reads, subst (λ (k : ℕ). AllYes (polynomials_asks m cmp 2 (new n) k (next 4 bs))) (sym count) (r.passes 2))),
    ap (λ (c : ℕ). c ∷ []) (omega (arith, length-append (basis_text f o n ps) rest, ap length (ap (λ (k : ℕ). past_all n k (next 4 bs)) count ∙ r.leaves))),
  );
  enters = ap (λ (k : ℕ). polynomials n k (next 4 bs)) count ∙ r.reads;
}
  where
    n : ℕ
    n = j.n

    ps : List (List Term)
    ps = j.polynomials

    bs : List ℕ
    bs = basis_text f o j.n j.polynomials ++ rest

    x : LineAt 4 (f ∷ o ∷ j.n ∷ length j.polynomials ∷ []) (flat_map (polynomial_text j.n) j.polynomials ++ rest) (basis_text f o j.n j.polynomials ++ rest)
    x = line_at 4 (f ∷ o ∷ j.n ∷ length j.polynomials ∷ []) (flat_map (polynomial_text j.n) j.polynomials ++ rest) _ refl
        (hf, (ho, (omega (arith, S.opens.0.1), (omega (arith, few m cmp (new j.n) j.polynomials (omega arith) S.entered), tt))))
        (append_assoc (line (f ∷ o ∷ j.n ∷ length j.polynomials ∷ [])) (flat_map (polynomial_text j.n) j.polynomials) rest)

    r : PolynomialsAt m cmp (new j.n) j.polynomials rest (next 4 (basis_text f o j.n j.polynomials ++ rest))
    r = polynomials_at m cmp (new j.n) S.opens.0.1 j.polynomials rest _ S.entered h x.leaves

    count : header_count (basis_text f o j.n j.polynomials ++ rest) ≡ length j.polynomials
    count = ap (λ (ws : List ℕ). get_or ws 3 0) x.reads
