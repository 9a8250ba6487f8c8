-- Where lines, terms, polynomials and the whole text come to stand.
use Rattle.std.proofs.Common.{◌≡◌, ℕ, zero, suc, ◌+◌, ◌*◌, ◌<◌, ◌≤◌, List, [], ◌∷◌, ◌++◌, length, get_or, take, drop, Ok, sym, ap, ◌∙◌, subst, ap₂, mul-le-mul, zero-add, arith, length-append}
use lib.ListN.{length-map}
use Rattle.std.specs.List.{flat_map, AllByRecursion}
use Rattle.std.proofs.lemmas.List.{get_or-map}
use Rattle.std.proofs.ByRecursion.{All-more}
use Rattle.column.specs.Column.{Word}
use Rattle.column.specs.Line.{line, line_length}
use Rattle.column.specs.Place.{put}
use Rattle.column.proofs.Places.{put_put}
use Rattle.order.specs.Monomials.{variables, one}
use Rattle.staircase.specs.declared.rules.Term.{Term}
use Rattle.polynomials.specs.declared.store.Polynomials.{Polynomials}
use Rattle.polynomials.specs.Held.{entries, held, terms_of}
use Rattle.polynomials.proofs.Stored.{few_terms, length_terms}
use Rattle.runs.specs.Job as job
use Rattle.runs.specs.Job.{terms_held}
use Rattle.runs.specs.Writing.{term_line, polynomial_text, basis_text}
use Rattle.text.specs.Written.{Wrote, Words, AllWords, term_words, sizes, term_size, terms_size, polynomial_size, text_size}
use Rattle.text.proofs.Sizes.{length_term_words, sizes_terms}
use Rattle.text.proofs.Parts.{Parts, parts_more, parts_all, sizes_next, sizes_more}

-- ---- terms

abbrev of : Term → job.Term
of t = (t.coefficient, t.monomial)

module _ (n : ℕ) (ts : List Term) (start : List ℕ) (at : ℕ) where
  -- room for all is room for the next line
  pub terms_room : (i end : ℕ) (out : List ℕ) → i < length ts → at + terms_size n (terms_of ts) ≤ length start → Parts (term_line n) (term_size n) (terms_of ts) start at i out end → end + line_length (suc n) ≤ length start
  terms_room i end out h room w = omega (arith, w.place, sizes_next (term_size n) (terms_of ts) i (0, one) (omega (arith, length_terms ts)), sizes_terms n (terms_of ts))

  pub terms_more : (i : ℕ) (d : Term) (out new ws : List ℕ) (end next : ℕ) → i < length ts → at ≤ length start → Parts (term_line n) (term_size n) (terms_of ts) start at i out end
      → ws ≡ term_words n (of (get_or ts i d)) → length (line ws) ≡ line_length (length ws) → new ≡ put out end (line ws) → next ≡ end + line_length (length ws)
      → Parts (term_line n) (term_size n) (terms_of ts) start at (i + 1) new next
  terms_more i d out new ws end next h room w is long e after =
      let same : get_or (terms_of ts) i (0, one) ≡ of (get_or ts i d) = get_or-map of ts i d (0, one) h in
      let text : line ws ≡ term_line n (get_or (terms_of ts) i (0, one)) = ap line (is ∙ ap (term_words n) (sym same)) in
      let wide : length ws ≡ suc n = ap length is ∙ length_term_words n (of (get_or ts i d)) in
      parts_more (term_line n) (term_size n) (terms_of ts) start at i (0, one) out new end next (omega (arith, length_terms ts)) room w
      (ap length (sym text) ∙ long ∙ ap line_length wide) (e ∙ ap (put out end) text) (after ∙ ap (λ (k : ℕ). end + line_length k) wide)

  -- the coefficient of the next is a word
  pub terms_fit : (i : ℕ) (d : Term) (ws : List ℕ) → i < length ts → ws ≡ term_words n (of (get_or ts i d)) → AllByRecursion Word ws → Words (take i (terms_of ts)) → Words (take (i + 1) (terms_of ts))
  terms_fit i d ws h is fit before =
      let same : get_or (terms_of ts) i (0, one) ≡ of (get_or ts i d) = get_or-map of ts i d (0, one) h in
      let all : AllByRecursion Word (term_words n (of (get_or ts i d))) = subst (AllByRecursion Word) is fit in
      All-more (λ (t : job.Term). Word t.0) (terms_of ts) i (0, one) (omega (arith, length_terms ts)) before (subst (λ (t : job.Term). Word t.0) (sym same) all.0)

  pub terms_all : (i end : ℕ) (out : List ℕ) → length ts ≤ i → Parts (term_line n) (term_size n) (terms_of ts) start at i out end
      → (out ≡ put start at (flat_map (term_line n) (terms_of ts))) × (length (flat_map (term_line n) (terms_of ts)) ≡ terms_size n (terms_of ts)) × (end ≡ at + terms_size n (terms_of ts))
  terms_all i end out h w =
      let p = parts_all (term_line n) (term_size n) (terms_of ts) start at i out end (omega (arith, length_terms ts)) w in
      let size = sizes_terms n (terms_of ts) in
      (p.0, p.1 ∙ size, p.2 ∙ ap (λ (k : ℕ). at + k) size)

  -- ---- a polynomial

  pub polynomial_placed : (out new : List ℕ) (first : ℕ) → at ≤ length start → length (line (length ts ∷ [])) ≡ 12 → first ≡ at + 12 → out ≡ put start at (line (length ts ∷ []))
      → new ≡ put out first (flat_map (term_line n) (terms_of ts)) → new ≡ put start at (polynomial_text n (terms_of ts))
  polynomial_placed out new first room long after bytes news =
      let count : List ℕ = line (length ts ∷ []) in
      let rest : List ℕ = flat_map (term_line n) (terms_of ts) in
      let text : count ++ rest ≡ polynomial_text n (terms_of ts) = ap (λ (k : ℕ). line (k ∷ []) ++ rest) (sym (length_terms ts)) in
      let place : first ≡ at + length count = after ∙ ap (λ (k : ℕ). at + k) (sym long) in
      news ∙ ap₂ (λ (bs : List ℕ) (k : ℕ). put bs k rest) bytes place ∙ put_put start count rest at room ∙ ap (put start at) text

-- ---- polynomials

-- one of them has no more terms than all
some_terms : (ps : List (List job.Term)) (i : ℕ) → i < length ps → length (get_or ps i []) ≤ terms_held ps
some_terms [] i h = absurd (omega arith)
some_terms (p ∷ ps) zero h = omega arith
some_terms (p ∷ ps) (suc i) h = omega (arith, some_terms ps i (omega arith))

module _ (s : Polynomials) (n : ℕ) (i : ℕ) (p : List Term) (h : i < length (held s)) (d : List Term) (is : p ≡ get_or (entries s) i d) where
  here : get_or (held s) i [] ≡ terms_of p
  here = get_or-map terms_of (entries s) i d [] (omega (arith, length-map (entries s) terms_of)) ∙ ap terms_of (sym is)

  pub entry_few : length p ≤ 1024
  entry_few = omega (arith, length_terms p, ap length here, some_terms (held s) i h, few_terms s)

  pub entry_room : (start out : List ℕ) (at end : ℕ) → at + sizes (polynomial_size n) (held s) ≤ length start → Parts (polynomial_text n) (polynomial_size n) (held s) start at i out end → end + polynomial_size n (terms_of p) ≤ length start
  entry_room start out at end room w = omega (arith, w.place, sizes_next (polynomial_size n) (held s) i [] h, ap (polynomial_size n) here)

  pub entries_more : (start out new : List ℕ) (at end next : ℕ) → at ≤ length start → Parts (polynomial_text n) (polynomial_size n) (held s) start at i out end
      → length (polynomial_text n (terms_of p)) ≡ polynomial_size n (terms_of p) → new ≡ put out end (polynomial_text n (terms_of p)) → next ≡ end + polynomial_size n (terms_of p)
      → Parts (polynomial_text n) (polynomial_size n) (held s) start at (i + 1) new next
  entries_more start out new at end next room w long e after =
      parts_more (polynomial_text n) (polynomial_size n) (held s) start at i [] out new end next h room w
      (ap (λ (q : List job.Term). length (polynomial_text n q)) here ∙ long ∙ ap (polynomial_size n) (sym here)) (e ∙ ap (λ (q : List job.Term). put out end (polynomial_text n q)) (sym here)) (after ∙ ap (λ (q : List job.Term). end + polynomial_size n q) (sym here))

  pub entries_fit : AllWords (take i (held s)) → Words (terms_of p) → AllWords (take (i + 1) (held s))
  entries_fit before fit = All-more Words (held s) i [] h before (subst Words (sym here) fit)

  -- how much longer the text is
  pub size_more : (length' : ℕ) → length' ≡ 45 + sizes (polynomial_size n) (take i (held s)) → length' + (12 + length p * line_length (n + 1)) ≡ 45 + sizes (polynomial_size n) (take (i + 1) (held s))
  size_more length' e =
      let w : n + 1 ≡ suc n = omega arith in
      let size : 12 + length p * line_length (n + 1) ≡ polynomial_size n (terms_of p) = ap₂ (λ (a b : ℕ). 12 + a * line_length b) (sym (length_terms p)) w in
      omega (arith, e, size, ap (polynomial_size n) here, sizes_more (polynomial_size n) (held s) i [] h)

  -- and that it stays small
  pub size_small : n ≤ variables → length p * line_length (n + 1) ≤ 57344
  size_small l = let q : line_length (n + 1) ≤ 56 = omega arith in let m = mul-le-mul entry_few q in omega arith

-- ---- the whole text

pub text_placed : {E : Type 0} (short : E) (f o n count : ℕ) (ps : List (List job.Term)) (start out new : List ℕ) (first end : ℕ) → text_size n ps ≤ length start → count ≡ length ps
    → length (line (f ∷ o ∷ n ∷ count ∷ [])) ≡ 45 → first ≡ 0 + 45 → out ≡ put start 0 (line (f ∷ o ∷ n ∷ count ∷ []))
    → length (flat_map (polynomial_text n) ps) ≡ sizes (polynomial_size n) ps → end ≡ first + sizes (polynomial_size n) ps → new ≡ put out first (flat_map (polynomial_text n) ps)
    → Wrote short (basis_text f o n ps) start new (Ok end)
unfolding put
text_placed short f o n count ps start out new first end room same long after bytes longs ends news =
    let head : List ℕ = line (f ∷ o ∷ n ∷ count ∷ []) in
    let rest : List ℕ = flat_map (polynomial_text n) ps in
    let text : head ++ rest ≡ basis_text f o n ps = ap (λ (k : ℕ). line (f ∷ o ∷ n ∷ k ∷ []) ++ rest) same in
    let place : first ≡ 0 + length head = after ∙ ap (λ (k : ℕ). 0 + k) (sym long) in
    let size : end ≡ length (basis_text f o n ps) = omega (arith, ends, after, ap length text, length-append head rest, long, longs) in
    let whole : new ≡ put start 0 (basis_text f o n ps) = news ∙ ap₂ (λ (bs : List ℕ) (k : ℕ). put bs k rest) bytes place ∙ put_put start head rest 0 (omega arith) ∙ ap (put start 0) text in
    (size, whole ∙ ap (λ (k : ℕ). basis_text f o n ps ++ drop k start) (zero-add (length (basis_text f o n ps)) ∙ sym size))
