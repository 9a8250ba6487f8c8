-- The questions of a polynomial, put together from the answers to each.
use Rattle.std.proofs.Common.{◌≡◌, ℕ, suc, ◌+◌, ◌-◌, ◌<◌, ◌≤◌, Bool, false, cond, not, eqb, leb, List, map, get_or, drop, Some, None, position, Option, sym, refl, ap, ◌∙◌, ap₂, arith}
use Rattle.std.specs.Option.{option_map}
use Rattle.std.specs.List.{list_all}
use Rattle.std.proofs.lemmas.Bool.{ne_eqb}
use Rattle.field.specs.Meaning.{FieldMeaning}
use Rattle.evaluation.specs.declared.fault.ProbeFault.{ProbeFault}
use Rattle.evaluation.specs.declared.fault.ProbeFault.TheVariants.{NoTerm, Coefficient, Exponent}
use Rattle.column.specs.Walk.{left}
use Rattle.column.specs.declared.reader.Reader.{Reader}
use Rattle.evaluation.specs.Evaluation.{Term}
use Rattle.evaluation.specs.Basis.{words, next, terms, after_lines, term_count, polynomial, after, after_all, lines_all}
use Rattle.evaluation.specs.Answer.{Refusal, then, at_place, coefficient_stands, exponents_stand, asks_line, asks_lines, asks_terms, asks_polynomial, asks_polynomials}
use Rattle.evaluation.specs.Padded.{padded}
use Rattle.evaluation.proofs.Padding.{coefficient_padded}
use Rattle.evaluation.proofs.FirstNo.{first_no_is, position_padded, exponents_padded}
use Rattle.evaluation.specs.Steps.{LinePassed, LinesPassed, PolynomialPassed, PolynomialsPassed, WalkedPolynomials}

-- the two searches over the padded terms, in their order
pub terms_asked : (m : FieldMeaning) (n k l : ℕ) (bs : List ℕ) (a b : Option ℕ)
    → a ≡ position (λ t. not (coefficient_stands m t)) (map (padded (n + 1)) (terms (n + 1) k bs))
    → b ≡ position (λ t. not (list_all (λ e. leb e 48) (drop 1 t))) (map (padded (n + 1)) (terms (n + 1) k bs))
    → then (at_place (Coefficient l) (option_map (λ j. j + 1) a)) (at_place (Exponent l) (option_map (λ j. j + 1) b)) ≡ asks_terms m n (terms (n + 1) k bs) l
unfolding asks_terms
terms_asked m n k l bs a b e f =
    let c = position_padded (n + 1) (λ t. not (coefficient_stands m t)) (λ t. not (coefficient_stands m t)) (λ xs. ap not (coefficient_padded m (n + 1) (words (n + 1) xs))) k bs in
    let d = position_padded (n + 1) (λ t. not (list_all (λ e. leb e 48) (drop 1 t))) (λ t. not (exponents_stand n t)) (exponents_padded n) k bs in
    ap₂ (λ (x y : Option ℕ). then (at_place (Coefficient l) x) (at_place (Exponent l) y))
    (first_no_is (coefficient_stands m) (terms (n + 1) k bs) a (e ∙ c))
    (first_no_is (exponents_stand n) (terms (n + 1) k bs) b (f ∙ d))

-- the same, the bytes, the line and the number of variables known by other names
pub asked_there : (m : FieldMeaning) (n n' k l l' : ℕ) (bs bs' : List ℕ) (d : Refusal) → n' ≡ n → l' ≡ l → bs' ≡ bs
    → d ≡ asks_terms m n' (terms (n' + 1) k bs') l' → d ≡ asks_terms m n (terms (n + 1) k bs) l
asked_there m n n' k l l' bs bs' d en el eb h = cc

-- of the polynomial that bs begins with, in n variables and k terms
module _ (m : FieldMeaning) (n k l : ℕ) (bs : List ℕ) (count : term_count bs ≡ k) where
  pub polynomial_is : terms (n + 1) k (next 1 bs) ≡ polynomial n bs
  unfolding polynomial
  polynomial_is = ap (λ (j : ℕ). terms (n + 1) j (next 1 bs)) (sym count)

  pub polynomial_asked : (a c d : Refusal) → asks_line 1 bs l ≡ a → asks_lines (n + 1) k (next 1 bs) (l + 1) ≡ c → asks_terms m n (terms (n + 1) k (next 1 bs)) l ≡ d
      → asks_polynomial m n bs l ≡ then a (then (cond (eqb k 0) (Some (NoTerm l)) None) (then c d))
  unfolding asks_polynomial
  polynomial_asked a c d ea ec ed =
      ap₂ (λ (x : Refusal) (y : ℕ). then x (then (cond (eqb y 0) (Some (NoTerm l)) None) (then (asks_lines (n + 1) y (next 1 bs) (l + 1)) (asks_terms m n (polynomial n bs) l)))) ea count
      ∙ ap₂ (λ (x y : Refusal). then a (then (cond (eqb k 0) (Some (NoTerm l)) None) (then x y))) ec (ap (λ (ts : List Term). asks_terms m n ts l) (sym polynomial_is) ∙ ed)

-- ---- the polynomial that a reader p is at, whose count line reads as ws

module _ (ws : List ℕ) (m : FieldMeaning) (n : ℕ) (p first : Reader) where
  abbrev here : List ℕ
  here = left p

  abbrev k : ℕ
  k = get_or ws 0 0

  pub count_unread : (e : ProbeFault) → asks_line 1 here p.place.line ≡ Some e → asks_polynomial m n here p.place.line ≡ Some e
  count_unread e h = polynomial_asked m n (term_count here) p.place.line here refl (Some e) _ _ h refl refl

  module _ (line : LinePassed 1 p first ws) where
    count_is : term_count here ≡ k
    unfolding term_count
    count_is = sym (ap (λ (xs : List ℕ). get_or xs 0 0) line.taken)

    pub no_term : k ≡ 0 → asks_polynomial m n here p.place.line ≡ Some (NoTerm p.place.line)
    no_term z = polynomial_asked m n 0 p.place.line here (count_is ∙ z) None _ _ line.asked refl refl

    asked_from : (c d : Refusal) → (k ≡ 0 → ⊥) → asks_lines (n + 1) k (left first) first.place.line ≡ c → asks_terms m n (terms (n + 1) k (left first)) p.place.line ≡ d
        → asks_polynomial m n here p.place.line ≡ then c d
    asked_from c d nz ec ed =
        let some : eqb k 0 ≡ false = ne_eqb k 0 nz in
        polynomial_asked m n k p.place.line here count_is None c d line.asked
        (ap₂ (λ (bs : List ℕ) (l : ℕ). asks_lines (n + 1) k bs l) (sym line.rest) (sym line.line) ∙ ec)
        (ap (λ (bs : List ℕ). asks_terms m n (terms (n + 1) k bs) p.place.line) (sym line.rest) ∙ ed)
        ∙ ap (λ (b : Bool). then (cond b (Some (NoTerm p.place.line)) None) (then c d)) some

    pub lines_unread : (e : ProbeFault) → (k ≡ 0 → ⊥) → asks_lines (n + 1) k (left first) first.place.line ≡ Some e → asks_polynomial m n here p.place.line ≡ Some e
    lines_unread e nz h = asked_from (Some e) _ nz h refl

    module _ (end : Reader) (nz : k ≡ 0 → ⊥) (lines : LinesPassed (n + 1) k first end) where
      pub terms-asked-last : (d : Refusal) → d ≡ asks_terms m n (terms (n + 1) k (left first)) p.place.line → asks_polynomial m n here p.place.line ≡ d
      terms-asked-last d h = asked_from None d nz lines.asked (sym h)

      pub polynomial-passed : None ≡ asks_terms m n (terms (n + 1) k (left first)) p.place.line → PolynomialPassed m n p end
      unfolding after
      polynomial-passed h = record {
        asked = terms-asked-last None h;
        rest = lines.rest ∙ ap₂ (after_lines (n + 1)) (sym count_is) line.rest;
        line = omega (arith, lines.line, line.line, count_is);
        further = omega (arith, lines.further, line.further);
      }

-- ---- a walk over k polynomials

module _ (m : FieldMeaning) (n k : ℕ) (p : Reader) where
  module _ (i : ℕ) (q : Reader) (h : i < k) where
    abbrev others : ℕ
    others = k - (i + 1)

    one_less : k - i ≡ suc others
    one_less = omega arith

    asked_next : asks_polynomials m n (k - i) (left q) q.place.line ≡ then (asks_polynomial m n (left q) q.place.line) (asks_polynomials m n others (after n (left q)) (q.place.line + (1 + term_count (left q))))
    unfolding asks_polynomials
    asked_next = ap (λ (j : ℕ). asks_polynomials m n j (left q) q.place.line) one_less

    rest_next : after_all n (k - i) (left q) ≡ after_all n others (after n (left q))
    unfolding after_all
    rest_next = ap (λ (j : ℕ). after_all n j (left q)) one_less

    lines_next : lines_all n (k - i) (left q) ≡ 1 + term_count (left q) + lines_all n others (after n (left q))
    unfolding lines_all
    lines_next = ap (λ (j : ℕ). lines_all n j (left q)) one_less

    module _ (w : WalkedPolynomials m n k i p q) where
      pub polynomials-broken : (e : ProbeFault) → asks_polynomial m n (left q) q.place.line ≡ Some e → asks_polynomials m n k (left p) p.place.line ≡ Some e
      polynomials-broken e b = sym w.asked ∙ asked_next ∙ ap (λ (x : Refusal). then x (asks_polynomials m n others (after n (left q)) (q.place.line + (1 + term_count (left q))))) b

      pub polynomials_more : (s : Reader) → PolynomialPassed m n q s → WalkedPolynomials m n k (i + 1) p s
      polynomials_more s l = record {
        asked =
            ap₂ (asks_polynomials m n others) l.rest l.line
            ∙ sym (ap (λ (x : Refusal). then x (asks_polynomials m n others (after n (left q)) (q.place.line + (1 + term_count (left q))))) l.asked)
            ∙ sym asked_next ∙ w.asked;
        rest = ap (after_all n others) l.rest ∙ sym rest_next ∙ w.rest;
        line = let r = ap (lines_all n others) l.rest in omega (arith, r, l.line, w.line, lines_next);
        further = omega (arith, w.further, l.further);
      }

  pub polynomials_passed : (i : ℕ) (q : Reader) → k ≤ i → i ≤ k → WalkedPolynomials m n k i p q → PolynomialsPassed m n k p q
  unfolding asks_polynomials after_all lines_all
  polynomials_passed i q h g w =
      let e : k - i ≡ 0 = omega arith in
      record {
        asked = sym w.asked ∙ ap (λ (j : ℕ). asks_polynomials m n j (left q) q.place.line) e;
        rest = sym (ap (λ (j : ℕ). after_all n j (left q)) e) ∙ w.rest;
        line = let z = ap (λ (j : ℕ). lines_all n j (left q)) e in omega (arith, z, w.line);
        further = omega (arith, w.further);
      }
