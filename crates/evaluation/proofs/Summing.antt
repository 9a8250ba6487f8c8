-- The values of polynomials that stand in a text: one turn of the walks over terms and over polynomials.
use Rattle.std.proofs.Common.{◌≡◌, ℕ, zero, suc, ◌+◌, ◌*◌, ◌<◌, ◌≤◌, List, [], ◌∷◌, ◌++◌, map, length, get_or, fold, unwrap_or, sym, refl, ap, ◌∙◌, ap₂, zero-add, arith, length-append}
use mathlib.Core.List.{map-append}
use Rattle.std.proofs.lemmas.List.{flat_map_more}
use Rattle.field.specs.Meaning.{FieldMeaning}
use Rattle.column.specs.Line.{line}
use Rattle.column.specs.Place.{put, placed}
use Rattle.column.specs.Place as at
use Rattle.column.proofs.Lines.{line_length_is}
use Rattle.column.proofs.Places.{put_none, put_put, with_room}
use Rattle.evaluation.specs.Answer.{values_at, value_lines}
use Rattle.evaluation.specs.Evaluation.{Term, term_value, value}
use Rattle.evaluation.specs.Basis.{words, next, terms, after_lines, term_count, polynomial, after, polynomials, after_all}
use Rattle.evaluation.specs.Padded.{padded}
use Rattle.evaluation.proofs.Padding.{index_behind, value_padded}

module _ (m : FieldMeaning) (n : ℕ) (x : List ℕ) where
  abbrev pub plus_term : ℕ → Term → ℕ
  plus_term a t = m.add a (term_value m n x t)

  -- the terms of a text, padded, sum up as they are
  sum_padded : (c k : ℕ) (bs : List ℕ) (a : ℕ) → fold plus_term a (map (padded c) (terms c k bs)) ≡ fold plus_term a (terms c k bs)
  unfolding terms
  sum_padded c zero bs a = refl
  sum_padded c (suc k) bs a =
      ap (λ (v : ℕ). fold plus_term (m.add a v) (map (padded c) (terms c k (next c bs)))) (value_padded m n c x (words c bs))
      ∙ sum_padded c k (next c bs) (plus_term a (words c bs))

  pub value_of_padded : (c k : ℕ) (bs : List ℕ) (z v : ℕ) → z ≡ m.zero → v ≡ fold plus_term z (map (padded c) (terms c k bs)) → v ≡ value m n x (terms c k bs)
  unfolding value
  value_of_padded c k bs z v ez ev = ev ∙ ap (λ (a : ℕ). fold plus_term a (map (padded c) (terms c k bs))) ez ∙ sum_padded c k bs m.zero

  -- from the value of the terms to that of the polynomial, whose count stands in ws
  pub of_polynomial : (bs first ws : List ℕ) (v : ℕ) → ws ≡ padded 1 (words 1 bs) → first ≡ after_lines 1 1 bs → v ≡ value m n x (terms (n + 1) (get_or ws 0 0) first) → v ≡ value m n x (polynomial n bs)
  unfolding polynomial term_count after_lines
  of_polynomial bs first ws v ew ef ev =
      ev ∙ ap₂ (λ (k : ℕ) (ys : List ℕ). value m n x (terms (n + 1) k ys)) (ap (λ (xs : List ℕ). get_or xs 0 0) ew ∙ index_behind (words 1 bs) 4 0) ef

  -- and what follows it
  pub after_polynomial : (bs first rest ws : List ℕ) → ws ≡ padded 1 (words 1 bs) → first ≡ after_lines 1 1 bs → rest ≡ after_lines (n + 1) (get_or ws 0 0) first → rest ≡ after n bs
  unfolding after term_count after_lines
  after_polynomial bs first rest ws ew ef er =
      er ∙ ap₂ (λ (k : ℕ) (ys : List ℕ). after_lines (n + 1) k ys) (ap (λ (xs : List ℕ). get_or xs 0 0) ew ∙ index_behind (words 1 bs) 4 0) ef

-- ---- a walk over k polynomials that writes a line for each value

pub polynomials_more : (n i : ℕ) (bs : List ℕ) → polynomials n (i + 1) bs ≡ polynomials n i bs ++ polynomial n (after_all n i bs) ∷ []
unfolding polynomials after_all
polynomials_more n zero bs = refl
polynomials_more n (suc i) bs =
    let e : suc i + 1 ≡ suc (i + 1) = omega arith in
    ap (λ (j : ℕ). polynomials n j bs) e ∙ ap (λ (ps : List (List Term)). polynomial n bs ∷ ps) (polynomials_more n i (after n bs))

pub after_all_more : (n i : ℕ) (bs : List ℕ) → after_all n (i + 1) bs ≡ after n (after_all n i bs)
unfolding after_all
after_all_more n zero bs = refl
after_all_more n (suc i) bs = let e : suc i + 1 ≡ suc (i + 1) = omega arith in ap (λ (j : ℕ). after_all n j bs) e ∙ after_all_more n i (after n bs)

one_line : (v : ℕ) → v < 4294967296 → length (line (v ∷ [])) ≡ 12
one_line v h = line_length_is (v ∷ []) (omega arith, tt)

module _ (m : FieldMeaning) (n : ℕ) (x : List ℕ) (bs start : List ℕ) where
  abbrev lines_of : ℕ → List ℕ
  lines_of i = value_lines (values_at m n x i bs)

  -- the lines of i values are written, and the rest of the text is here
  pub record Listed (i : ℕ) (here out : List ℕ) (end : ℕ) : Type 0 where
    pub rest : here ≡ after_all n i bs
    pub bytes : out ≡ put start 0 (lines_of i)
    pub end_is : end ≡ length (lines_of i)
    pub count : end ≡ 12 * i

  pub listed_none : Listed 0 bs start 0
  unfolding polynomials after_all
  listed_none = record { rest = refl; bytes = sym (put_none start 0); end_is = refl; count = refl }

  lines_more : (i : ℕ) → lines_of (i + 1) ≡ lines_of i ++ line (value m n x (polynomial n (after_all n i bs)) ∷ [])
  lines_more i =
      ap (λ (ps : List (List Term)). value_lines (map (value m n x) ps)) (polynomials_more n i bs)
      ∙ ap value_lines (map-append (value m n x) (polynomials n i bs) (polynomial n (after_all n i bs) ∷ []))
      ∙ sym (flat_map_more (λ (v : ℕ). line (v ∷ [])) [] (values_at m n x i bs) (value m n x (polynomial n (after_all n i bs))))

  pub listed_more : (i : ℕ) (here next_here out new : List ℕ) (end next v : ℕ) → v < 4294967296 → end + 12 ≤ length out → length out ≡ length start
      → v ≡ value m n x (polynomial n here) → next_here ≡ after n here → next ≡ unwrap_or (at.after out end (line (v ∷ []))) end → new ≡ placed out end (line (v ∷ []))
      → Listed i here out end → Listed (i + 1) next_here new next
  listed_more i here next_here out new end next v fits room same ev er eo en l =
      let w : line (v ∷ []) ≡ line (value m n x (polynomial n (after_all n i bs)) ∷ []) = ap (λ (u : ℕ). line (u ∷ [])) (ev ∙ ap (λ (b : List ℕ). value m n x (polynomial n b)) l.rest) in
      let size = one_line v fits in
      let p = with_room out (line (v ∷ [])) end 12 size (omega arith) in
      let further : next ≡ end + 12 = eo ∙ sym (ap (λ o. unwrap_or o end) p.0) in
      let longer : lines_of (i + 1) ≡ lines_of i ++ line (v ∷ []) = lines_more i ∙ ap (λ (b : List ℕ). lines_of i ++ b) (sym w) in
      record {
        rest = er ∙ ap (after n) l.rest ∙ sym (after_all_more n i bs);
        bytes =
            en ∙ sym p.1
            ∙ ap₂ (λ (o : List ℕ) (e : ℕ). put o e (line (v ∷ []))) l.bytes (l.end_is ∙ sym (zero-add (length (lines_of i))))
            ∙ put_put start (lines_of i) (line (v ∷ [])) 0 (omega arith) ∙ ap (put start 0) (sym longer);
        end_is = further ∙ ap₂ (λ (a b : ℕ). a + b) l.end_is (sym size) ∙ sym (ap length longer ∙ length-append (lines_of i) (line (v ∷ [])));
        count = omega (arith, l.count, further);
      }
