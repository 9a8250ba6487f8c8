-- The first of a list that gets a no, by the library's search for a position, over words and over the terms of a text.
use Rattle.std.proofs.Common.{◌≡◌, ℕ, zero, suc, ◌+◌, ◌-◌, ◌≤◌, Bool, true, false, cond, not, ◌&&◌, leb, List, [], ◌∷◌, ◌++◌, map, length, get_or, take, drop, replicate, Some, position, Option, Ok, Err, Result, sym, refl, ap, ◌∙◌, ap₂, add-one, arith}
use Rattle.std.specs.Option.{option_map}
use Rattle.std.specs.List.{list_all, position_from}
use Rattle.std.proofs.Math.Bool.{and-true}
use Rattle.std.proofs.lemmas.Iterator.Adapters.{position_from-zero}
use Rattle.std.proofs.lemmas.List.{take_all}
use Rattle.std.proofs.lemmas.List.Folds.{list_all-append, list_all_more}
use lib.ListN.{length-replicate}
use Rattle.std.specs.Result as results
use Rattle.column.specs.declared.line.LineFault.{LineFault}
use Rattle.column.specs.Line.{reading_line, ReadsLine}
use Rattle.column.proofs.Exactness.{reads_line_reading}
use Rattle.evaluation.specs.Evaluation.{Term}
use Rattle.evaluation.specs.Basis.{words, next, terms}
use Rattle.evaluation.specs.Answer.{first_no_from, first_no, exponents_stand}
use Rattle.evaluation.specs.Padded.{padded}

-- ---- a position, counted from the front of a list

shifted : {A : Type 0} (t : A → Bool) (p : ℕ) (xs : List A) → option_map (λ k. k + 1) (position_from t p xs) ≡ position_from t (p + 1) xs
shifted t p [] = refl
shifted t p (x ∷ xs) = by_test (t x) (shifted t (p + 1) xs)
  where
    by_test : (b : Bool) → option_map (λ k. k + 1) (position_from t (p + 1) xs) ≡ position_from t (p + 1 + 1) xs
        → option_map (λ k. k + 1) (cond b (Some p) (position_from t (p + 1) xs)) ≡ cond b (Some (p + 1)) (position_from t (p + 1 + 1) xs)
    by_test true ih = refl
    by_test false ih = ih

-- the first that gets a no, counted from p
first_from : {A : Type 0} (t : A → Bool) (p : ℕ) (xs : List A) → first_no_from p t xs ≡ position_from (λ x. not (t x)) p xs
unfolding first_no_from
first_from t p [] = refl
first_from t p (x ∷ xs) = by_test (t x) (first_from t (p + 1) xs)
  where
    by_test : (b : Bool) → first_no_from (p + 1) t xs ≡ position_from (λ x. not (t x)) (p + 1) xs → cond b (first_no_from (p + 1) t xs) (Some p) ≡ cond (not b) (Some p) (position_from (λ x. not (t x)) (p + 1) xs)
    by_test true ih = ih
    by_test false ih = refl

pub first_no_is : {A : Type 0} (t : A → Bool) (xs : List A) (o : Option ℕ) → o ≡ position (λ x. not (t x)) xs → option_map (λ k. k + 1) o ≡ first_no t xs
first_no_is t xs o e = ap (option_map (λ k. k + 1)) (e ∙ position_from-zero (λ x. not (t x)) xs) ∙ shifted (λ x. not (t x)) 0 xs ∙ sym (first_from t 1 xs)

-- ---- over the terms of a text, padded

module _ (c : ℕ) (q t : Term → Bool) (same : (bs : List ℕ) → q (padded c (words c bs)) ≡ t (words c bs)) where
  from_padded : (p k : ℕ) (bs : List ℕ) → position_from q p (map (padded c) (terms c k bs)) ≡ position_from t p (terms c k bs)
  unfolding terms
  from_padded p zero bs = refl
  from_padded p (suc k) bs = ap₂ (λ (b : Bool) (o : Option ℕ). cond b (Some p) o) (same bs) (from_padded (p + 1) k (next c bs))

  pub position_padded : (k : ℕ) (bs : List ℕ) → position q (map (padded c) (terms c k bs)) ≡ position t (terms c k bs)
  position_padded k bs = position_from-zero q (map (padded c) (terms c k bs)) ∙ from_padded 0 k bs ∙ sym (position_from-zero t (terms c k bs))

-- ---- the exponents of a term

words_length : (c : ℕ) (bs : List ℕ) → length (words c bs) ≡ c
unfolding words
words_length c bs = by_reading (reading_line c bs) (reads_line_reading c bs)
  where
    by_reading : (r : Result (List ℕ) LineFault) → ReadsLine c bs r → length (results.result_unwrap_or r (replicate c 0)) ≡ c
    by_reading (Ok ws) h = h.0
    by_reading (Err f) h = length-replicate c 0

abbrev pub small : ℕ → Bool
small e = leb e 48

small_zeros : (k : ℕ) → list_all small (replicate k 0) ≡ true
small_zeros zero = refl
small_zeros (suc k) = small_zeros k

exponents_taken : (n : ℕ) (c : ℕ) (es : List ℕ) → n ≤ length es → exponents_stand n (c ∷ es) ≡ list_all small (take n es)
unfolding exponents_stand
exponents_taken zero c es h = refl
exponents_taken (suc n) c es h =
    ap (λ (b : Bool). b && leb (get_or es n 0) 48) (exponents_taken n c es (omega arith))
    ∙ sym (sym (ap (λ (j : ℕ). list_all small (take j es)) (add-one n)) ∙ list_all_more small es n 0 (omega arith))

exponents_are : (n k : ℕ) (t : Term) → length t ≡ n + 1 → list_all small (drop 1 (t ++ replicate k 0)) ≡ exponents_stand n t
exponents_are n k [] h = absurd (omega arith)
exponents_are n k (c ∷ es) h =
    list_all-append small es (replicate k 0)
    ∙ ap (λ (b : Bool). list_all small es && b) (small_zeros k)
    ∙ and-true (list_all small es)
    ∙ ap (list_all small) (sym (take_all n es (omega arith)))
    ∙ sym (exponents_taken n c es (omega arith))

pub exponents_padded : (n : ℕ) (bs : List ℕ) → not (list_all small (drop 1 (padded (n + 1) (words (n + 1) bs)))) ≡ not (exponents_stand n (words (n + 1) bs))
exponents_padded n bs = ap not (exponents_are n (5 - (n + 1)) (words (n + 1) bs) (words_length (n + 1) bs))
