-- The lines of a text taken once more: words with zeros behind them, and the terms that they hold.
-- Zeros behind the words change no question of a term and no value.
use Rattle.std.proofs.Common.{◌≡◌, ℕ, zero, suc, ◌+◌, ◌-◌, ◌*◌, ◌<◌, ◌≤◌, min, List, [], ◌∷◌, ◌++◌, map, length, get_or, take, drop, replicate, sym, refl, ap, ◌∙◌, ap₂, ⊎_elim, arith, drop-drop}
use lib.ListN.{length-replicate}
use Rattle.std.specs.Result as results
use Rattle.std.proofs.lemmas.List.{take-replicate, drop-replicate, drop_all}
use Rattle.std.proofs.lemmas.Bool.{cases_lt}
use Rattle.field.specs.Meaning.{FieldMeaning}
use Rattle.column.specs.Line.{line_length, reading_line, taken_words}
use Rattle.evaluation.specs.Basis.{words, next, terms, after_lines}
use Rattle.evaluation.specs.Answer.{coefficient_stands}
use Rattle.evaluation.specs.Evaluation.{Term, power, term_value}
use Rattle.evaluation.specs.Padded.{padded}

index_zeros : (k i : ℕ) → get_or {A = ℕ} (replicate k 0) i 0 ≡ 0
index_zeros zero i = refl
index_zeros (suc k) zero = refl
index_zeros (suc k) (suc i) = index_zeros k i

pub index_behind : (ws : List ℕ) (k i : ℕ) → get_or (ws ++ replicate k 0) i 0 ≡ get_or ws i 0
index_behind [] k i = index_zeros k i
index_behind (w ∷ ws) k zero = refl
index_behind (w ∷ ws) k (suc i) = index_behind ws k i

pub coefficient_padded : (m : FieldMeaning) (c : ℕ) (t : Term) → coefficient_stands m (padded c t) ≡ coefficient_stands m t
coefficient_padded m c t = ap (λ (w : ℕ). coefficient_stands m (w ∷ [])) (index_behind t (5 - c) 0)

pub value_padded : (m : FieldMeaning) (n c : ℕ) (x : List ℕ) (t : Term) → term_value m n x (padded c t) ≡ term_value m n x t
unfolding term_value
value_padded m zero c x t = index_behind t (5 - c) 0
value_padded m (suc n) c x t = ap₂ (λ (v e : ℕ). m.mul v (power m (get_or x n 0) e)) (value_padded m n c x t) (index_behind t (5 - c) (suc n))

-- a line read over zeros gives its words, or zeros
pub zeros_then_words : (text zeros new : List ℕ) (at c : ℕ) → zeros ≡ replicate c 0 → new ≡ taken_words text at zeros → new ≡ words c (drop at text)
unfolding words
zeros_then_words text zeros new at c z k =
    let same : length zeros ≡ c = ap length z ∙ length-replicate c 0 in
    k ∙ ap (λ (n : ℕ). results.result_unwrap_or (reading_line n (drop at text)) zeros) same ∙ ap (results.result_unwrap_or (reading_line c (drop at text))) z

pub zeros : (c : ℕ) → c ≤ 5 → (take {A = ℕ} c (0 ∷ 0 ∷ 0 ∷ 0 ∷ 0 ∷ []) ≡ replicate {A = ℕ} c 0) × (drop {A = ℕ} c (0 ∷ 0 ∷ 0 ∷ 0 ∷ 0 ∷ []) ≡ replicate (5 - c) 0)
zeros c h = (take-replicate c 5 0 h, drop-replicate c 5 0)

-- what follows so many lines lies so many bytes on
pub lines_length : (c k : ℕ) (bs : List ℕ) → after_lines c k bs ≡ drop (k * line_length c) bs
unfolding after_lines next
lines_length c zero bs = let z : 0 * line_length c ≡ 0 = omega arith in sym (ap (λ (j : ℕ). drop j bs) z)
lines_length c (suc k) bs = lines_length c k (drop (line_length c) bs) ∙ drop-drop (k * line_length c) (line_length c) bs ∙ (let n : line_length c + k * line_length c ≡ suc k * line_length c = omega arith in ap (λ (j : ℕ). drop j bs) n)

pub lines_from_byte : (c k : ℕ) (text : List ℕ) (at r : ℕ) → length text < 18446744073709551616 → r ≡ min (at + k * (11 * c + 1)) 18446744073709551615 → drop r text ≡ after_lines c k (drop at text)
lines_from_byte c k text at r h e =
    let all : after_lines c k (drop at text) ≡ drop (at + k * line_length c) text = lines_length c k (drop at text) ∙ drop-drop (k * line_length c) at text in
    ⊎_elim
    (λ (l : at + k * line_length c < 18446744073709551616). let m : r ≡ at + k * line_length c = omega arith in ap (λ (j : ℕ). drop j text) m ∙ sym all)
    (λ (l : 18446744073709551616 ≤ at + k * line_length c). drop_all r text (omega arith) ∙ sym (drop_all (at + k * line_length c) text (omega arith)) ∙ sym all)
    (cases_lt (at + k * line_length c) 18446744073709551616)

-- the terms that one line fewer holds
pub terms_next : (c k l : ℕ) (bs rest ws : List ℕ) → k ≡ suc l → rest ≡ after_lines c 1 bs → ws ≡ padded c (words c bs) → map (padded c) (terms c k bs) ≡ ws ∷ map (padded c) (terms c l rest)
unfolding terms after_lines
terms_next c k l bs rest ws e f h =
    ap (λ (j : ℕ). map (padded c) (terms c j bs)) e
    ∙ ap₂ (λ (w : List ℕ) (xs : List ℕ). w ∷ map (padded c) (terms c l xs)) (sym h) (sym f)

pub terms_over : (c k : ℕ) (bs : List ℕ) → k ≡ 0 → map (padded c) (terms c k bs) ≡ []
unfolding terms
terms_over c k bs e = ap (λ (j : ℕ). map (padded c) (terms c j bs)) e
