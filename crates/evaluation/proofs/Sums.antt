-- The sums and products of an evaluation: one turn of a power, and a term's value over the words of the point beside the exponents.
use Rattle.std.proofs.Common.{◌≡◌, ℕ, zero, suc, ◌+◌, ◌<◌, ◌≤◌, List, [], ◌∷◌, length, get_or, take, drop, fold, sym, refl, ap, ◌∙◌, ap₂, add-one, arith, length-drop}
use Rattle.std.specs.List.{zip}
use Rattle.std.proofs.lemmas.List.{take_all, take_more}
use Rattle.std.proofs.lemmas.List.Sums.{fold-append}
use Rattle.std.proofs.lemmas.Grind.{get_or_after_one}
use Rattle.std.proofs.lemmas.Slice.Zip.{length-zip, get_or-zip}
use Rattle.field.specs.Meaning.{FieldMeaning}
use Rattle.evaluation.specs.Evaluation.{Term, power, term_value}

pub power_more : (m : FieldMeaning) (x i : ℕ) → power m x (i + 1) ≡ m.mul (power m x i) x
unfolding power
power_more m x i = rw add-one

-- the words of a term's array behind its first
pub behind_first : (t : Term) → length t ≡ 5 → take 4 (drop 1 t) ≡ drop 1 t
behind_first t h = take_all 4 (drop 1 t) (omega (arith, length-drop 1 t))

module _ (m : FieldMeaning) (x : List ℕ) (t : Term) where
  abbrev pub times : ℕ → ℕ × ℕ → ℕ
  times a p = m.mul a (power m p.0 p.1)

  abbrev pairs : List (ℕ × ℕ)
  pairs = zip x (drop 1 t)

  product_of : (i : ℕ) → i ≤ length pairs → fold times (get_or t 0 0) (take i pairs) ≡ term_value m i x t
  unfolding term_value
  product_of zero h = refl
  product_of (suc i) h =
      let long = length-zip x (drop 1 t) in
      let e : suc i ≡ i + 1 = omega arith in
      let behind : get_or (drop 1 t) i 0 ≡ get_or t (suc i) 0 = get_or_after_one t i 0 ∙ (let f : 1 + i ≡ suc i = omega arith in ap (λ k. get_or t k 0) f) in
      ap (λ k. fold times (get_or t 0 0) (take k pairs)) e
      ∙ ap (fold times (get_or t 0 0)) (take_more pairs i (0, 0) (omega arith))
      ∙ fold-append times (get_or t 0 0) (take i pairs) (get_or pairs i (0, 0) ∷ [])
      ∙ ap₂ times (product_of i (omega arith)) (get_or-zip x (drop 1 t) i (0, 0) (omega arith) (omega arith))
      ∙ ap (λ k. m.mul (term_value m i x t) (power m (get_or x i 0) k)) behind

  pub term_is : length x < length t → fold times (get_or t 0 0) pairs ≡ term_value m (length x) x t
  term_is h =
      let long = length-zip x (drop 1 t) in
      sym (ap (fold times (get_or t 0 0)) (take_all (length x) pairs (omega arith))) ∙ product_of (length x) (omega (arith, length-drop 1 t))
