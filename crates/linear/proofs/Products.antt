-- The sum of the products of words taken pair by pair, as a loop adds it up.
--   paired      over two lists side by side it is their dot product
--   backwards   and over words and words read backwards the sum that a recurrence asks for
use Rattle.std.proofs.Common.{◌≡◌, ℕ, suc, ◌+◌, ◌-◌, ◌<◌, ◌≤◌, min, List, [], ◌∷◌, Option, Bor, length, get_or, fold, take, reverse, sym, ap, ◌∙◌, ap₂, arith, get_or-take}
use Rattle.std.proofs.lemmas.List.{length-take-le, length-reverse, get_or-reverse}
use Rattle.std.proofs.lemmas.List.Folds.{fold-map}
use Rattle.std.proofs.lemmas.Iterator.{YieldsList, items_from_drains}
use Rattle.std.specs.Iterator.{Drains}
use Rattle.std.specs.List.{zip}
use Rattle.field.specs.Meaning.{FieldMeaning}
use Rattle.linear.specs.Words.{sum_words, dot_words}
use Rattle.linear.proofs.Reading

module _ (m : FieldMeaning) where
  -- of the pairs after the first k terms of a sum
  zipped : (xs ys : List ℕ) (k : ℕ) (f : ℕ → ℕ) → ((i : ℕ) → i < min (length xs) (length ys) → m.mul (get_or xs i 0) (get_or ys i 0) ≡ f (k + i))
      → fold (λ s (p : ℕ × ℕ). m.add s (m.mul p.0 p.1)) (sum_words m k f) (zip xs ys) ≡ sum_words m (k + min (length xs) (length ys)) f
  zipped [] ys k f e = ap (λ n. sum_words m n f) (omega arith)
  zipped (x ∷ xs) [] k f e = ap (λ n. sum_words m n f) (omega arith)
  zipped (x ∷ xs) (y ∷ ys) k f e =
      ap (λ s. fold (λ s (p : ℕ × ℕ). m.add s (m.mul p.0 p.1)) s (zip xs ys)) (ap (m.add (sum_words m k f)) (e 0 (omega arith) ∙ ap f (omega arith)))
      ∙ zipped xs ys (suc k) f (λ i l. e (suc i) (omega arith) ∙ ap f (omega arith))
      ∙ ap (λ n. sum_words m n f) (omega arith)

  pub paired : {S : Type 0} {steps : S → Option (Bor ℕ × Bor ℕ) → S → Type 0} {s : S} {w : ℕ} (xs ys : List ℕ) → (ps : List (Bor ℕ × Bor ℕ)) × Drains steps s ps × (w ≡ fold (λ a p. m.add a (m.mul p.0.now p.1.now)) m.zero ps)
      → YieldsList steps (λ p. (p.0.now, p.1.now)) s (zip xs ys) → w ≡ dot_words m xs ys
  paired xs ys (ps, (u, (t, given, ends)), is) road =
      is
      ∙ sym (fold-map (λ a (p : ℕ × ℕ). m.add a (m.mul p.0 p.1)) (λ (p : Bor ℕ × Bor ℕ). (p.0.now, p.1.now)) m.zero ps)
      ∙ ap (fold (λ a (p : ℕ × ℕ). m.add a (m.mul p.0 p.1)) m.zero) (items_from_drains ps (t, given, λ _. (u, ends)) road)
      ∙ zipped xs ys 0 (λ i. m.mul (get_or xs i 0) (get_or ys i 0)) (λ i l. ap (λ j. m.mul (get_or xs j 0) (get_or ys j 0)) (omega arith))
      ∙ ap (λ n. sum_words m n (λ i. m.mul (get_or xs i 0) (get_or ys i 0))) (omega arith)

  module _ (xs ys : List ℕ) (l n : ℕ) (within : l < length xs) (back : n < length ys) (reaches : l ≤ n) where
    front : length (take (l + 1) xs) ≡ l + 1
    front = length-take-le (l + 1) xs (omega arith)

    end : length (take (n + 1) ys) ≡ n + 1
    end = length-take-le (n + 1) ys (omega arith)

    pub backwards : dot_words m (take (l + 1) xs) (reverse (take (n + 1) ys)) ≡ sum_words m (l + 1) (λ i. m.mul (get_or xs i 0) (get_or ys (n - i) 0))
    backwards =
        ap (λ k. sum_words m k (λ i. m.mul (get_or (take (l + 1) xs) i 0) (get_or (reverse (take (n + 1) ys)) i 0))) (omega (arith, front, end, length-reverse (take (n + 1) ys)))
        ∙ Reading.sum_same m (l + 1) _ _ (λ i h. ap₂ m.mul (get_or-take (l + 1) xs i 0 h)
        (get_or-reverse (take (n + 1) ys) i 0 (omega (arith, end)) ∙ ap (λ j. get_or (take (n + 1) ys) j 0) (let a = end in omega arith) ∙ get_or-take (n + 1) ys (n - i) 0 (omega arith)))
