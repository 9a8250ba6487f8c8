-- Distinct places: where they fill the room, each place is among them.
use Rattle.std.proofs.Common.{◌≡◌, ℕ, ◌<◌, Bool, true, false, ◌⊎◌, inl, inr, eqb, List, [], ◌∷◌, ◌++◌, map, length, get_or, sym, refl, ◌∙◌, arith}
use Rattle.std.specs.Cmp.{nat_eq_equiv}
use Rattle.std.specs.List.{IsDistinct, list_any, range_with_len}
use Rattle.std.proofs.lemmas.Bool.{eqb-true, ne_eqb, or_cases}
use Rattle.std.proofs.lemmas.List.{length_push}
use Rattle.std.proofs.lemmas.List.Folds.{Any-from_list_any, list_any-append}
use Rattle.std.proofs.lemmas.List.FromFn.{length-map-range_with_len, get_or-map-range_with_len}
use Rattle.std.proofs.lemmas.Map.Keys.{IsDistinct-push, IsDistinct-from_apart}
use Rattle.std.proofs.lemmas.Map.Steps.{length-le_from_distinct_below}

abbrev pub Distinct : ℕ → (ℕ → ℕ) → Type 0
Distinct n p = (i l : ℕ) → i < n → l < n → p i ≡ p l → i ≡ l

-- where distinct places fill the room, each place is among them
pub filled : (d k : ℕ) (p : ℕ → ℕ) → ((i : ℕ) → i < d → p i < d) → Distinct d p → k < d → (i : ℕ) × (i < d) × (p i ≡ k)
filled d k p below once h = split (list_any (eqb k) xs) refl
  where
    xs : List ℕ
    xs = map p (range_with_len 0 d)

    long : length xs ≡ d
    long = length-map-range_with_len p 0 d

    at : (i e : ℕ) → i < d → get_or xs i e ≡ p i
    at i e l = get_or-map-range_with_len p 0 d i i e l (omega arith)

    apart : IsDistinct eqb xs
    apart = IsDistinct-from_apart eqb xs (λ i j e a b. ne_eqb _ _ (λ q. let same = once i j (omega (arith, long)) (omega (arith, long)) (sym (at i e (omega (arith, long))) ∙ q ∙ at j e (omega (arith, long))) in omega arith))

    among : (q : ℕ) → list_any (eqb q) xs ≡ true → (i : ℕ) × (i < d) × (p i ≡ q)
    among q t = let (i, x, l, e, s) = Any-from_list_any (eqb q) xs t in (i, omega (arith, long), sym (at i x (omega (arith, long))) ∙ e ∙ sym (eqb-true q x s))

    small : (q : ℕ) → list_any (eqb q) (xs ++ k ∷ []) ≡ true → q < d
    small q t = listed (or_cases (list_any (eqb q) xs) (list_any (eqb q) (k ∷ [])) (sym (list_any-append (eqb q) xs (k ∷ [])) ∙ t))
      where
        new : (eqb q k ≡ true) ⊎ (false ≡ true) → q < d
        new (inl e) = omega (arith, eqb-true q k e)
        new (inr e) = absurd (cc)

        listed : (list_any (eqb q) xs ≡ true) ⊎ (list_any (eqb q) (k ∷ []) ≡ true) → q < d
        listed (inl e) = let i = among q e in omega (arith, i.2, below i.0 i.1)
        listed (inr e) = new (or_cases (eqb q k) false e)

    split : (b : Bool) → list_any (eqb k) xs ≡ b → (i : ℕ) × (i < d) × (p i ≡ k)
    split true e = among k e
    split false e = absurd (omega (arith, length-le_from_distinct_below (xs ++ k ∷ []) d (IsDistinct-push nat_eq_equiv xs k apart e) small, length_push xs k, long))
