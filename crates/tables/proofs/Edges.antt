-- The border of a staircase of at most 48 monomials in at most 4 variables has at most 192; lists in increasing order hold nothing twice.
use Rattle.std.proofs.Common.{◌≡◌, ℕ, zero, suc, ◌*◌, ◌<◌, ◌≤◌, Bool, true, false, cond, not, List, [], ◌∷◌, map, length, get_or, filter, sym, refl, subst, arith, length-append}
use native.Mathlib.Decide.{dec_lt}
use lib.ListN.{length-map}
use Rattle.std.specs.List.{AllByRecursion}
use Rattle.std.proofs.ByRecursion.{All-get_or}
use Rattle.std.proofs.lemmas.List.Filters.{length-filter_both}
use Rattle.algebra.specs.Lists.{any, joined}
use Rattle.algebra.specs.Monomial.{Mono, one, times, var, equal}
use Rattle.algebra.specs.Order.{Small, Ordered, Rising}
use Rattle.algebra.specs.Staircase.{insert, sorted}
use Rattle.algebra.specs.Border.{border}
use Rattle.algebra.proofs.Sorting as sorting
use Rattle.staircase.specs.Steps.{OnceEach}

module _ (n : ℕ) (before : Mono n → Mono n → Bool) where
  insert_length : (m : Mono n) (l : List (Mono n)) → length (insert n before m l) ≤ suc (length l)
  insert_length m [] = omega arith
  insert_length m (a ∷ l) = go (before m a) (equal n m a) (insert_length m l)
    where
      go : (b e : Bool) → length (insert n before m l) ≤ suc (length l) → length (cond b (m ∷ a ∷ l) (cond e (a ∷ l) (a ∷ insert n before m l))) ≤ suc (suc (length l))
      go true e h = omega arith
      go false true h = omega arith
      go false false h = omega arith

  sorted_length : (l : List (Mono n)) → length (sorted n before l) ≤ length l
  sorted_length [] = omega arith
  sorted_length (a ∷ l) = omega (arith, insert_length a (sorted n before l), sorted_length l)

  joined_length : {A : Type 0} (c : ℕ) (f : ℕ → List A) → ((i : ℕ) → length (f i) ≤ 48) → length (joined c f) ≤ c * 48
  joined_length zero f h = omega arith
  joined_length (suc c) f h = omega (arith, length-append (f 0) (joined c (λ i. f (suc i))), h 0, joined_length c (λ i. f (suc i)) (λ i. h (suc i)))

  pub border_length : (S : List (Mono n)) → n ≤ 4 → length S ≤ 48 → length (border n before S) ≤ 192
  border_length S few short =
      let products : List (Mono n) = joined n (λ k. map (times n (var n k)) S) in
      let outside : Mono n → Bool = λ m. not (any (equal n m) S) in
      omega (arith, sorted_length (filter outside products), length-filter_both outside (λ m. not (outside m)) (λ _. refl) products, joined_length n (λ k. map (times n (var n k)) S) (λ k. omega (arith, length-map S (times n (var n k)))))

  pub rising_once : Ordered n before → (l : List (Mono n)) → AllByRecursion (Small n) l → Rising n before l → OnceEach n l
  rising_once O l small r i j hi hj e = go (dec_lt i j) (dec_lt j i)
    where
      never : (a b : ℕ) → a < b → b < length l → get_or l a (one n) ≡ get_or l b (one n) → ⊥
      never a b h hb q =
          let s = All-get_or (Small n) l b (one n) hb small in
          let x = subst (λ (y : Mono n). before y (get_or l b (one n)) ≡ true) q (sorting.rising_at n before l r a b h hb) in
          O.not_both _ _ s s x x

      go : Dec (i < j) → Dec (j < i) → i ≡ j
      go (yes p) q = absurd (never i j p hj e)
      go (no p) (yes q) = absurd (never j i q hi (sym e))
      go (no p) (no q) = omega arith
