-- Increasing lists: what sorting and filtering keep, that a sorted list is rising, and what a box holds.
use Rattle.std.proofs.Common.{◌≡◌, ℕ, zero, suc, ◌<◌, Bool, true, false, cond, ◌⊎◌, List, [], ◌∷◌, map, length, get_or, filter, sym, refl, ap, ◌∙◌, subst, ap₂, inl, inr, arith}
use mathlib.Core.Bool.{false≢true}
use Rattle.std.specs.List.{AllByRecursion}
use Rattle.std.proofs.ByRecursion.{All-get_or, All-weaker}
use Rattle.std.proofs.lemmas.List.{length-map, get_or-map}
use Rattle.std.proofs.lemmas.Bool.{cases_Bool}
use Rattle.algebra.specs.Lists.{any}
use Rattle.algebra.specs.Monomial.{Mono, one, equal, exponent}
use Rattle.algebra.specs.Order.{Small, Ordered, Rising}
use Rattle.algebra.specs.Staircase.{box, insert, sorted}
use Rattle.algebra.proofs.Lists as lists
use Rattle.algebra.proofs.Monomials.{equal_refl, equal_eq, Has, has_among}

pub rising_at : (n : ℕ) (before : Mono n → Mono n → Bool) (l : List (Mono n)) → Rising n before l → (i j : ℕ) → i < j → j < length l → before (get_or l i (one n)) (get_or l j (one n)) ≡ true
rising_at n before [] r i j p q = absurd (omega arith)
rising_at n before (a ∷ l) r i zero p q = absurd (omega arith)
rising_at n before (a ∷ l) r zero (suc j) p q = All-get_or (λ b. before a b ≡ true) l j (one n) (omega arith) r.0
rising_at n before (a ∷ l) r (suc i) (suc j) p q = rising_at n before l r.1 i j (omega arith) (omega arith)

module _ (n : ℕ) where
  pub has_all : (P : Mono n → Type 0) (l : List (Mono n)) → AllByRecursion P l → (t : Mono n) → Has n t l → P t
  has_all P l h t q = let x = has_among n t l q in subst P x.2 (All-get_or P l x.0 (one n) x.1 h)

  pub has_map : (g : Mono n → Mono n) (l : List (Mono n)) (i : ℕ) → i < length l → Has n (g (get_or l i (one n))) (map g l)
  has_map g l i q = lists.any_at _ (one n) (map g l) i (subst (λ (m : ℕ). i < m) (sym (length-map l g)) q) (subst (λ (x : Mono n). equal n (g (get_or l i (one n))) x ≡ true) (sym (get_or-map g l i (one n) (one n) q)) (equal_refl n _))

  pub has_kept : (p : Mono n → Bool) (l : List (Mono n)) (t : Mono n) → Has n t l → p t ≡ true → Has n t (filter p l)
  has_kept p [] t h e = h
  has_kept p (a ∷ l) t h e = go (equal n t a) refl h (p a) refl (λ q. has_kept p l t q e)
    where
      go : (b : Bool) → equal n t a ≡ b → cond b true (any (equal n t) l) ≡ true → (c : Bool) → p a ≡ c → (Has n t l → Has n t (filter p l)) → Has n t (cond c (a ∷ filter p l) (filter p l))
      go true q h true r ih = ap (λ b. cond b true (any (equal n t) (filter p l))) q
      go true q h false r ih = absurd (false≢true (sym r ∙ ap p (sym (equal_eq n t a q)) ∙ e))
      go false q h true r ih = ap (λ b. cond b true (any (equal n t) (filter p l))) q ∙ ih h
      go false q h false r ih = ih h

  here : (a : Mono n) (l : List (Mono n)) → Has n a (a ∷ l)
  here a l = ap (λ b. cond b true (any (equal n a) l)) (equal_refl n a)

  later : (t a : Mono n) (l : List (Mono n)) → Has n t l → Has n t (a ∷ l)
  later t a l h = go (equal n t a)
    where
      go : (b : Bool) → cond b true (any (equal n t) l) ≡ true
      go true = refl
      go false = h

  split : (t a : Mono n) (l : List (Mono n)) → Has n t (a ∷ l) → (t ≡ a) ⊎ Has n t l
  split t a l h = go (equal n t a) refl h
    where
      go : (b : Bool) → equal n t a ≡ b → cond b true (any (equal n t) l) ≡ true → (t ≡ a) ⊎ Has n t l
      go true e h = inl (equal_eq n t a e)
      go false e h = inr h

  module _ (before : Mono n → Mono n → Bool) where
    insert_has : (m : Mono n) (l : List (Mono n)) (t : Mono n) → any (equal n t) (insert n before m l) ≡ cond (equal n t m) true (any (equal n t) l)
    insert_has m [] t = refl
    insert_has m (a ∷ l) t = go (before m a) (equal n m a) refl (insert_has m l t)
      where
        both : (b c : Bool) (x : Bool) → cond b true (cond c true x) ≡ cond c true (cond b true x)
        both true true x = refl
        both true false x = refl
        both false true x = refl
        both false false x = refl

        twice : (b : Bool) (x : Bool) → cond b true x ≡ cond b true (cond b true x)
        twice true x = refl
        twice false x = refl

        go : (b c : Bool) → equal n m a ≡ c → any (equal n t) (insert n before m l) ≡ cond (equal n t m) true (any (equal n t) l) → any (equal n t) (cond b (m ∷ a ∷ l) (cond c (a ∷ l) (a ∷ insert n before m l))) ≡ cond (equal n t m) true (cond (equal n t a) true (any (equal n t) l))
        go true c e ih = refl
        go false true e ih = twice (equal n t a) (any (equal n t) l) ∙ ap (λ (x : Mono n). cond (equal n t x) true (cond (equal n t a) true (any (equal n t) l))) (sym (equal_eq n m a e))
        go false false e ih = ap (λ x. cond (equal n t a) true x) ih ∙ both (equal n t a) (equal n t m) _

    pub sorted_has : (l : List (Mono n)) (t : Mono n) → any (equal n t) (sorted n before l) ≡ any (equal n t) l
    sorted_has [] t = refl
    sorted_has (a ∷ l) t = insert_has a (sorted n before l) t ∙ ap (λ x. cond (equal n t a) true x) (sorted_has l t)

    all_insert : (P : Mono n → Type 0) (m : Mono n) (l : List (Mono n)) → P m → AllByRecursion P l → AllByRecursion P (insert n before m l)
    all_insert P m [] x h = (x, tt)
    all_insert P m (a ∷ l) x h = go (before m a) (equal n m a) (all_insert P m l x h.1)
      where
        go : (b c : Bool) → AllByRecursion P (insert n before m l) → AllByRecursion P (cond b (m ∷ a ∷ l) (cond c (a ∷ l) (a ∷ insert n before m l)))
        go true c ih = (x, h)
        go false true ih = h
        go false false ih = (h.0, ih)

    pub all_sorted : (P : Mono n → Type 0) (l : List (Mono n)) → AllByRecursion P l → AllByRecursion P (sorted n before l)
    all_sorted P [] h = tt
    all_sorted P (a ∷ l) h = all_insert P a (sorted n before l) h.0 (all_sorted P l h.1)

    module _ (O : Ordered n before) where
      insert-rising : (m : Mono n) (l : List (Mono n)) → Small n m → AllByRecursion (Small n) l → Rising n before l → Rising n before (insert n before m l)
      insert-rising m [] x h r = (tt, tt)
      insert-rising m (a ∷ l) x h r = go (before m a) refl (equal n m a) refl (insert-rising m l x h.1 r.1)
        where
          go : (b : Bool) → before m a ≡ b → (c : Bool) → equal n m a ≡ c → Rising n before (insert n before m l) → Rising n before (cond b (m ∷ a ∷ l) (cond c (a ∷ l) (a ∷ insert n before m l)))
          go true p c q ih = ((p, All-weaker _ _ (λ y z. O.chain m a y x h.0 z.0 p z.1) l (lists.all_both (Small n) (λ b. before a b ≡ true) l h.1 r.0)), r)
          go false p true q ih = r
          go false p false q ih = (all_insert (λ b. before a b ≡ true) m l (O.either m a x h.0 p q) r.0, ih)

      pub sorted-rising : (l : List (Mono n)) → AllByRecursion (Small n) l → Rising n before (sorted n before l)
      sorted-rising [] h = tt
      sorted-rising (a ∷ l) h = insert-rising a (sorted n before l) h.0 (all_sorted (Small n) l h.1) (sorted-rising l h.1)

      -- what stands before the first of a rising list is not in it
      pub before-gone : (t : Mono n) (ts : List (Mono n)) → Rising n before (t ∷ ts) → Small n t → (u : Mono n) → Small n u → before u t ≡ true → any (equal n u) (t ∷ ts) ≡ false
      before-gone t ts r st u su l = go (cases_Bool (any (equal n u) (t ∷ ts)))
        where
          at : (b : Bool) → equal n u t ≡ b → cond b true (any (equal n u) ts) ≡ true → ⊥
          at true z y = let w : before t t ≡ true = subst (λ (m : Mono n). before m t ≡ true) (equal_eq n u t z) l in O.not_both t t st st w w
          at false z y = O.not_both u t su st l (has_all (λ b. before t b ≡ true) ts r.0 u y)

          go : (any (equal n u) (t ∷ ts) ≡ true) ⊎ (any (equal n u) (t ∷ ts) ≡ false) → any (equal n u) (t ∷ ts) ≡ false
          go (inl y) = absurd (at (equal n u t) refl y)
          go (inr y) = y

      -- nor is the first among the rest
      pub self-gone : (t : Mono n) (ts : List (Mono n)) → Rising n before (t ∷ ts) → Small n t → any (equal n t) ts ≡ false
      self-gone t ts r st = go (cases_Bool (any (equal n t) ts))
        where
          go : (any (equal n t) ts ≡ true) ⊎ (any (equal n t) ts ≡ false) → any (equal n t) ts ≡ false
          go (inl y) = let w = has_all (λ b. before t b ≡ true) ts r.0 t y in absurd (O.not_both t t st st w w)
          go (inr y) = y

      tail-has : (a b : Mono n) (l m : List (Mono n)) → Rising n before (a ∷ l) → Small n a → a ≡ b → (t : Mono n) → Has n t l → Has n t (b ∷ m) → Has n t m
      tail-has a b l m r sa e t h x = go (split t b m x)
        where
          go : (t ≡ b) ⊎ Has n t m → Has n t m
          go (inl z) = absurd (false≢true (sym (self-gone a l r sa) ∙ subst (λ (u : Mono n). Has n u l) (z ∙ sym e) h))
          go (inr y) = y

      -- two rising lists with the same members are equal
      pub rising-equal : (l m : List (Mono n)) → AllByRecursion (Small n) l → AllByRecursion (Small n) m → Rising n before l → Rising n before m → ((t : Mono n) → Has n t l → Has n t m) → ((t : Mono n) → Has n t m → Has n t l) → l ≡ m
      rising-equal [] [] sl sm rl rm there back = refl
      rising-equal [] (b ∷ m) sl sm rl rm there back = absurd (false≢true (back b (here b m)))
      rising-equal (a ∷ l) [] sl sm rl rm there back = absurd (false≢true (there a (here a l)))
      rising-equal (a ∷ l) (b ∷ m) sl sm rl rm there back = ap₂ (λ (x : Mono n) (y : List (Mono n)). x ∷ y) same (rising-equal l m sl.1 sm.1 rl.1 rm.1 (λ t h. tail-has a b l m rl sl.0 same t h (there t (later t a l h))) (λ t h. tail-has b a m l rm sm.0 (sym same) t h (back t (later t b m h))))
        where
          first : (Has n a m → before b a ≡ true) → (Has n b l → before a b ≡ true) → (a ≡ b) ⊎ Has n a m → (b ≡ a) ⊎ Has n b l → a ≡ b
          first f g (inl e) y = e
          first f g (inr x) (inl e) = sym e
          first f g (inr x) (inr y) = absurd (O.not_both a b sl.0 sm.0 (g y) (f x))

          same : a ≡ b
          same = first (has_all (λ t. before b t ≡ true) m rm.0 a) (has_all (λ t. before a t ≡ true) l rl.0 b) (split a b m (there a (here a l))) (split b a l (back b (here b m)))

pub box_has : (n : ℕ) (b : ℕ → ℕ) (m : Mono n) → ((k : ℕ) → k < n → exponent n m k < b k) → Has n m (box n b)
box_has zero b m h = refl
box_has (suc n) b m h =
    let x = has_among n m.1 (box n (λ k. b (suc k))) (box_has n (λ k. b (suc k)) m.1 (λ k l. h (suc k) (omega arith))) in
    lists.any_joined (equal (suc n) m) (b 0) _ m.0 (h 0 (omega arith))
    (lists.any_at _ m (map (λ (t : Mono n). (m.0, t)) (box n (λ k. b (suc k)))) x.0 (subst (λ (q : ℕ). x.0 < q) (sym (length-map (box n (λ k. b (suc k))) (λ (t : Mono n). (m.0, t)))) x.1)
    (subst (λ (y : Mono (suc n)). equal (suc n) m y ≡ true) (sym (get_or-map (λ (t : Mono n). (m.0, t)) (box n (λ k. b (suc k))) x.0 (one n) m x.1 ∙ ap (λ (t : Mono n). (m.0, t)) x.2)) (equal_refl (suc n) m)))
