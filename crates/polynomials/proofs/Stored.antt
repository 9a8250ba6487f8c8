-- Polynomials one after the other in one list of terms: how many terms they have, and what one more leaves.
use Rattle.std.proofs.Common.{◌≡◌, ℕ, zero, suc, ◌+◌, ◌-◌, ◌<◌, ◌≤◌, ◌≢◌, List, [], ◌∷◌, ◌++◌, map, length, get_or, drop, set, sym, refl, ap, ◌∙◌, subst, ap₂, add-one, arith, length-drop, rules}
use native.Mathlib.Decide.{ℕ_discrete}
use borrow.Rule.Slice.PartMut.{put_mid}
use lib.ListN.{length-map}
use Rattle.std.proofs.lemmas.List.{length-take-le, get_or-set_same, get_or-set_other, places}
use Rattle.std.proofs.lemmas.Slice.{between_is, take-put_mid_below, between-put_mid}
use Rattle.algebra.specs.Lists.{build}
use Rattle.runs.specs.Job as job
use Rattle.runs.specs.Job.{terms_held}
use Rattle.staircase.proofs.Opposites.{build_same}
use Rattle.staircase.specs.declared.rules.Term.{Term}
use Rattle.runs.proofs.Outputs.{length_build}
use Rattle.polynomials.specs.declared.store.Polynomials.{Polynomials}
use Rattle.polynomials.specs.Held.{terms_of, part, entries, held}

module _ {A : Type 0} where
  pub build_more : (n : ℕ) (f : ℕ → A) → build (suc n) f ≡ build n f ++ (f n ∷ [])
  build_more zero f = refl
  build_more (suc n) f = ap (λ (l : List A). f 0 ∷ l) (build_more n (λ i. f (suc i)))

  length_part : (xs : List A) (a b : ℕ) → b ≤ length xs → length (part xs a b) ≡ b - a
  length_part xs a b h = length-take-le (b - a) (drop a xs) (omega (arith, length-drop a xs))

  pub length_put : (a k : ℕ) (xs ys : List A) → a + k ≤ length xs → length ys ≡ k → length (put_mid a k xs ys) ≡ length xs
  length_put a k xs ys h e = search (rules, places)

pub length_terms : (ts : List Term) → length (terms_of ts) ≡ length ts
length_terms ts = length-map {B = job.Term} ts (λ (t : Term). (t.coefficient, t.monomial))

-- the terms of parts that follow on one another
pub terms_between : (xs : List Term) (c : ℕ) (s : ℕ → ℕ) → ((i : ℕ) → i < c → s i ≤ s (suc i)) → ((i : ℕ) → i ≤ c → s i ≤ length xs)
    → s 0 + terms_held (map terms_of (build c (λ i. part xs (s i) (s (suc i))))) ≡ s c
terms_between xs zero s up in' = omega arith
terms_between xs (suc c) s up in' =
    let p = part xs (s 0) (s 1) in
    omega (arith, up 0 (omega arith), length_terms p, length_part xs (s 0) (s 1) (in' 1 (omega arith)), terms_between xs c (λ i. s (suc i)) (λ i l. up (suc i) (omega arith)) (λ i l. in' (suc i) (omega arith)))

module _ (starts : List ℕ) (xs : List Term) (c : ℕ) (room : c + 1 < length starts) (end : ℕ) (ts : List Term) where
  abbrev start : ℕ
  start = get_or starts c 0

  abbrev after : List ℕ
  after = set starts (c + 1) end

  pub start_before : (i : ℕ) → i ≤ c → get_or after i 0 ≡ get_or starts i 0
  start_before i l = let d : i ≢ c + 1 = omega arith in get_or-set_other starts (c + 1) i end 0 d

  pub start_last : get_or after (c + 1) 0 ≡ end
  start_last = get_or-set_same starts (c + 1) end 0 room

  module _ (up : (i : ℕ) → i < c → get_or starts i 0 ≤ get_or starts (suc i) 0) (in' : (i : ℕ) → i ≤ c → get_or starts i 0 ≤ length xs) (k : ℕ) where
    up_to : (d : ℕ) (i : ℕ) → i + d ≡ c → get_or starts i 0 ≤ start
    up_to zero i e = let q : i ≡ c = omega arith in subst (λ (x : ℕ). get_or starts x 0 ≤ start) (sym q) (omega arith)
    up_to (suc d) i e = omega (arith, up i (omega arith), up_to d (suc i) (omega arith))

    part_kept : (a b : ℕ) → b ≤ start → part (put_mid start k xs ts) a b ≡ part xs a b
    part_kept a b l =
        between_is (put_mid start k xs ts) a b
        ∙ ap (drop a) (take-put_mid_below start k xs ts b l (in' c (omega arith)))
        ∙ sym (between_is xs a b)

    pub entries_more : length ts ≡ end - start
        → build (c + 1) (λ i. part (put_mid start k xs ts) (get_or after i 0) (get_or after (suc i) 0)) ≡ build c (λ i. part xs (get_or starts i 0) (get_or starts (suc i) 0)) ++ (ts ∷ [])
    entries_more len =
        let f : ℕ → List Term = λ i. part (put_mid start k xs ts) (get_or after i 0) (get_or after (suc i) 0) in
        let g : ℕ → List Term = λ i. part xs (get_or starts i 0) (get_or starts (suc i) 0) in
        let last : f c ≡ ts =
        ap₂ (part (put_mid start k xs ts)) (start_before c (omega arith)) (ap (λ (x : ℕ). get_or after x 0) (sym (add-one c)) ∙ start_last)
        ∙ between-put_mid start k xs ts end (in' c (omega arith)) len in
        let first : build c f ≡ build c g = build_same c f g (λ i l.
        ap₂ (part (put_mid start k xs ts)) (start_before i (omega arith)) (start_before (suc i) (omega arith))
        ∙ part_kept (get_or starts i 0) (get_or starts (suc i) 0) (up_to (c - suc i) (suc i) (omega arith))) in
        ap (λ (x : ℕ). build x f) (add-one c) ∙ build_more c f ∙ ap₂ (λ (l : List (List Term)) (t : List Term). l ++ (t ∷ [])) first last

  pub rises_more : ((i : ℕ) → i < c → get_or starts i 0 ≤ get_or starts (suc i) 0) → start ≤ end → (i : ℕ) → i < c + 1 → get_or after i 0 ≤ get_or after (suc i) 0
  rises_more up le i l = go (ℕ_discrete i c)
    where
      go : Dec (i ≡ c) → get_or after i 0 ≤ get_or after (suc i) 0
      go (yes e) =
          let q : get_or after (suc i) 0 ≡ end = ap (λ (x : ℕ). get_or after (suc x) 0) e ∙ ap (λ (x : ℕ). get_or after x 0) (sym (add-one c)) ∙ start_last in
          omega (arith, q, start_before i (omega arith), ap (λ (x : ℕ). get_or starts x 0) e)
      go (no d) = omega (arith, start_before i (omega arith), start_before (suc i) (omega arith), up i (omega arith))

  pub within_more : (most : ℕ) → ((i : ℕ) → i ≤ c → get_or starts i 0 ≤ most) → end ≤ most → (i : ℕ) → i ≤ c + 1 → get_or after i 0 ≤ most
  within_more most in' le i l = go (ℕ_discrete i (c + 1))
    where
      go : Dec (i ≡ c + 1) → get_or after i 0 ≤ most
      go (yes e) = omega (arith, ap (λ (x : ℕ). get_or after x 0) e, start_last)
      go (no d) = omega (arith, start_before i (omega arith), in' i (omega arith))

-- of a store

module _ (s : Polynomials) where
  entries_are : length (entries s) ≡ s.count
  unfolding entries
  entries_are = length_build s.count (λ i. part s.terms (get_or s.starts i 0) (get_or s.starts (suc i) 0))

  pub few_entries : length (entries s) ≤ 48
  few_entries = omega (arith, entries_are, s.few)

  pub count_is : length (held s) ≡ s.count
  count_is = length-map (entries s) terms_of ∙ entries_are

  pub terms_held_is : terms_held (held s) ≡ get_or s.starts s.count 0
  unfolding entries
  terms_held_is =
      omega (arith, s.begins, terms_between s.terms s.count (λ i. get_or s.starts i 0) s.rising (λ i l. omega (arith, s.within i l, s.room)))

  pub few_held : length (held s) ≤ 48
  few_held = omega (arith, count_is, s.few)

  pub few_terms : terms_held (held s) ≤ 1024
  few_terms = omega (arith, terms_held_is, s.within s.count (omega arith))
