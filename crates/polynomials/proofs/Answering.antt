-- Answers to questions: by a loop that looks for the first that fails, and of one list of questions after another.
use Rattle.std.proofs.Common.{◌≡◌, ℕ, ◌+◌, ◌<◌, List, [], ◌∷◌, ◌++◌, length, get_or, IsErrAnd, Ok, Err, Result, Some, None, Option, MatchOption, sym, refl, ap, ◌∙◌, subst, inl, inr, add-one, arith}
use Rattle.std.specs.List.{AllWithin, HoldsAt, range_with_len}
use Rattle.std.proofs.lemmas.List.FromFn.{get_or-range_with_len, length-range_with_len}
use Rattle.std.proofs.lemmas.Result.{err_from_is_err_and}
use Rattle.runs.specs.Question.{Question, each, AllYes, Refused}
use Rattle.runs.proofs.Questions.{yes_append}
use Rattle.polynomials.specs.declared.fault.JobFault.{JobFault}
use Rattle.polynomials.specs.Faults.{number_of, place_of}
use Rattle.polynomials.specs.Asked.{Asked}

-- one question put to each: the answer to it, by the first that gets a no

abbrev pub FirstNo : ℕ → (ℕ → Type 0) → Option ℕ → Type 0
FirstNo c P first = MatchOption first ((j : ℕ) → j < c → P j) (λ i. (i < c) × (P i → ⊥) × ((j : ℕ) → j < i → P j))

-- a fault has this number, and names the place that it is made with
abbrev pub Named : ℕ → (ℕ → JobFault) → Type 0
Named number fault = (p : ℕ) → (number_of (fault p) ≡ number) × (place_of (fault p) ≡ p)

-- r is the refusal of the first, by its place counted from 1
abbrev pub RefusedFirst : (ℕ → JobFault) → Option ℕ → Result (Unit {0}) JobFault → Type 0
RefusedFirst fault first r = MatchOption first (r ≡ Ok tt) (λ i. r ≡ Err (fault (i + 1)))

module _ (number line c : ℕ) (P : ℕ → Type 0) where
  pub asked_first : (fault : ℕ → JobFault) → Named number fault → (first : Option ℕ) (r : Result (Unit {0}) JobFault) → FirstNo c P first → RefusedFirst fault first r → Asked line (each number line c P ∷ []) r
  asked_first fault says None r h e = subst (Asked line (each number line c P ∷ [])) (sym e) (h, tt)
  asked_first fault says (Some i) r h e = subst (Asked line (each number line c P ∷ [])) (sym e) (inl ((λ y. h.1 (y i h.0)), (says (i + 1)).0, refl, (i, h.0, (says (i + 1)).1 ∙ add-one i, h.1, h.2)))

-- the same where the first is found by a search of the numbers below n
module _ (n : ℕ) (P No : ℕ → Type 0) (apart : (j : ℕ) → No j → P j → ⊥) where
  pub first_of_range : (first : Option ℕ) → MatchOption first (AllWithin P (range_with_len 0 n) 0 (length (range_with_len 0 n))) (λ i. (i < length (range_with_len 0 n)) × HoldsAt No (range_with_len 0 n) i × AllWithin P (range_with_len 0 n) 0 i) → FirstNo n P first
  first_of_range None h = λ j l. let at : get_or (range_with_len 0 n) j 0 ≡ j = get_or-range_with_len 0 n j 0 l ∙ omega arith in subst P at (h j 0 (omega arith) (omega (arith, l, length-range_with_len 0 n)))
  first_of_range (Some i) h =
      let l : i < n = omega (arith, h.0, length-range_with_len 0 n) in
      let at : (j : ℕ) → j < n → get_or (range_with_len 0 n) j 0 ≡ j = λ j q. get_or-range_with_len 0 n j 0 q ∙ omega arith in
      (l, apart i (subst No (at i l) (h.1 0)), λ j q. subst P (at j (omega arith)) (h.2 j 0 (omega arith) q))

-- one list after another

pub refused_first : (xs ys : List Question) (number line place : ℕ) → Refused xs number line place → Refused (xs ++ ys) number line place
refused_first [] ys number line place r = absurd r
refused_first (q ∷ xs) ys number line place (inl r) = inl r
refused_first (q ∷ xs) ys number line place (inr r) = inr (r.0, refused_first xs ys number line place r.1)

pub refused_after : (xs ys : List Question) (number line place : ℕ) → AllYes xs → Refused ys number line place → Refused (xs ++ ys) number line place
refused_after [] ys number line place y r = r
refused_after (q ∷ xs) ys number line place y r = inr (y.0, refused_after xs ys number line place y.1 r)

pub asked_after : {A : Type 0} (line : ℕ) (xs ys : List Question) (r : Result A JobFault) → AllYes xs → Asked line ys r → Asked line (xs ++ ys) r
asked_after line xs ys (Ok a) y h = yes_append xs ys y h
asked_after line xs ys (Err f) y h = refused_after xs ys (number_of f) line (place_of f) y h

-- the exit of a `?` after questions that got a yes: its own are refused, and so are all
pub asked_break : {A : Type 0} (line : ℕ) (xs ys zs : List Question) (r : Result A JobFault) (f : JobFault) → IsErrAnd r (λ e. e ≡ f) → AllYes xs → Refused ys (number_of f) line (place_of f) → Asked line (xs ++ (ys ++ zs)) r
asked_break {A} line xs ys zs r f b y h =
    let p = err_from_is_err_and r b in
    let e : r ≡ Err f = p.1 ∙ ap {B = Result A JobFault} Err p.2 in
    subst (λ (x : Result A JobFault). Asked line (xs ++ (ys ++ zs)) x) (sym e) (refused_after xs (ys ++ zs) (number_of f) line (place_of f) y (refused_first ys zs (number_of f) line (place_of f) h))

-- questions that ask the same

pub record Same (q q' : Question) : Type 0 where
  pub numbers : q.number ≡ q'.number
  pub lines : q.line ≡ q'.line
  pub forth : q.yes → q'.yes
  pub back : q'.yes → q.yes
  pub places : (p : ℕ) → q.place p → q'.place p

abbrev pub AllSame : List Question → List Question → Type 0
AllSame [] [] = Unit {0}
AllSame [] (q ∷ qs) = ⊥
AllSame (q ∷ qs) [] = ⊥
AllSame (q ∷ qs) (q' ∷ qs') = Same q q' × AllSame qs qs'

pub yes_same : (qs qs' : List Question) → AllSame qs qs' → AllYes qs → AllYes qs'
yes_same [] [] s y = tt
yes_same [] (q ∷ qs) s y = absurd s
yes_same (q ∷ qs) [] s y = absurd s
yes_same (q ∷ qs) (q' ∷ qs') s y = (s.0.forth y.0, yes_same qs qs' s.1 y.1)

pub refused_same : (qs qs' : List Question) → AllSame qs qs' → (number line place : ℕ) → Refused qs number line place → Refused qs' number line place
refused_same [] [] s number line place r = r
refused_same [] (q ∷ qs) s number line place r = absurd s
refused_same (q ∷ qs) [] s number line place r = absurd s
refused_same (q ∷ qs) (q' ∷ qs') s number line place (inl r) = inl ((λ y. r.0 (s.0.back y)), r.1 ∙ s.0.numbers, r.2 ∙ s.0.lines, s.0.places place r.3)
refused_same (q ∷ qs) (q' ∷ qs') s number line place (inr r) = inr (s.0.forth r.0, refused_same qs qs' s.1 number line place r.1)

pub asked_same : {A : Type 0} (line : ℕ) (qs qs' : List Question) (r : Result A JobFault) → AllSame qs qs' → Asked line qs r → Asked line qs' r
asked_same line qs qs' (Ok a) s h = yes_same qs qs' s h
asked_same line qs qs' (Err f) s h = refused_same qs qs' s (number_of f) line (place_of f) h

pub each_same : (number line c c' : ℕ) (P Q : ℕ → Type 0) → c ≡ c' → ((i : ℕ) → i < c → (P i → Q i) × (Q i → P i)) → Same (each number line c P) (each number line c' Q)
each_same number line c c' P Q e h = record {
  numbers = refl;
  lines = refl;
  forth = λ y i l. let q : i < c = omega arith in (h i q).0 (y i q);
  back = λ y i l. (h i l).1 (y i (omega arith));
  places = λ p x. (x.0, omega (arith, x.1, e), x.2, (λ z. x.3 ((h x.0 x.1).1 z)), λ j l. (h j (omega (arith, x.1, l))).0 (x.4 j l));
}
