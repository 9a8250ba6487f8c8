-- Computed tests that answer questions: a list of questions with a test for each is answered by running them.
use Rattle.std.proofs.Common.{◌≡◌, ℕ, zero, suc, ◌<◌, ◌≤◌, Bool, true, false, cond, not, ◌&&◌, T, eqb, leb, ◌⊎◌, List, [], ◌∷◌, ◌++◌, Ordering, Less, Equal, Greater, sym, refl, ap, ◌∙◌, subst, inl, inr, arith}
use Rattle.std.specs.List.{AllByRecursion}
use Rattle.std.proofs.lemmas.Bool.{true≢false, both_ways, cases_Bool, and_parts, and_cases, not-true, not-false, not_from_false, eqb-true, eqb-false, leb-true, leb-false}
use Rattle.order.specs.Monomials.{every}
use Rattle.order.specs.Exponents.{every_to}
use Rattle.algebra.specs.Lists.{any, least}
use Rattle.algebra.specs.Monomial.{Mono, equal, Among}
use Rattle.algebra.specs.Records.{less}
use Rattle.algebra.proofs.Lists.{least_found, least_first}
use Rattle.algebra.proofs.Monomials as monos
use Rattle.runs.specs.Question.{Question, single, each, AllYes, Refused}
use Rattle.runs.specs.Job.{Stage, opened, closed}
use Rattle.runs.proofs.Deciding.{not_both_stages}

-- a statement that a test decides
pub record Known (A : Type 0) : Type 0 where
  pub test : Bool
  pub holds : test ≡ true → A
  pub fails : test ≡ false → A → ⊥

abbrev pub equal_numbers : (a b : ℕ) → Known (a ≡ b)
equal_numbers a b = record { test = eqb a b; holds = eqb-true a b; fails = eqb-false a b }

pub not_le : (a b : ℕ) → leb a b ≡ false → a ≤ b → ⊥
not_le a b e h = let l = leb-false a b e in omega arith

abbrev pub at_most : (a b : ℕ) → Known (a ≤ b)
at_most a b = record { test = leb a b; holds = leb-true a b; fails = not_le a b }

pub test_holds : (b : Bool) → b ≡ true → T b
test_holds true e = tt
test_holds false e = absurd (true≢false (sym e))

pub test_fails : (b : Bool) → b ≡ false → T b → ⊥
test_fails true e t = true≢false e
test_fails false e t = t

abbrev pub test_of : (b : Bool) → Known (T b)
test_of b = record { test = b; holds = test_holds b; fails = test_fails b }

abbrev pub is_true : (b : Bool) → Known (b ≡ true)
is_true b = record { test = b; holds = λ e. e; fails = both_ways b }

module _ {A B : Type 0} (x : Known A) (y : Known B) where
  pub both_holds : (x.test && y.test) ≡ true → A × B
  both_holds e = let p = and_parts x.test y.test e in (x.holds p.0, y.holds p.1)

  pub both_fails : (x.test && y.test) ≡ false → A × B → ⊥
  both_fails e h = go (and_cases x.test y.test e)
    where
      go : (x.test ≡ false) ⊎ (y.test ≡ false) → ⊥
      go (inl p) = x.fails p h.0
      go (inr p) = y.fails p h.1

  abbrev pub both : Known (A × B)
  both = record { test = x.test && y.test; holds = both_holds; fails = both_fails }

module _ {A : Type 0} (x : Known A) where
  abbrev pub none : Known (A → ⊥)
  none = record { test = not x.test; holds = λ e. x.fails (not-true x.test e); fails = λ e h. h (x.holds (not-false x.test e)) }

-- A → B by the tests of A and B
module _ {A B : Type 0} (x : Known A) (y : Known B) where
  pub if_holds : (b : Bool) → x.test ≡ b → cond b y.test true ≡ true → A → B
  if_holds true p e a = y.holds e
  if_holds false p e a = absurd (x.fails p a)

  pub if_fails : (b : Bool) → x.test ≡ b → cond b y.test true ≡ false → (A → B) → ⊥
  if_fails true p e f = y.fails e (f (x.holds p))
  if_fails false p e f = true≢false e

  abbrev pub if_then : Known (A → B)
  if_then = record { test = cond x.test y.test true; holds = if_holds x.test refl; fails = if_fails x.test refl }

-- at every place below c

pub every_holds : (c : ℕ) (p : ℕ → Bool) (P : ℕ → Type 0) → ((i : ℕ) → p i ≡ true → P i) → every c p ≡ true → (i : ℕ) → i < c → P i
every_holds c p P h e i l = h i (every_to c p e i l)

pub not_every : (c : ℕ) (p : ℕ → Bool) → every c p ≡ false → (i : ℕ) × (i < c) × (p i ≡ false)
not_every zero p e = absurd (true≢false e)
not_every (suc c) p e = go (not_every c p) (and_cases (every c p) (p c) e)
  where
    go : (every c p ≡ false → (i : ℕ) × (i < c) × (p i ≡ false)) → (every c p ≡ false) ⊎ (p c ≡ false) → (i : ℕ) × (i < suc c) × (p i ≡ false)
    go f (inl x) = let y = f x in (y.0, omega (arith, y.1), y.2)
    go f (inr x) = (c, omega arith, x)

-- the first place that fails
abbrev pub first_no : ℕ → (ℕ → Bool) → ℕ
first_no c p = least c (λ i. not (p i))

pub first_fails : (c : ℕ) (p : ℕ → Bool) → every c p ≡ false → (first_no c p < c) × (p (first_no c p) ≡ false) × ((j : ℕ) → j < first_no c p → p j ≡ true)
first_fails c p e = (found.0, not-true (p (first_no c p)) found.1, λ j l. before j l (cases_Bool (p j)))
  where
    at : (i : ℕ) × (i < c) × (p i ≡ false)
    at = not_every c p e

    found : (first_no c p < c) × (not (p (first_no c p)) ≡ true)
    found = least_found c (λ i. not (p i)) at.0 at.1 (not_from_false (p at.0) at.2)

    before : (j : ℕ) → j < first_no c p → (p j ≡ true) ⊎ (p j ≡ false) → p j ≡ true
    before j l (inl x) = x
    before j l (inr x) = let low : first_no c p ≤ j = least_first c (λ i. not (p i)) j (omega (arith, found.0)) (not_from_false (p j) x) in absurd (omega arith)

abbrev pub below : (c : ℕ) (P : ℕ → Type 0) → ((i : ℕ) → Known (P i)) → Known ((i : ℕ) → i < c → P i)
below c P k = record {
  test = every c (λ i. (k i).test);
  holds = every_holds c (λ i. (k i).test) P (λ i. (k i).holds);
  fails = λ e h. let x = not_every c (λ i. (k i).test) e in (k x.0).fails x.2 (h x.0 x.1);
}

-- some place below c
pub some_holds : (c : ℕ) (p : ℕ → Bool) → not (every c (λ i. not (p i))) ≡ true → (i : ℕ) × (i < c) × (p i ≡ true)
some_holds c p e = let x = not_every c (λ i. not (p i)) (not-true (every c (λ i. not (p i))) e) in (x.0, x.1, not-false (p x.0) x.2)

pub some_fails : (c : ℕ) (p : ℕ → Bool) → not (every c (λ i. not (p i))) ≡ false → (i : ℕ) → i < c → p i ≡ false
some_fails c p e i l = not-true (p i) (every_to c (λ i. not (p i)) (not-false (every c (λ i. not (p i))) e) i l)

-- of every member of a list
abbrev pub passed : {A : Type 0} → (A → Bool) → List A → Bool
passed p [] = true
passed p (a ∷ l) = p a && passed p l

module _ {A : Type 0} (P : A → Type 0) (k : (a : A) → Known (P a)) where
  pub all_holds : (l : List A) → passed (λ a. (k a).test) l ≡ true → AllByRecursion P l
  all_holds [] e = tt
  all_holds (a ∷ l) e = let x = and_parts (k a).test (passed (λ a. (k a).test) l) e in ((k a).holds x.0, all_holds l x.1)

  pub all_fails : (l : List A) → passed (λ a. (k a).test) l ≡ false → AllByRecursion P l → ⊥
  all_fails [] e h = true≢false e
  all_fails (a ∷ l) e h = go (and_cases (k a).test (passed (λ a. (k a).test) l) e) (all_fails l)
    where
      go : ((k a).test ≡ false) ⊎ (passed (λ a. (k a).test) l ≡ false) → (passed (λ a. (k a).test) l ≡ false → AllByRecursion P l → ⊥) → ⊥
      go (inl x) f = (k a).fails x h.0
      go (inr x) f = f x h.1

  abbrev pub all_of : (l : List A) → Known (AllByRecursion P l)
  all_of l = record { test = passed (λ a. (k a).test) l; holds = all_holds l; fails = all_fails l }

-- stages, orderings and monomials

pub not_opened : closed ≡ opened → ⊥
not_opened e = not_both_stages closed e refl

pub not_closed : opened ≡ closed → ⊥
not_closed e = not_both_stages opened refl e

abbrev pub is_opened : (s : Stage) → Known (s ≡ opened)
is_opened opened = record { test = true; holds = λ e. refl; fails = λ e x. true≢false e }
is_opened closed = record { test = false; holds = λ e. absurd (true≢false (sym e)); fails = λ e. not_opened }

abbrev pub is_closed : (s : Stage) → Known (s ≡ closed)
is_closed closed = record { test = true; holds = λ e. refl; fails = λ e x. true≢false e }
is_closed opened = record { test = false; holds = λ e. absurd (true≢false (sym e)); fails = λ e. not_closed }

pub less_holds : (o : Ordering) → less o ≡ true → o ≡ Less
less_holds Less e = refl
less_holds Equal e = absurd (true≢false (sym e))
less_holds Greater e = absurd (true≢false (sym e))

abbrev pub is_less : (o : Ordering) → Known (o ≡ Less)
is_less o = record { test = less o; holds = less_holds o; fails = λ e x. true≢false (sym (ap less x) ∙ e) }

module _ (n : ℕ) where
  pub equal_fails : (a b : Mono n) → equal n a b ≡ false → a ≡ b → ⊥
  equal_fails a b e x = true≢false (sym (subst (λ (y : Mono n). equal n a y ≡ true) x (monos.equal_refl n a)) ∙ e)

  abbrev pub equal_monomials : (a b : Mono n) → Known (a ≡ b)
  equal_monomials a b = record { test = equal n a b; holds = monos.equal_eq n a b; fails = equal_fails a b }

  abbrev pub among : (t : Mono n) (l : List (Mono n)) → Known (Among n t l)
  among t l = record { test = any (equal n t) l; holds = monos.has_among n t l; fails = λ e x. true≢false (sym (monos.among_has n t l x) ∙ e) }

-- a question that a test answers, with the place of its no
pub record Settles (q : Question) : Type 0 where
  pub test : Bool
  pub holds : test ≡ true → q.yes
  pub fails : test ≡ false → q.yes → ⊥
  pub at : ℕ
  pub placed : test ≡ false → q.place at

abbrev pub once : (number line : ℕ) {A : Type 0} → Known A → Settles (single number line A)
once number line k = record { test = k.test; holds = k.holds; fails = k.fails; at = 0; placed = λ e. refl }

module _ (number line c : ℕ) (P : ℕ → Type 0) (p : ℕ → Bool) (h : (i : ℕ) → i < c → p i ≡ true → P i) (f : (i : ℕ) → i < c → p i ≡ false → P i → ⊥) where
  pub each_fails : every c p ≡ false → ((i : ℕ) → i < c → P i) → ⊥
  each_fails e y = let x = first_fails c p e in f (first_no c p) x.0 x.1 (y (first_no c p) x.0)

  pub each_placed : every c p ≡ false → (each number line c P).place (suc (first_no c p))
  each_placed e = let x = first_fails c p e in (first_no c p, x.0, refl, f (first_no c p) x.0 x.1, λ j l. h j (omega (arith, x.0)) (x.2 j l))

  abbrev pub each_by : Settles (each number line c P)
  each_by = record { test = every c p; holds = λ e i l. h i l (every_to c p e i l); fails = each_fails; at = suc (first_no c p); placed = each_placed }

abbrev pub each_of : (number line c : ℕ) (P : ℕ → Type 0) → ((i : ℕ) → Known (P i)) → Settles (each number line c P)
each_of number line c P k = each_by number line c P (λ i. (k i).test) (λ i l. (k i).holds) (λ i l. (k i).fails)

-- lists of questions

abbrev pub Tests : List Question → Type 0
Tests [] = Unit {0}
Tests (q ∷ qs) = Settles q × Tests qs

abbrev pub passes : (qs : List Question) → Tests qs → Bool
passes [] t = true
passes (q ∷ qs) t = t.0.test && passes qs t.1

abbrev pub refuses : (qs : List Question) → Tests qs → ℕ → ℕ → ℕ → Bool
refuses [] t number line place = false
refuses (q ∷ qs) t number line place = cond t.0.test (refuses qs t.1 number line place) (eqb number q.number && (eqb line q.line && eqb place t.0.at))

pub all_yes : (qs : List Question) (t : Tests qs) → passes qs t ≡ true → AllYes qs
all_yes [] t e = tt
all_yes (q ∷ qs) t e = let x = and_parts t.0.test (passes qs t.1) e in (t.0.holds x.0, all_yes qs t.1 x.1)

pub refused_by : (qs : List Question) (t : Tests qs) (number line place : ℕ) → refuses qs t number line place ≡ true → Refused qs number line place
refused_by [] t number line place e = absurd (true≢false (sym e))
refused_by (q ∷ qs) t number line place e = go t.0.test refl e (refused_by qs t.1 number line place)
  where
    go : (b : Bool) → t.0.test ≡ b → cond b (refuses qs t.1 number line place) (eqb number q.number && (eqb line q.line && eqb place t.0.at)) ≡ true
        → (refuses qs t.1 number line place ≡ true → Refused qs number line place) → Refused (q ∷ qs) number line place
    go true p e f = inr (t.0.holds p, f e)
    go false p e f =
        let x = and_parts (eqb number q.number) (eqb line q.line && eqb place t.0.at) e in
        let y = and_parts (eqb line q.line) (eqb place t.0.at) x.1 in
        inl (t.0.fails p, eqb-true number q.number x.0, eqb-true line q.line y.0, subst q.place (sym (eqb-true place t.0.at y.1)) (t.0.placed p))

-- a list of questions that all got a yes, and what comes after it
pub refused_after : (front later : List Question) (number line place : ℕ) → AllYes front → Refused later number line place → Refused (front ++ later) number line place
refused_after [] later number line place y r = r
refused_after (q ∷ front) later number line place y r = inr (y.0, refused_after front later number line place y.1 r)
