-- Lists of questions: what the yeses before one give, that a refusal is one, and that a list whose questions can be decided is answered.
use Rattle.std.proofs.Common.{◌≡◌, ℕ, zero, suc, ◌<◌, ◌≢◌, ◌⊎◌, List, [], ◌∷◌, ◌++◌, sym, refl, ◌∙◌, inl, inr, arith}
use native.Mathlib.Decide.{ℕ_discrete, dec_lt}
use Rattle.algebra.specs.Vector.{Least}
use Rattle.algebra.proofs.Span.{least_once}
use Rattle.runs.specs.Question.{Question, single, each, AllYes, Refused, Reached}

-- one list after the other

pub yes_append : (xs ys : List Question) → AllYes xs → AllYes ys → AllYes (xs ++ ys)
yes_append [] ys y z = z
yes_append (q ∷ xs) ys y z = (y.0, yes_append xs ys y.1 z)

pub yes_first : (xs ys : List Question) → AllYes (xs ++ ys) → AllYes xs
yes_first [] ys y = tt
yes_first (q ∷ xs) ys y = (y.0, yes_first xs ys y.1)

pub yes_rest : (xs ys : List Question) → AllYes (xs ++ ys) → AllYes ys
yes_rest [] ys y = y
yes_rest (q ∷ xs) ys y = yes_rest xs ys y.1

-- a question after others

pub refused_next : (front : List Question) (q : Question) (later : List Question) (number line place : ℕ) → AllYes front → Refused (front ++ (q ∷ later)) number line place → Refused (q ∷ later) number line place
refused_next [] q later number line place y r = r
refused_next (a ∷ front) q later number line place y (inl r) = absurd (r.0 y.0)
refused_next (a ∷ front) q later number line place y (inr r) = refused_next front q later number line place y.1 r.1

-- no question of a list has this number
abbrev pub Others : ℕ → List Question → Type 0
Others number [] = Unit {0}
Others number (q ∷ qs) = (q.number ≢ number) × Others number qs

pub reached_yes : (front : List Question) (q : Question) (later : List Question) (number : ℕ) → Others number front → Reached number (front ++ (q ∷ later)) → AllYes front
reached_yes [] q later number h r = tt
reached_yes (a ∷ front) q later number h (inl r) = absurd (h.0 r)
reached_yes (a ∷ front) q later number h (inr r) = (r.0, reached_yes front q later number h.1 r.1)

pub refused_yes : (front : List Question) (q : Question) (later : List Question) (number line place : ℕ) → Others number front → Refused (front ++ (q ∷ later)) number line place → AllYes front
refused_yes [] q later number line place h r = tt
refused_yes (a ∷ front) q later number line place h (inl r) = absurd (h.0 (sym r.1))
refused_yes (a ∷ front) q later number line place h (inr r) = (r.0, refused_yes front q later number line place h.1 r.1)

pub refused_other : (qs : List Question) (number line place : ℕ) → Others number qs → Refused qs number line place → ⊥
refused_other [] number line place h r = r
refused_other (q ∷ qs) number line place h (inl r) = h.0 (sym r.1)
refused_other (q ∷ qs) number line place h (inr r) = refused_other qs number line place h.1 r.1

pub refused_not : (qs : List Question) (number line place : ℕ) → AllYes qs → Refused qs number line place → ⊥
refused_not [] number line place y x = x
refused_not (q ∷ qs) number line place y (inl x) = x.0 y.0
refused_not (q ∷ qs) number line place y (inr x) = refused_not qs number line place y.1 x.1

-- a question that is answered: yes, or no with one place
pub record Settled (q : Question) : Type 0 where
  pub known : q.yes ⊎ ((q.yes → ⊥) × ((p : ℕ) × q.place p))
  pub once : (p p' : ℕ) → q.place p → q.place p' → p ≡ p'

-- each question is, once those before it got a yes
abbrev pub Chain : List Question → Type 0
Chain [] = Unit {0}
Chain (q ∷ qs) = Settled q × (q.yes → Chain qs)

-- a question, and those after it, which need not know its yes
infixr 40 ◌▸◌
abbrev pub ◌▸◌ : {A B Y : Type 0} → A → B → A × (Y → B)
◌▸◌ a b = (a, λ y. b)

pub chain_append : (xs ys : List Question) → Chain xs → (AllYes xs → Chain ys) → Chain (xs ++ ys)
chain_append [] ys c d = d tt
chain_append (q ∷ xs) ys c d = (c.0, λ y. chain_append xs ys (c.1 y) (λ z. d (y, z)))

pub refused_once : (qs : List Question) → Chain qs → (n l p n' l' p' : ℕ) → Refused qs n l p → Refused qs n' l' p' → (n ≡ n') × (l ≡ l') × (p ≡ p')
refused_once [] h n l p n' l' p' x y = absurd x
refused_once (q ∷ qs) h n l p n' l' p' (inl x) (inl y) = (x.1 ∙ sym y.1, x.2 ∙ sym y.2, h.0.once p p' x.3 y.3)
refused_once (q ∷ qs) h n l p n' l' p' (inl x) (inr y) = absurd (x.0 y.0)
refused_once (q ∷ qs) h n l p n' l' p' (inr x) (inl y) = absurd (y.0 x.0)
refused_once (q ∷ qs) h n l p n' l' p' (inr x) (inr y) = refused_once qs (h.1 x.0) n l p n' l' p' x.1 y.1

abbrev pub Decided : List Question → Type 0
Decided qs = AllYes qs ⊎ ((number : ℕ) × (line : ℕ) × (place : ℕ) × Refused qs number line place)

pub decide : (qs : List Question) → Chain qs → Decided qs
decide [] h = inl tt
decide (q ∷ qs) h = go h.0.known (λ y. decide qs (h.1 y))
  where
    next : q.yes → Decided qs → Decided (q ∷ qs)
    next y (inl z) = inl (y, z)
    next y (inr z) = inr (z.0, z.1, z.2, inr (y, z.3))

    go : q.yes ⊎ ((q.yes → ⊥) × ((p : ℕ) × q.place p)) → (q.yes → Decided qs) → Decided (q ∷ qs)
    go (inr x) k = inr (q.number, q.line, x.1.0, inl (x.0, refl, refl, x.1.1))
    go (inl y) k = next y (k y)

-- a question whose place does not depend on how it fails
pub settled_at : (number line p : ℕ) {A : Type 0} → Dec A → Settled (record { number = number; line = line; yes = A; place = λ p'. p' ≡ p })
settled_at number line p d = record { known = go d; once = λ a b e e'. e ∙ sym e' }
  where
    go : {A : Type 0} → Dec A → A ⊎ ((A → ⊥) × ((p' : ℕ) × (p' ≡ p)))
    go (yes y) = inl y
    go (no y) = inr (y, (p, refl))

pub settled : (number line : ℕ) {A : Type 0} → Dec A → Settled (single number line A)
settled number line d = settled_at number line 0 d

-- a question whose place is the least with a property that some number has
pub settled_least : (number line : ℕ) {A : Type 0} (P : ℕ → Type 0) → Dec A → (p : ℕ) × Least P p → Settled (record { number = number; line = line; yes = A; place = Least P })
settled_least number line P d x = record { known = go d; once = least_once P }
  where
    go : {A : Type 0} → Dec A → A ⊎ ((A → ⊥) × ((p : ℕ) × Least P p))
    go (yes y) = inl y
    go (no y) = inr (y, x)

-- the first of c that fails, or none does
pub first_no : (P : ℕ → Type 0) (c : ℕ) → ((i : ℕ) → i < c → Dec (P i)) → ((i : ℕ) → i < c → P i) ⊎ ((i : ℕ) × (i < c) × (P i → ⊥) × ((j : ℕ) → j < i → P j))
first_no P zero d = inl (λ i l. absurd (omega arith))
first_no P (suc c) d = go (first_no P c (λ i l. d i (omega arith))) (d c (omega arith))
  where
    at : ((i : ℕ) → i < c → P i) → P c → (i : ℕ) → i < suc c → Dec (i ≡ c) → P i
    at h y i l (yes e) = rw e y
    at h y i l (no e) = h i (omega arith)

    go : ((i : ℕ) → i < c → P i) ⊎ ((i : ℕ) × (i < c) × (P i → ⊥) × ((j : ℕ) → j < i → P j)) → Dec (P c) → ((i : ℕ) → i < suc c → P i) ⊎ ((i : ℕ) × (i < suc c) × (P i → ⊥) × ((j : ℕ) → j < i → P j))
    go (inr x) y = inr (x.0, omega (arith, x.1), x.2, x.3)
    go (inl h) (no y) = inr (c, omega arith, y, h)
    go (inl h) (yes y) = inl (λ i l. at h y i l (ℕ_discrete i c))

pub settled_each : (number line c : ℕ) (P : ℕ → Type 0) → ((i : ℕ) → i < c → Dec (P i)) → Settled (each number line c P)
settled_each number line c P d = record { known = go (first_no P c d); once = λ p p' x y. at p p' x y (dec_lt x.0 y.0) (dec_lt y.0 x.0) }
  where
    go : ((i : ℕ) → i < c → P i) ⊎ ((i : ℕ) × (i < c) × (P i → ⊥) × ((j : ℕ) → j < i → P j)) → (each number line c P).yes ⊎ (((each number line c P).yes → ⊥) × ((p : ℕ) × (each number line c P).place p))
    go (inl h) = inl h
    go (inr x) = inr ((λ h. x.2 (h x.0 x.1)), (suc x.0, (x.0, x.1, refl, x.2, x.3)))

    at : (p p' : ℕ) (x : (each number line c P).place p) (y : (each number line c P).place p') → Dec (x.0 < y.0) → Dec (y.0 < x.0) → p ≡ p'
    at p p' x y (yes l) z = absurd (x.3 (y.4 x.0 l))
    at p p' x y (no l) (yes z) = absurd (y.3 (x.4 y.0 z))
    at p p' x y (no l) (no z) = omega (arith, x.2, y.2)
