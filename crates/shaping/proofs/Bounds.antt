-- Bounds of refusals: no question carries a line, or a place, that is over a bound, once those before it get a yes.
use Rattle.std.proofs.Common.{◌≡◌, ℕ, ◌≤◌, List, [], ◌∷◌, ◌++◌, inl, inr, arith}
use Rattle.runs.specs.Question.{Question, single, each, AllYes, Refused}
use Rattle.shaping.specs.Questions.{in_line}

module _ (B : ℕ) where
  pub record Small (q : Question) : Type 0 where
    pub line : q.line ≤ B
    pub place : (p : ℕ) → q.place p → p ≤ B

  abbrev pub Within : List Question → Type 0
  Within [] = Unit {0}
  Within (q ∷ qs) = Small q × (q.yes → Within qs)

  pub within_append : (xs ys : List Question) → Within xs → (AllYes xs → Within ys) → Within (xs ++ ys)
  within_append [] ys w v = v tt
  within_append (q ∷ xs) ys w v = (w.0, λ y. within_append xs ys (w.1 y) (λ z. v (y, z)))

  -- so a refusal has a line and a place within the bound
  pub refused_within : (qs : List Question) → Within qs → (number line place : ℕ) → Refused qs number line place → (line ≤ B) × (place ≤ B)
  refused_within [] w number line place x = absurd x
  refused_within (q ∷ qs) w number line place (inl x) = (omega (arith, x.2, w.0.line), w.0.place place x.3)
  refused_within (q ∷ qs) w number line place (inr x) = refused_within qs (w.1 x.0) number line place x.1

  pub within_in_line : (l : ℕ) → l ≤ B → (qs : List Question) → Within qs → Within (in_line l qs)
  within_in_line l h [] w = tt
  within_in_line l h (q ∷ qs) w = (record { line = h; place = w.0.place }, λ y. within_in_line l h qs (w.1 y))

  -- questions of each kind

  pub small_at : (number l p : ℕ) (A : Type 0) → l ≤ B → p ≤ B → Small (record { number = number; line = l; yes = A; place = λ p'. p' ≡ p })
  small_at number l p A h k = record { line = h; place = λ p' e. omega (arith, e) }

  pub small_single : (number l : ℕ) (A : Type 0) → l ≤ B → Small (single number l A)
  small_single number l A h = small_at number l 0 A h (omega arith)

  pub small_each : (number l c : ℕ) (P : ℕ → Type 0) → l ≤ B → c ≤ B → Small (each number l c P)
  small_each number l c P h k = record { line = h; place = λ p x. omega (arith, x.1, x.2) }
