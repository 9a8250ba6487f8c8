-- The questions before a call, and the first of them that gets a no.
--   Question                          its number, the line that a no carries, what it asks, and which places a no has
--   single number line A              the question A; its place is 0
--   each number line c P              the question P put to each of 0 .. c - 1; its place is the first that fails, counted from 1
--   AllYes qs                        each question gets a yes
--   Refused qs number line place      the first question that gets a no has this number and this line, and its no has this place
--   Reached number qs                 a question of this number comes, and each one before it gets a yes
-- Used by: the questions of each call, and what a call answers.
use Rattle.std.specs.Prelude.{◌≡◌, ℕ, suc, ◌<◌, ◌⊎◌, List, [], ◌∷◌}

pub record Question : Type 1 where
  pub number : ℕ
  pub line : ℕ
  pub yes : Type 0
  pub place : ℕ → Type 0

abbrev pub single : ℕ → ℕ → Type 0 → Question
single number line A = record { number = number; line = line; yes = A; place = λ p. p ≡ 0 }

abbrev pub each : ℕ → ℕ → ℕ → (ℕ → Type 0) → Question
each number line c P = record {
  number = number;
  line = line;
  yes = (i : ℕ) → i < c → P i;
  place = λ p. (i : ℕ) × (i < c) × (p ≡ suc i) × (P i → ⊥) × ((j : ℕ) → j < i → P j);
}

abbrev pub AllYes : List Question → Type 0
AllYes [] = Unit {0}
AllYes (q ∷ qs) = q.yes × AllYes qs

abbrev pub Refused : List Question → ℕ → ℕ → ℕ → Type 0
Refused [] number line place = ⊥
Refused (q ∷ qs) number line place = ((q.yes → ⊥) × (number ≡ q.number) × (line ≡ q.line) × q.place place) ⊎ (q.yes × Refused qs number line place)

abbrev pub Reached : ℕ → List Question → Type 0
Reached number [] = ⊥
Reached number (q ∷ qs) = (q.number ≡ number) ⊎ (q.yes × Reached number qs)
