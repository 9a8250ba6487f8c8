-- Writing a number's digits from the last to the first into the eleven bytes of a column.
--   Spelled part place number rest    the digits of rest, then the bytes from the place on, are the digits of the number
-- Used by: column_of.
use Rattle.std.proofs.Common.{◌≡◌, ℕ, ◌+◌, ◌-◌, ◌/◌, ◌%◌, ◌<◌, ◌≤◌, List, [], ◌∷◌, ◌++◌, length, take, drop, set, replicate, decimal, sym, ap, ap₂, ◌∙◌, arith, length-append, length-drop, length-set, take-append-drop}
use Rattle.std.proofs.lemmas.Fmt.{decimal_digit, decimal_step, decimal_nonempty}
use Rattle.std.proofs.lemmas.List.{append_assoc, append-nil, drop_all, drop-set, take-set, take-take, take-replicate}
use Rattle.column.specs.Column.{Word, column}
use Rattle.column.proofs.Columns.{ten_digits, column_from_digits}

abbrev pub Spelled : List ℕ → ℕ → ℕ → ℕ → Type 0
Spelled part place number rest = (decimal number ≡ decimal rest ++ drop place part) × (place ≤ 11) × (rest ≤ number)

pub spelled_none : (part : List ℕ) (number : ℕ) → length part ≡ 11 → Spelled part 11 number number
spelled_none part number n =
    (sym (ap (λ xs. decimal number ++ xs) (drop_all 11 part (omega arith)) ∙ append-nil (decimal number)), omega arith, omega arith)

module _ (part : List ℕ) (place number rest : ℕ) (n : length part ≡ 11) (w : Word number) (s : Spelled part place number rest) where
  -- where the digits of rest end: they leave a byte for a blank
  spelled_place : 11 + length (decimal rest) ≡ place + length (decimal number)
  spelled_place =
      let l : length (decimal number) ≡ length (decimal rest) + (11 - place) =
      ap length s.0 ∙ length-append (decimal rest) (drop place part)
      ∙ ap (λ k. length (decimal rest) + k) (length-drop place part ∙ ap (λ k. k - place) n) in
      let small = s.1 in
      omega arith

  pub spelled_room : 2 ≤ place
  spelled_room =
      let small = s.2 in
      omega (arith, spelled_place, ten_digits number w, decimal_nonempty rest (omega arith))

  -- one byte more before those that stand
  written_before : (b : ℕ) → drop (place - 1) (set part (place - 1) b) ≡ b ∷ drop place part
  written_before b =
      let r = spelled_room in
      let small = s.1 in
      let e : place - 1 + 1 ≡ place = omega arith in
      drop-set part (place - 1) b (omega arith) ∙ ap (λ k. b ∷ drop k part) e

  pub spelled_more : 10 ≤ rest → Spelled (set part (place - 1) (48 + rest % 10)) (place - 1) number (rest / 10)
  spelled_more big =
      let b : ℕ = 48 + rest % 10 in
      let small = s.2 in
      let low = s.1 in (
        s.0
            ∙ ap (λ ds. ds ++ drop place part) (decimal_step rest big (omega arith))
            ∙ append_assoc (decimal (rest / 10)) (b ∷ []) (drop place part)
            ∙ ap (λ xs. decimal (rest / 10) ++ xs) (sym (written_before b)),
        omega arith,
        omega arith,
      )

  pub spelled_all : rest < 10 → drop (place - 1) (set part (place - 1) (48 + rest)) ≡ decimal number
  spelled_all one =
      written_before (48 + rest)
      ∙ ap (λ ds. ds ++ drop place part) (sym (decimal_digit rest one))
      ∙ sym s.0

  -- the bytes before stay blank
  pub blank_before : (b : ℕ) → take place part ≡ replicate place 32 → take (place - 1) (set part (place - 1) b) ≡ replicate (place - 1) 32
  blank_before b h =
      take-set part (place - 1) b
      ∙ sym (take-take (place - 1) place part (omega arith))
      ∙ ap (take (place - 1)) h
      ∙ take-replicate (place - 1) place 32 (omega arith)

  pub spelled_column : rest < 10 → take place part ≡ replicate place 32 → set part (place - 1) (48 + rest) ≡ column number
  spelled_column one h =
      let bytes : List ℕ = set part (place - 1) (48 + rest) in
      column_from_digits bytes (place - 1) number (length-set part (place - 1) (48 + rest) ∙ n)
      (sym (take-append-drop (place - 1) bytes) ∙ ap₂ ◌++◌ (blank_before (48 + rest) h) (spelled_all one))
