-- A column in the words of its form: eleven bytes, blanks and then a numeral.
-- Used by: column_is_right_justified.
use Rattle.std.proofs.Common.{◌≡◌, ℕ, ◌-◌, ◌≤◌, List, ◌++◌, length, get_or, replicate, decimal, sym, ap, ◌∙◌, inl, inr, arith, rules}
use Rattle.std.specs.List.{AllByRecursion}
use Rattle.std.proofs.lemmas.Fmt.{decimal_digit, decimal_nonempty, decimal-digits_value, digits_decimal, first_decimal, digits_value-decimal}
use Rattle.std.proofs.lemmas.Str.Parse.{IsNumeralModel, numerals_by_fold}
use Rattle.std.proofs.lemmas.Bool.{cases_eq}
use Rattle.column.specs.Column.{Word, column, shown_after, shown}
use Rattle.column.specs.Laws.{Numeral, Justified}
use Rattle.column.proofs.Columns.{column_length, column_from_digits}

own : IsNumeralModel (AllByRecursion (λ d. (48 ≤ d) × (d ≤ 57))) (shown_after 0)
own = numerals_by_fold _ (search rules) shown_after (search rules)

zero_alone : (w : ℕ) → Word w → get_or (decimal w) 0 0 ≡ 48 → length (decimal w) ≡ 1
zero_alone w h e =
    elim (cases_eq w 0) [
      | inl z ↦ ap length (decimal_digit w (omega arith))
      | inr n ↦ absurd (omega (arith, first_decimal w (omega arith) (omega arith)))
    ]

numeral_decimal : (w : ℕ) → Word w → Numeral (decimal w) w
numeral_decimal w h =
    (decimal_nonempty w (omega arith), digits_decimal own w (omega arith), zero_alone w h, digits_value-decimal own w (omega arith))

pub justified_column : (bs : List ℕ) (w : ℕ) → Word w → bs ≡ column w → Justified bs w
unfolding column
justified_column bs w h e =
    (ap length e ∙ column_length w h, (11 - length (decimal w), (decimal w, (e, numeral_decimal w h))))

pub column_from_justified : (bs : List ℕ) (w : ℕ) → Word w → Justified bs w → bs ≡ column w
column_from_justified bs w h (n, (k, (ds, (e, (some, digits, alone, value))))) =
    let d : decimal (shown ds) ≡ ds = decimal-digits_value own ds digits some alone (omega arith) in
    column_from_digits bs k w n (e ∙ ap (λ xs. replicate k 32 ++ xs) (sym (sym (ap decimal value) ∙ d)))
