-- The value of a polynomial at a point, over the words of a field.
--   Term                a term is its coefficient, then its exponents, variable by variable
--   power m x e         x to the power e
--   term_value m n x t  the coefficient of the term t times the powers of the first n words of the point x
--   value m n x ts      the value of the polynomial with the terms ts: the sum of the values of its terms
-- Used by: the answer of the program. `m` is the meaning of a field.
use Rattle.std.specs.Prelude.{ℕ, zero, suc, List, fold, slice_index}
use Rattle.field.specs.Meaning.{FieldMeaning}

abbrev pub Term : Type 0
Term = List ℕ

module _ (m : FieldMeaning) where
  unfoldable pub power : ℕ → ℕ → ℕ
  power x zero = m.one
  power x (suc e) = m.mul (power x e) x

  unfoldable pub term_value : ℕ → List ℕ → Term → ℕ
  term_value zero x t = slice_index t 0
  term_value (suc i) x t = m.mul (term_value i x t) (power (slice_index x i) (slice_index t (suc i)))

  unfoldable pub value : ℕ → List ℕ → List Term → ℕ
  value n x ts = fold (λ a t. m.add a (term_value n x t)) m.zero ts
