-- The two orders that compare exponents: DRL and LEX.
--   number x y       how two numbers compare: the larger is greater
--   highest n f g    how f and g compare at the highest place below n where they differ
--   lowest n f g     how f and g compare at the lowest place below n where they differ
--   drl a b          the larger degree is greater; at equal degrees the smaller exponent of the lowest variable where they differ is
--   lex a b          the larger exponent of the highest variable where they differ is greater
-- The same two in the words of a relation: DrlInWords and LexInWords, in Claims.
use Rattle.std.specs.Prelude.{ℕ, zero, suc, cond, nat_lt}
use Rattle.std.specs.declared.cmp.Ordering.TheVariants.{Less, Equal, Greater}
use Rattle.std.specs.declared.cmp.Ordering.{Ordering}
use Rattle.std.specs.Ordering.{ordering_then}
use Rattle.order.specs.Laws.{Comparison}
use Rattle.order.specs.Monomials.{variables, exponent, degree}

abbrev pub number : ℕ → ℕ → Ordering
number x y = cond (nat_lt x y) Less (cond (nat_lt y x) Greater Equal)

unfoldable pub highest : ℕ → (ℕ → ℕ) → (ℕ → ℕ) → Ordering
highest zero f g = Equal
highest (suc n) f g = ordering_then (number (f n) (g n)) (highest n f g)

unfoldable pub lowest : ℕ → (ℕ → ℕ) → (ℕ → ℕ) → Ordering
lowest zero f g = Equal
lowest (suc n) f g = ordering_then (lowest n f g) (number (f n) (g n))

unfoldable pub drl : Comparison
drl a b = ordering_then (number (degree a) (degree b)) (lowest variables (exponent b) (exponent a))

unfoldable pub lex : Comparison
lex a b = highest variables (exponent a) (exponent b)
