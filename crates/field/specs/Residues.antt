-- The residue field: the numbers below p with arithmetic modulo p.
--   inverse_below n p a    the greatest word below n whose product with a leaves 1, divided by p
--   residues p             elements, zero, one, sum, product, opposite and inverse modulo p
-- Used by: the meaning of Residue, at all words through `total`.
use Rattle.std.specs.Prelude.{ℕ, zero, suc, ◌+◌, ◌-◌, ◌*◌, ◌%◌, cond, Some, None, Option, ◌==◌, nat_lt}
use Rattle.field.specs.Meaning.{FieldMeaning}

unfoldable pub inverse_below : ℕ → ℕ → ℕ → Option ℕ
inverse_below zero p a = None
inverse_below (suc n) p a = cond (a * n % p == 1) (Some n) (inverse_below n p a)

abbrev pub residues : ℕ → FieldMeaning
residues p = record {
  elem = λ a. nat_lt a p;
  zero = 0;
  one = 1;
  add = λ a b. (a + b) % p;
  mul = λ a b. (a * b) % p;
  neg = λ a. (p - a) % p;
  inv = inverse_below p p;
}
