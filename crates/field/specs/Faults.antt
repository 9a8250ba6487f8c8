-- What a field refuses, and by which number.
--   number_of e     the number of the refusal
--   layer_of e      the layer that refuses: 1, the field
--   place_of e      the place that the refusal names: none, so 0
--   in_range p     p is from 2 to 2147483647
--   residue_of p   the modulus that is made of p, or the first question that gets a no
-- Used by: Residue::new and the methods of FieldFault.
use Rattle.std.specs.Prelude.{ℕ, Bool, cond, ◌&&◌, Ok, Err, Result, nat_le}
use Rattle.field.specs.declared.fault.FieldFault.{FieldFault}
use Rattle.field.specs.declared.fault.FieldFault.TheVariants.{OutOfRange, NotListed}
use Rattle.field.specs.Primes.{listed}

abbrev pub number_of : FieldFault → ℕ
number_of OutOfRange = 1
number_of NotListed = 2

abbrev pub layer_of : FieldFault → ℕ
layer_of OutOfRange = 1
layer_of NotListed = 1

abbrev pub place_of : FieldFault → ℕ
place_of OutOfRange = 0
place_of NotListed = 0

abbrev pub in_range : ℕ → Bool
in_range p = nat_le 2 p && nat_le p 2147483647

abbrev pub residue_of : ℕ → Result ℕ FieldFault
residue_of p = cond (in_range p) (cond (listed p) (Ok p) (Err NotListed)) (Err OutOfRange)
