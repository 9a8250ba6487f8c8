-- What a refusal of this crate carries.
--   number f   its number in the list of refusals
--   layer f    the layer that refuses
--   place f    the place where it failed, or 0
use Rattle.std.specs.Prelude.{ℕ}
use Rattle.order.specs.declared.fault.OrderFault.{OrderFault}
use Rattle.order.specs.declared.fault.OrderFault.TheVariants.{NoRearrangement}

abbrev pub number : OrderFault → ℕ
number NoRearrangement = 3

abbrev pub layer : OrderFault → ℕ
layer NoRearrangement = 2

abbrev pub place : OrderFault → ℕ
place NoRearrangement = 0
