-- Renumbered orders.
--   renumbers cmp s a b       how the monomials compare under cmp once their exponents are moved
--   renumbered below s        the order below with the rearrangement s, or the refusal where s is none
--   renumbered_if below s b   the same, by the answer b to the question whether s is a rearrangement
-- Used by: Renumbered::new, and the meaning of Renumbered.
use Rattle.std.specs.Prelude.{Bool, true, false, T, Ok, Err, Result}
use Rattle.order.specs.declared.rearrangement.Rearrangement.{Rearrangement}
use Rattle.order.specs.declared.renumbered.Renumbered.{Renumbered}
use Rattle.order.specs.declared.fault.OrderFault.{OrderFault}
use Rattle.order.specs.declared.fault.OrderFault.TheVariants.{NoRearrangement}
use Rattle.order.specs.Laws.{Comparison}
use Rattle.order.specs.Rearrangements.{rearranges, moved}

abbrev pub renumbers : Comparison → Rearrangement → Comparison
renumbers cmp s a b = cmp (moved s a) (moved s b)

abbrev pub renumbered_if : {O : Type 0} → O → (s : Rearrangement) → (b : Bool) → (T b → T (rearranges s)) → Result (Renumbered O) OrderFault
renumbered_if o s true t = Ok (record { below = o; rearrangement = s; ok = t tt })
renumbered_if o s false t = Err NoRearrangement

abbrev pub renumbered : {O : Type 0} → O → Rearrangement → Result (Renumbered O) OrderFault
renumbered o s = renumbered_if o s (rearranges s) (λ t. t)
