use Rattle.std.proofs.Common.{sym, refl, ◌∙◌, inl, inr, arith}
use mathlib.Core.Bool.{false≢true}
use Rattle.std.proofs.lemmas.List.{take_more_set}
use Rattle.staircase.proofs.Walking.{place_some, place_nowhere}
use Rattle.staircase.proofs.walk.offer.Goals as goal
use Rattle.staircase.proofs.walk.offer.Goals.{then-any_divides-via-then-any_divides, then-any_divides-via-else-any_divides+then-is_some}

pub returns-then-any_divides-clause-offered : goal.returns-then-any_divides-clause-offered
returns-then-any_divides-clause-offered c =
    elim c.then-any_divides.branch [ then-any_divides-via-then-any_divides w ↦ inl (refl, λ f. absurd (false≢true (sym f ∙ sym w.if-any_divides.ensures))) | then-any_divides-via-else-any_divides+then-is_some w ↦ inl (refl, λ f. place_some _ _ _ w.place_of.ensures w.if-is_some.ensures) ]

pub returns-then-count-found-clause-new : goal.returns-then-count-found-clause-new
returns-then-count-found-clause-new c = (sym c.if-any_divides.ensures, place_nowhere _ _ _ c.place_of.ensures c.if-is_some.ensures)

pub returns-clause-offered : goal.returns-clause-offered
returns-clause-offered c = inr (take_more_set c.args.found.now c.args.count c.args.m (omega arith), (sym c.if-any_divides.ensures, place_nowhere _ _ _ c.place_of.ensures c.if-is_some.ensures))
