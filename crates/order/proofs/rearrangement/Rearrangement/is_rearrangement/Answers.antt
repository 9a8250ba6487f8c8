use Rattle.std.proofs.Common.{◌&&◌, refl, rules, tests}
use Rattle.order.specs.Monomials.{variables}
use Rattle.order.specs.Rearrangements.{rearranges, fresh, in_range, place}
use Rattle.order.proofs.Every.{all_below}
use Rattle.order.proofs.rearrangement.Rearrangement.is_rearrangement.Goals as goal

pub returns : goal.returns
unfolding rearranges
returns c = all_below variables (λ k. fresh c.args.self k && in_range (place c.args.self k)) _ _ _ refl c.all.ensures.ran (λ x b q k. search (rules, tests))
