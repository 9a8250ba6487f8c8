use Rattle.std.proofs.Common.{◌==◌, not, refl, rules, tests}
use Rattle.order.specs.Rearrangements.{fresh, place}
use Rattle.order.proofs.Every.{all_below}
use Rattle.order.proofs.rearrangement.Rearrangement.is_fresh.Goals as goal

pub returns : goal.returns
unfolding fresh
returns c = all_below c.args.k (λ j. not (place c.args.self j == place c.args.self c.args.k)) _ _ _ refl c.all.ensures.ran (λ x b q k. search (rules, tests))
