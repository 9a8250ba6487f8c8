use Rattle.std.proofs.Common.{◌||◌, ◌==◌, refl, rules, tests}
use Rattle.order.specs.Monomials.{variables, power_of, exponent}
use Rattle.order.proofs.Every.{all_below}
use Rattle.order.proofs.monomial.Monomial.is_power_of.Goals as goal

pub returns : goal.returns
unfolding power_of
returns c = all_below variables (λ j. (c.args.k == j) || exponent c.args.self j == 0) _ _ _ refl c.all.ensures.ran (λ x b q k. search (rules, tests))
