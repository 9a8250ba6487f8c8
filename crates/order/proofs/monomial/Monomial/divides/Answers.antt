use Rattle.std.proofs.Common.{nat_le, refl, rules, tests}
use Rattle.order.specs.Monomials.{variables, divides, exponent}
use Rattle.order.proofs.Every.{all_below}
use Rattle.order.proofs.monomial.Monomial.divides.Goals as goal

pub returns : goal.returns
unfolding divides
returns c = all_below variables (λ k. nat_le (exponent c.args.self k) (exponent c.args.other k)) _ _ _ refl c.all.ensures.ran (λ x b q k. search (rules, tests))
