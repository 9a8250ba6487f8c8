use Rattle.std.proofs.Common.{◌∙◌, rules}
use Rattle.order.specs.Monomials.{one, monomial}
use Rattle.polynomials.proofs.Read.{first_read}
use Rattle.polynomials.proofs.questions.first_term.Goals as goal

pub returns-clause-monomial : goal.returns-clause-monomial
unfolding one monomial
returns-clause-monomial c = first_read c.args.terms.now c.copied.result c.unwrap_or_default.result _ (c.copied.ensures ∙ c.first.ensures.value) c.unwrap_or_default.ensures (λ u d. search rules)
