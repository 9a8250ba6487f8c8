use Rattle.std.proofs.Common.{refl, rules, tests}
use Rattle.order.specs.Monomials.{exponent}
use Rattle.runs.specs.Enter.{InRange}
use Rattle.polynomials.specs.declared.fault.JobFault.TheVariants.{Exponent}
use Rattle.polynomials.proofs.Read.{monomials_asked}
use Rattle.polynomials.proofs.questions.ask_exponents.Goals as goal

pub returns : goal.returns
unfolding exponent
returns c line = monomials_asked 10 line c.args.terms.now (InRange c.args.n) Exponent (λ p. (refl, refl)) c.position-first.result c.refuse_first.result (search (rules, tests)) (search (rules, tests))
