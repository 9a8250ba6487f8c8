use Rattle.std.proofs.Common.{refl, length, get_or, rules, tests}
use Rattle.order.specs.Monomials.{one}
use Rattle.polynomials.specs.Leads.{Apart}
use Rattle.polynomials.specs.declared.fault.JobFault.TheVariants.{Divided}
use Rattle.polynomials.proofs.Answering.{asked_first}
use Rattle.polynomials.proofs.leading.ask_apart.Goals as goal

pub returns : goal.returns
returns c = asked_first 15 0 (length c.args.leads.now) (λ j. Apart c.args.leads.now j (get_or c.args.leads.now j one)) Divided (λ p. (refl, refl)) c.position-first.result c.refuse_first.result (search rules) (search (rules, tests))
