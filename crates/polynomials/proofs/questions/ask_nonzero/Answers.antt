use Rattle.std.proofs.Common.{◌≢◌, T, refl, rules, tests}
use Rattle.polynomials.specs.declared.fault.JobFault.TheVariants.{Coefficient}
use Rattle.polynomials.proofs.Read.{coefficients_asked}
use Rattle.polynomials.proofs.questions.ask_nonzero.Goals as goal

pub returns : goal.returns
returns g c line = coefficients_asked 9 line c.args.terms.now (λ w. T ((g.F.Field.meaning c.args.field.now).elem w) × (w ≢ (g.F.Field.meaning c.args.field.now).zero)) Coefficient (λ p. (refl, refl)) c.position-first.result c.refuse_first.result (search (rules, tests)) (search (rules, tests))
