use Rattle.std.proofs.Common.{arith}
use Rattle.polynomials.proofs.Read.{leads_room}
use Rattle.polynomials.proofs.store.Polynomials.leads.Goals as goal

pub push-requires : goal.push-requires
push-requires c = omega (arith, leads_room c.args.self.now c.loop-terms.leads.items _ _ c.in-Some.terms.now c.in-Some.ensures.steps c.loop-terms.invariant)
