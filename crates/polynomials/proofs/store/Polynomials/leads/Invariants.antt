use Rattle.std.proofs.Common.{◌≡◌, ◌++◌, map}
use Rattle.polynomials.specs.Held.{held, terms_of}
use Rattle.polynomials.specs.Left.{entries_left}
use Rattle.polynomials.specs.Leads.{leads_of}
use Rattle.polynomials.proofs.store.Polynomials.leads.Given as goal

abbrev pub invariant-loop-terms : goal.invariant-loop-terms
invariant-loop-terms l = l.leads.items ++ leads_of (map terms_of (entries_left l.terms-iterator)) ≡ leads_of (held l.self)
