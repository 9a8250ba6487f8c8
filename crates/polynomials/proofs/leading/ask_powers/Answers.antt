use Rattle.std.proofs.Common.{◌≡◌, ℕ, true, false, List, refl, sym, ◌∙◌, arith, rules, tests}
use mathlib.Core.Bool.{false≢true}
use Rattle.std.proofs.lemmas.Iterator.{IsFirst-from_position, YieldsList-from_range}
use Rattle.order.specs.declared.monomial.Monomial.{Monomial}
use Rattle.algebra.specs.Lists.{any}
use Rattle.order.specs.Monomials.{power_of}
use Rattle.polynomials.specs.declared.fault.JobFault.TheVariants.{NoPower}
use Rattle.polynomials.proofs.Answering.{first_of_range, asked_first}
use Rattle.polynomials.proofs.leading.ask_powers.Goals as goal

abbrev Has : List Monomial → ℕ → Type 0
Has ls k = any (power_of k) ls ≡ true

abbrev Lacks : List Monomial → ℕ → Type 0
Lacks ls k = any (power_of k) ls ≡ false

pub returns : goal.returns
returns c =
    let ls = c.args.leads.now in
    let n = c.args.n in
    let first = IsFirst-from_position _ _ c.position-first.result (Lacks ls) (Has ls) c.position-first.ensures.ran (YieldsList-from_range 0 n n refl (omega arith)) (λ x q k. search (rules, tests)) (λ x q k. search (rules, tests)) in
    asked_first 14 0 n (Has ls) NoPower (λ p. (refl, refl)) c.position-first.result c.refuse_first.result (first_of_range n (Has ls) (Lacks ls) (λ j f y. false≢true (sym f ∙ y)) c.position-first.result first) (search (rules, tests))
