use Rattle.std.proofs.Common.{length, refl, ap, inl, inr, arith}
use Rattle.runs.specs.Job.{terms_held}
use Rattle.polynomials.proofs.Stored.{few_held, few_terms}
use Rattle.polynomials.proofs.store.Polynomials.ask_room.Goals as goal

pub returns-then-count-eq0 : goal.returns-then-count-eq0
returns-then-count-eq0 c line j e = inr (omega (arith, c.count.ensures, c.if-count-eq-MOST.false, ap length e, few_held c.args.self.now), inl ((λ y. omega (arith, c.if-count-eq0.true, y)), refl, refl, refl))

pub overflow_sub-terms : goal.overflow_sub-terms
overflow_sub-terms c = omega (arith, c.terms.ensures, few_terms c.args.self.now)

pub returns-then-count-terms : goal.returns-then-count-terms
returns-then-count-terms c line j e =
    inr (
      omega (arith, c.count.ensures, c.if-count-eq-MOST.false, ap length e, few_held c.args.self.now),
      inr (omega (arith, c.if-count-eq0.false), inl ((λ y. omega (arith, c.terms.ensures, c.if-count-terms.true, ap terms_held e, y)), refl, refl, refl)),
    )

pub returns : goal.returns
returns c line j e = (
  omega (arith, c.count.ensures, c.if-count-eq-MOST.false, ap length e, few_held c.args.self.now),
  (omega (arith, c.if-count-eq0.false), (omega (arith, c.terms.ensures, c.if-count-terms.false, ap terms_held e, few_terms c.args.self.now), tt)),
)
