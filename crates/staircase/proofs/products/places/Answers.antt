use Rattle.std.proofs.Common.{length, get_or, refl, ◌∙◌, arith}
use mathlib.Core.Bool.{false≢true}
use Rattle.std.proofs.lemmas.List.{drop-set-lt}
use Rattle.std.proofs.lemmas.Option.{MatchOption-at_some, MatchOption-at_none}
use Rattle.std.proofs.lemmas.Result.{err_from_is_err_and}
use Rattle.order.specs.Monomials.{one, monomial}
use Rattle.linear.specs.declared.step.Place.TheVariants.{Stair}
use Rattle.staircase.proofs.Placing.{stands_has, placed_more}
use Rattle.staircase.proofs.products.places.Goals as goal

pub returns-in_err-out-clause-fits : goal.returns-in_err-out-clause-fits
unfolding one monomial
returns-in_err-out-clause-fits c =
    let p = err_from_is_err_and c.from_residual.result c.from_residual.ensures.1 in
    let none = MatchOption-at_none _ _ c.in_err-out.ensures.ok_part c.product_place.ensures in
    rw p.1 (λ f. absurd (false≢true f), λ P. let x = P.stand c.loop-i.i c.loop-i-test.true in absurd (none x.0 x.1 x.2))

pub loop-i-preserved : goal.loop-i-preserved
unfolding one monomial
loop-i-preserved c =
    let inv = c.loop-i.invariant in
    let stands = MatchOption-at_some _ _ c.in_ok-out.field-0 c.in_ok-out.ensures.ok_part c.product_place.ensures in
    (placed_more c.args.k c.args.stairs.now c.args.edges.now c.loop-i.out c.loop-i.i c.in_ok-out.field-0 (omega arith) inv.0 stands, drop-set-lt (length c.args.stairs.now) c.loop-i.out c.loop-i.i c.in_ok-out.field-0 c.loop-i-test.true ∙ inv.1)

pub returns-clause-fits : goal.returns-clause-fits
returns-clause-fits c = (
  λ _. record {
    enough = omega arith;
    few_stairs = omega arith;
    few_edges = omega arith;
    stand = λ i h. let x = c.loop-i.invariant.0 i (omega arith) in (x.0, x.1, stands_has c.args.stairs.now c.args.edges.now x.0 (get_or c.loop-i.out i (Stair 0)) x.2);
  },
  λ _. refl,
)
