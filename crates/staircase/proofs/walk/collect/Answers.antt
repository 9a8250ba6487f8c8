use Rattle.std.proofs.Common.{◌≡◌, ◌<◌, [], ◌∷◌, length, get_or, take, sym, ap, subst, arith}
use Rattle.std.proofs.lemmas.List.{length-take-le, get_or-take, length-append}
use Rattle.std.proofs.ByRecursion.{All-get_or}
use Rattle.order.specs.declared.monomial.Monomial.{Monomial}
use Rattle.order.specs.Monomials.{one, monomial}
use Rattle.algebra.specs.Records.{Within}
use Rattle.staircase.specs.Walk.{Offered, Grown}
use Rattle.staircase.proofs.Walking.{walked_first, walked_more, good_none, good_push, one_within}
use Rattle.staircase.proofs.walk.collect.Goals as goal

pub returns-in_err-count : goal.returns-in_err-count
returns-in_err-count c =
    let e = c.in_err-count.ensures in
    rw c.from_residual.ensures (record {
      fits = tt;
      walked = tt;
      full = (c.one.result ∷ [], omega (arith, e.full), good_push c.args.n c.args.leads.now [] c.one.result (good_none c.args.n c.args.leads.now) (subst (Within c.args.n) (sym c.one.ensures) (one_within c.args.n)) e.new);
    })

pub loop-i-init : goal.loop-i-init
loop-i-init c =
    let e = c.in_ok-count.ensures in
    let r = take c.in_ok-count.count c.offer.new.found in
    (omega arith, omega (arith, e.fits), walked_first c.args.n c.args.leads.now r (subst (λ (m : Monomial). Offered c.args.leads.now [] m r) c.one.ensures e.offered))

pub grow-requires : goal.grow-requires
unfolding one monomial
grow-requires c =
    let inv = c.loop-i.invariant in
    let l = take c.loop-i.count c.loop-i.found in
    let lt : c.loop-i.i < length l = omega (arith, length-take-le c.loop-i.count c.loop-i.found inv.1) in
    record { room = inv.1; good = inv.2.good; within = subst (Within c.args.n) (get_or-take c.loop-i.count c.loop-i.found c.loop-i.i one c.loop-i-test.true) (All-get_or (Within c.args.n) l c.loop-i.i one lt inv.2.good.within) }

pub loop-i-preserved : goal.loop-i-preserved
unfolding one monomial
loop-i-preserved c =
    let inv = c.loop-i.invariant in
    let i = c.loop-i.i in
    let l = take c.loop-i.count c.loop-i.found in
    let r = take c.in_ok-count-2.count c.grow.new.found in
    let e = c.in_ok-count-2.ensures in
    let long = length-take-le c.loop-i.count c.loop-i.found inv.1 in
    let lt : i < length l = omega (arith, long) in
    let same : get_or c.loop-i.found i one ≡ get_or l i one = sym (get_or-take c.loop-i.count c.loop-i.found i one c.loop-i-test.true) in
    let more = length-append l e.grown.begins.0 in
    (omega (arith, lt, more, ap length e.grown.begins.1, length-take-le c.in_ok-count-2.count c.grow.new.found (omega (arith, e.fits))), omega (arith, e.fits), walked_more c.args.n c.args.leads.now l i r inv.2 lt (subst (λ (m : Monomial). Grown c.args.n c.args.leads.now l m c.args.n r) same e.grown))
