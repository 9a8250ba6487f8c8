use Rattle.std.proofs.Common.{[], ◌∷◌, ◌++◌, take, sym, ◌∙◌, arith}
use Rattle.std.proofs.lemmas.List.{length_push, length-take-le}
use Rattle.algebra.specs.Records.{Within}
use Rattle.staircase.proofs.Walking.{grown_offer, good_push, raised_within}
use Rattle.staircase.proofs.walk.grow.Goals as goal

pub returns-in_err-count : goal.returns-in_err-count
returns-in_err-count c =
    let l = take c.loop-k.count c.loop-k.found in
    let t = c.in-Some.t in
    let inv = c.loop-k.invariant in
    let e = c.in_err-count.ensures in
    let w : Within c.args.n t = raised_within c.args.n c.loop-k.k c.args.m t c.loop-k-test.true c.requires.within (sym c.in-Some.ensures) in
    rw c.from_residual.ensures (record {
      fits = tt;
      grown = tt;
      full = (l ++ t ∷ [], length_push l t ∙ omega (arith, length-take-le c.loop-k.count c.loop-k.found inv.0, e.full), good_push c.args.n c.args.leads.now l t inv.1.good w e.new);
    })

pub loop-k-preserved : goal.loop-k-preserved
loop-k-preserved c =
    let inv = c.loop-k.invariant in
    let e = c.in_ok-count.ensures in
    let up = sym c.in-Some.ensures in
    (omega (arith, e.fits), grown_offer c.args.n c.args.leads.now _ c.args.m c.loop-k.k _ c.in-Some.t _ inv.1 up (raised_within c.args.n c.loop-k.k c.args.m c.in-Some.t c.loop-k-test.true c.requires.within up) e.offered)
