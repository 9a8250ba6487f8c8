use Rattle.std.proofs.Common.{◌≡◌, subst, arith}
use Rattle.std.proofs.lemmas.Result.{err_from_is_err_and}
use Rattle.linear.specs.Elimination.{rows, Growing}
use Rattle.linear.proofs.Carry.{table_of, failed}
use Rattle.linear.proofs.elimination.eliminate.Goals as goal

pub returns-in_err-take-clause-eliminated : goal.returns-in_err-take-clause-eliminated
returns-in_err-take-clause-eliminated g c h laws given =
    let p = err_from_is_err_and c.from_residual.result c.from_residual.ensures.1 in
    rw p.1 (failed _ laws _ _ _ _ _ _ _ p.0 c.loop-n-test.true (rw p.2 (c.in_err-take.ensures.stepped laws given (c.loop-n.invariant.3 laws given))))

pub loop-n-preserved : goal.loop-n-preserved
loop-n-preserved g c = (c.loop-n.invariant.0, c.in_ok-take.ensures.wide, c.in_ok-take.ensures.within, λ laws given. c.in_ok-take.ensures.stepped laws given (c.loop-n.invariant.3 laws given))

pub returns-clause-eliminated : goal.returns-clause-eliminated
returns-clause-eliminated g c h laws given =
    let m = g.F.Field.meaning c.args.field.now in
    let family = c.args.family in
    let all : c.loop-n.n ≡ family.count = omega arith in
    let G = subst (λ n. Growing m laws family.places family.count n (rows m laws family.stride family.words.now) c.loop-n.table c.loop-n.pivots) all (c.loop-n.invariant.3 laws given) in
    (G.taken.fresh, table_of _ laws _ _ _ _ _ _ (omega arith) G)
