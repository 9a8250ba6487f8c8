use Rattle.std.proofs.Common.{arith}
use Rattle.linear.proofs.Turn
use Rattle.linear.proofs.recurrence.shortest.Goals as goal

pub loop-n-init : goal.loop-n-init
loop-n-init g c laws =
    Turn.held_start _ laws _ _ _ _ c.one.ensures
    (omega arith) c.put_one.ensures.first (λ k a h. c.put_one.ensures.others k a (omega arith))
    (omega arith) c.put_one-2.ensures.first (λ k a h. c.put_one-2.ensures.others k a (omega arith))

pub turn-stage-requires-clause-length : goal.turn-stage-requires-clause-length
turn-stage-requires-clause-length g c = (Turn.sizes _ _ _ _ _ _ _ _ _ (c.loop-n.invariant (g.met.F.Field.lawful c.args.field.now))).0

pub turn-stage-requires-clause-lag : goal.turn-stage-requires-clause-lag
turn-stage-requires-clause-lag g c = let I = Turn.sizes _ _ _ _ _ _ _ _ _ (c.loop-n.invariant (g.met.F.Field.lawful c.args.field.now)) in omega (arith, I.1)

pub returns : goal.returns
returns g c laws = Turn.shortest _ laws _ _ _ _ c.loop-n.n _ _ (c.loop-n.invariant laws) (omega arith)
