use Rattle.std.proofs.Common.{ℕ, sym, subst, add-one, arith}
use Rattle.linear.proofs.Writes.{put}
use Rattle.tables.specs.Holds.{stair_count}
use Rattle.conversion.specs.Powers.{Stands, power, measure}
use Rattle.conversion.proofs.Standing.{dots}
use Rattle.conversion.proofs.powers.Conversion.measure.Goals as goal

pub loop-word-init : goal.loop-word-init
loop-word-init g c laws f s = (λ j h. absurd (omega arith), s)

pub loop-word-preserved : goal.loop-word-preserved
loop-word-preserved g c laws f s =
    let m = g.F.Field.meaning c.args.self.now.matrices.field.now in
    let t = c.args.self.now.matrices.tables.now in
    let k = c.args.self.now.k in
    let j = c.loop-word.word-index in
    let inv = c.loop-word.invariant laws f s in (
      put c.loop-word.out j c.dot.result (λ i. (measure m laws t k c.args.self.now.r.now f i).0) (omega arith) inv.0
          (dots m laws (stair_count t) c.args.self.now.r.now c.loop-word.walk.vector c.dot.result (power m laws t k f j) c.args.self.now.exact (omega (arith, t.few)) c.dot.ensures.elements inv.1),
      subst (λ (i : ℕ). Stands m (stair_count t) c.advance.new.walk.vector (power m laws t k f i)) (sym (add-one j)) (c.in_ok-advance.ensures.advanced laws (power m laws t k f j) inv.1),
    )

pub returns : goal.returns
returns g c = record { fits = tt; measured = λ laws f s j h. (c.loop-word.invariant laws f s).0 j (omega arith) }
