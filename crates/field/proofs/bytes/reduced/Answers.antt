use Rattle.std.proofs.Common.{◌≡◌, ℕ, sym, ap, ◌∙◌, arith}
use Rattle.field.specs.Bytes.{poly_remainder}
use Rattle.field.proofs.ByteSteps.{remainder_step}
use Rattle.field.proofs.bytes.reduced.Goals as goal

pub loop-k-preserved : goal.loop-k-preserved
loop-k-preserved c =
    let h = c.loop-k.invariant in
    let s = remainder_step c.loop-k.k c.loop-k.r c.loop-k-test.true c.loop-k.auto.k h.1 in
    (s.0 ∙ h.0, s.1)

pub returns : goal.returns
unfolding poly_remainder
returns c =
    let e : c.loop-k.k ≡ 0 = omega arith in
    sym (ap (λ (x : ℕ). poly_remainder x c.loop-k.r) e) ∙ c.loop-k.invariant.0
