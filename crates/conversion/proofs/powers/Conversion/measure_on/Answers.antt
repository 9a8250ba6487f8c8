use Rattle.std.proofs.Common.{◌≡◌, ℕ, ◌+◌, ◌-◌, ◌≤◌, length, take, drop, ap, ◌∙◌, arith}
use Rattle.std.proofs.lemmas.Result.{on_ok_weaker}
use Rattle.algebra.specs.Elements.{Elem}
use Rattle.tables.specs.Holds.{stair_count}
use Rattle.conversion.specs.Powers.{unit, power, measure}
use Rattle.conversion.proofs.Overwriting.{part_length, joined_halves}
use Rattle.conversion.proofs.Standing.{measure_more}
use Rattle.conversion.proofs.powers.Conversion.measure_on.Goals as goal

pub returns : goal.returns
returns g c =
    let m = g.F.Field.meaning c.args.self.now.matrices.field.now in
    let t = c.args.self.now.matrices.tables.now in
    let k = c.args.self.now.k in
    let r = c.args.self.now.r.now in
    let d = c.size-d.result in
    let xs = c.args.sequence.now in
    let w : ℕ = d + d - d in
    let wd : w ≡ d = omega arith in
    let fits : d + w ≤ length xs = omega (arith, t.few) in
    let part : length (take w (drop d xs)) ≡ w = part_length d w xs fits in
    record {
      fits = c.measure.ensures.fits;
      measured = on_ok_weaker c.measure.result (λ measured laws half j h.
          joined_halves (λ (i x : ℕ). x ≡ (measure m laws t k r (unit m laws) i).0) d w xs c.measure.new.out fits (c.measure.auto.out ∙ part) wd
          (λ i q. half.measured i (omega arith))
          (λ i q.
          let at : stair_count t + i ≡ d + i = omega arith in
          measured laws (power m laws t k (unit m laws) (stair_count t)) half.next i (omega arith)
          ∙ ap (λ (x : Elem m). x.0) (measure_more m laws t k r (unit m laws) (stair_count t) i ∙ ap (measure m laws t k r (unit m laws)) at))
          j (omega arith)) c.measure.ensures.measured;
    }
