use Rattle.std.proofs.Common.{◌≡◌, ℕ, ◌<◌, List, length, take, drop, replicate, ◌∙◌, arith}
use Rattle.std.proofs.lemmas.List.{get_or_append_left, length-take-le}
use Rattle.conversion.proofs.powers.Conversion.right_side.Goals as goal

pub returns-clause-measured : goal.returns-clause-measured
returns-clause-measured g c laws ne j h =
    let t = c.args.self.now.matrices.tables.now in
    let out = c.measure.new.out in
    let zeros : List ℕ = replicate 48 0 in
    let room : length (take c.size.result zeros) ≡ c.size.result = length-take-le c.size.result zeros (omega (arith, t.few, c.size.ensures)) in
    let inside : j < length out = omega (arith, c.size.ensures, c.measure.auto.out, room) in
    get_or_append_left out (drop c.size.result zeros) 0 j inside ∙ c.in_ok-measure.ensures.measured laws _ (c.in_ok-advance.ensures.advanced laws _ (λ j h. c.start.ensures laws j (omega (arith, t.few)))) j (omega (arith, c.size.ensures, room))
