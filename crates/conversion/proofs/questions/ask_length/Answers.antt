use Rattle.std.proofs.Common.{◌≡◌, ◌+◌, ◌-◌, length, take, refl, ◌∙◌, arith}
use Rattle.std.proofs.lemmas.List.{length-take-le}
use Rattle.tables.specs.Holds.{stair_count}
use Rattle.conversion.proofs.Standing.{front_reads}
use Rattle.conversion.proofs.Lengths.{least_of, full_length}
use Rattle.conversion.proofs.questions.ask_length.Goals as goal

pub returns-then-l-d : goal.returns-then-l-d
returns-then-l-d g c laws s st =
    let m = g.F.Field.meaning c.args.matrices.now.field.now in
    let t = c.args.matrices.now.tables.now in
    let d = stair_count t in
    let xs = take (c.size-d.result + c.size-d.result - 0) c.args.sequence.now in
    let long : length xs ≡ d + d = length-take-le (c.size-d.result + c.size-d.result - 0) c.args.sequence.now (omega (arith, t.few)) ∙ omega arith in
    let same = front_reads m laws (d + d) (c.size-d.result + c.size-d.result - 0) c.args.sequence.now s (omega arith) (omega (arith, t.few)) st in
    let found = rw c.in_ok-l.ensures.ok_part at c.recurrence_length.ensures.shortest in
    (c.in_ok-l.l, refl, λ e. c.if-l-d.true (omega arith), least_of m laws xs s (d + d) long same c.in_ok-l.l (found laws).least)

pub returns : goal.returns
returns g c laws s st =
    let m = g.F.Field.meaning c.args.matrices.now.field.now in
    let t = c.args.matrices.now.tables.now in
    let d = stair_count t in
    let xs = take (c.size-d.result + c.size-d.result - 0) c.args.sequence.now in
    let long : length xs ≡ d + d = length-take-le (c.size-d.result + c.size-d.result - 0) c.args.sequence.now (omega (arith, t.few)) ∙ omega arith in
    let same = front_reads m laws (d + d) (c.size-d.result + c.size-d.result - 0) c.args.sequence.now s (omega arith) (omega (arith, t.few)) st in
    let found = rw c.in_ok-l.ensures.ok_part at c.recurrence_length.ensures.shortest in
    full_length m laws d xs c.recurrence_length.new.c s c.in_ok-l.l long same (omega (arith, t.few)) (found laws) (omega arith)
