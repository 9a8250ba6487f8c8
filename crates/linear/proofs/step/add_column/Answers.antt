use Rattle.std.proofs.Common.{ℕ, ◌+◌, ◌-◌, ◌*◌, ◌<◌, ◌≤◌, List, length, get_or, take, drop, sym, ap, ◌∙◌, subst, arith}
use Rattle.linear.specs.Words.{added}
use Rattle.linear.specs.Step.{entry, Within}
use Rattle.linear.specs.declared.step.Place.{Place}
use Rattle.linear.specs.declared.step.Place.TheVariants.{Stair, Border}
use Rattle.linear.proofs.Columns
use Rattle.linear.proofs.step.add_column.Goals as goal

pub returns-then-word-zero : goal.returns-then-word-zero
returns-then-word-zero g c t els j h =
    let F = c.args.field.now in
    Columns.skipped (g.F.Field.meaning F) (g.met.F.Field.lawful F) (g.met.F.Field.everywhere F) _ _ c.args.word (els j h) (c.if-word-zero.true ∙ c.zero.ensures)

pub returns-in-Stair : goal.returns-in-Stair
returns-in-Stair g c t els j h =
    let F = c.args.field.now in
    let p = c.from-p.result in
    let is = c.in-Stair.is ∙ ap Stair (sym c.from-p.ensures) in
    let within : p < length c.args.out.now = subst (Within (length c.args.out.now) (length c.args.matrix.columns.now) c.args.matrix.stride) is c.requires in
    Columns.unit_added (g.F.Field.meaning F) (g.met.F.Field.lawful F) (g.met.F.Field.everywhere F) c.args.out.now c.args.matrix.columns.now c.args.matrix.stride p c.args.word c.add.result within c.add.ensures t els j h
    ∙ ap (λ (q : Place). (g.F.Field.meaning F).add (get_or c.args.out.now j 0) ((g.F.Field.meaning F).mul (entry (g.F.Field.meaning F) c.args.matrix.columns.now c.args.matrix.stride q j) c.args.word)) (sym is)

pub returns-in-Border : goal.returns-in-Border
returns-in-Border g c t els j h =
    let F = c.args.field.now in
    let b = c.from.result in
    let is = c.in-Border.is ∙ ap Border (sym c.from.ensures) in
    let ys = c.args.out.now in
    let columns = c.args.matrix.columns.now in
    let within : b * c.args.matrix.stride + length ys ≤ length columns = subst (Within (length ys) (length columns) c.args.matrix.stride) is c.requires in
    ap (λ (zs : List ℕ). get_or zs j 0) (c.add_multiple.ensures.sums ∙ ap (λ n. added (g.F.Field.meaning F) c.args.word (take n (drop (b * c.args.matrix.stride) columns)) ys) {x = b * c.args.matrix.stride + length ys - b * c.args.matrix.stride} {y = length ys} (omega arith))
    ∙ Columns.column_added (g.F.Field.meaning F) (g.met.F.Field.lawful F) (g.met.F.Field.everywhere F) ys columns c.args.matrix.stride b c.args.word within j h
    ∙ ap (λ (q : Place). (g.F.Field.meaning F).add (get_or ys j 0) ((g.F.Field.meaning F).mul (entry (g.F.Field.meaning F) columns c.args.matrix.stride q j) c.args.word)) (sym is)
