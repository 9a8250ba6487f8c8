use Rattle.std.proofs.Common.{sym, ap, ◌∙◌}
use Rattle.linear.proofs.Turn.{held_same, held-short, held-long, inverse_there}
use Rattle.linear.proofs.recurrence.turn.Goals as goal

pub returns-then-miss-zero : goal.returns-then-miss-zero
returns-then-miss-zero g c laws =
    held_same _ laws (g.met.F.Field.everywhere c.args.field.now) _ _ _ _ _ _ _ (c.requires.held laws) c.requires.within c.requires.polynomial c.discrepancy-miss.result c.discrepancy-miss.ensures (c.if-miss-zero.true ∙ c.zero.ensures)

pub returns-in_default : goal.returns-in_default
returns-in_default g c laws = absurd (inverse_there _ laws _ _ _ _ _ _ _ (c.requires.held laws) (sym c.inverse.ensures ∙ c.in_default.is))

pub returns-then-n-l : goal.returns-then-n-l
returns-then-n-l g c laws =
    let m = g.F.Field.meaning c.args.field.now in
    held-short m laws (g.met.F.Field.everywhere c.args.field.now) _ _ _ _ _ _ _ (c.requires.held laws) c.requires.within c.requires.polynomial c.discrepancy-miss.result c.discrepancy-miss.ensures
    (λ e. c.if-miss-zero.false (e ∙ sym c.zero.ensures)) c.in-Some.inverse c.neg-by.result (sym c.inverse.ensures ∙ c.in-Some.is) (c.neg-by.ensures ∙ ap m.neg c.mul.ensures) _ c.correct.ensures c.if-n-l.true

pub returns : goal.returns
returns g c laws =
    let m = g.F.Field.meaning c.args.field.now in
    held-long m laws (g.met.F.Field.everywhere c.args.field.now) _ _ _ _ _ _ _ (c.requires.held laws) c.requires.within c.requires.polynomial c.discrepancy-miss.result c.discrepancy-miss.ensures
    (λ e. c.if-miss-zero.false (e ∙ sym c.zero.ensures)) c.in-Some.inverse c.neg-by.result (sym c.inverse.ensures ∙ c.in-Some.is) (c.neg-by.ensures ∙ ap m.neg c.mul.ensures) _ c.correct-2.ensures
    _ (c.copy_from_slice-2.ensures.after ∙ c.copy_from_slice.ensures.after) c.if-n-l.false
