use Rattle.std.proofs.Common.{length, ◌∙◌}
use Rattle.linear.proofs.Room.{own_takes}
use Rattle.linear.proofs.elimination.Echelon.eliminate.Goals as goal

pub returns-clause-refused : goal.returns-clause-refused
returns-clause-refused g c h =
    let family = c.args.family in
    c.eliminate.ensures.refused (own_takes family.places family.count family.stride (length family.words.now) g.row.ROWS (cc) (cc) (cc) ∙ h)

pub returns-clause-eliminated : goal.returns-clause-eliminated
returns-clause-eliminated g c h =
    let family = c.args.family in
    c.eliminate.ensures.eliminated (own_takes family.places family.count family.stride (length family.words.now) g.row.ROWS (cc) (cc) (cc) ∙ h)
