use Rattle.std.proofs.Common.{length, refl, ◌∙◌}
use Rattle.linear.specs.Elimination.{pitch}
use Rattle.linear.proofs.Room.{own_lends, own_solves}
use Rattle.linear.proofs.elimination.Echelon.solve.Goals as goal

pub returns-clause-refused : goal.returns-clause-refused
returns-clause-refused g c h =
    let own = own_solves (length c.args.vector.now) (length c.args.out.now) g.row.ROWS {rows = length c.args.self.now.rows} {work = pitch} c.args.self.now.pivots (cc) (cc) refl in
    (c.solve.ensures.refused (own ∙ h)).0

pub returns-clause-answered : goal.returns-clause-answered
returns-clause-answered g c h =
    let own = own_solves (length c.args.vector.now) (length c.args.out.now) g.row.ROWS {rows = length c.args.self.now.rows} {work = pitch} c.args.self.now.pivots (cc) (cc) refl in
    c.solve.ensures.answered (own ∙ h)

pub returns-clause-solved : goal.returns-clause-solved
returns-clause-solved g c h =
    let own = own_lends (length c.args.vector.now) (length c.args.out.now) g.row.ROWS {rows = length c.args.self.now.rows} {pivots = length c.args.self.now.pivots} {work = pitch} (cc) (cc) refl in
    c.solve.ensures.solved (own ∙ h)
