use Rattle.evaluation.proofs.Padding.{lines_from_byte}
use Rattle.evaluation.proofs.terms.Lines.after.Goals as goal

pub returns-clause-rest : goal.returns-clause-rest
returns-clause-rest c = lines_from_byte c.args.columns c.args.count c.args.self.text.now c.args.self.at _ c.ranges.self.0 c.saturating_add.ensures
