use Rattle.std.proofs.Common.{◌++◌, ap₂}
use Rattle.evaluation.proofs.Padding.{zeros_then_words, zeros}
use Rattle.evaluation.proofs.terms.Lines.first.Goals as goal

pub returns : goal.returns
returns c =
    let z = zeros c.args.columns c.requires in
    ap₂ ◌++◌ (zeros_then_words c.args.self.text.now _ c.read_line.new.words c.args.self.at c.args.columns z.0 c.read_line.ensures.words_taken) z.1
