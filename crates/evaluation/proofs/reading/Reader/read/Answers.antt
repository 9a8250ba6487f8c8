use Rattle.std.proofs.Common.{refl}
use Rattle.std.proofs.lemmas.Result.{IfOk-at_ok}
use Rattle.column.proofs.Mapped.{mapped_ok}
use Rattle.evaluation.proofs.Passing.{line_passed}
use Rattle.evaluation.proofs.reading.Reader.read.Goals as goal

pub returns : goal.returns
returns c =
    let e = mapped_ok _ c.read.result c.map_err.result c.in_ok-here.here c.in_ok-here.was c.map_err.ensures.cases in
    record { asked = (refl, line_passed c.args.words.now c.read.new.words c.args.self.here _ _ e (IfOk-at_ok _ e c.read.ensures.same_text) c.read.ensures.place_after c.read.ensures.words_taken (IfOk-at_ok _ e c.read.ensures.line_after)) }
