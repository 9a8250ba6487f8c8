use Rattle.std.proofs.Common.{length, Result, sym, subst, rules}
use Rattle.column.specs.declared.reader.Reader.{Reader}
use Rattle.text.specs.declared.fault.TextFault.{TextFault}
use Rattle.text.specs.declared.fault.TextFault.TheVariants.{Line}
use Rattle.text.specs.Steps.{LineRead}
use Rattle.text.proofs.Mapped.{mapped}
use Rattle.text.proofs.Passing.{line_answered}
use Rattle.text.proofs.reading.read_line.Goals as goal

pub returns : goal.returns
returns c =
    let p = c.args.reader in
    let is = mapped (λ f. Line f p.place.line) c.read.result c.map_err.result _ (λ e d k. search rules) c.map_err.ensures.cases in
    subst (λ (r : Result Reader TextFault). LineRead (length c.args.words.now) p c.read.new.words r) (sym is)
    (line_answered c.args.words.now c.read.new.words p c.read.result c.read.ensures.same_text c.read.ensures.exact c.read.ensures.line_after)
