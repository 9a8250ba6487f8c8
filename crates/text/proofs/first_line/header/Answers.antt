use Rattle.std.proofs.Common.{ℕ, Result, replicate, subst, rules}
use Rattle.column.specs.declared.line.LineFault.{LineFault}
use Rattle.column.specs.Line.{LineTaken}
use Rattle.text.specs.declared.fault.TextFault.TheVariants.{Line}
use Rattle.text.proofs.Mapped.{mapped, mapped_ok}
use Rattle.text.proofs.Passing.{line_yes}
use Rattle.text.proofs.first_line.header.Goals as goal

pub returns-clause-asked : goal.returns-clause-asked
returns-clause-asked c =
    let is = mapped (λ f. Line f 1) c.read_line.result c.map_err.result _ (λ e d k. search rules) c.map_err.ensures.cases in
    let read = mapped_ok (λ f. Line f 1) c.read_line.result c.map_err.result c.in_ok-map_err.field-0 is c.in_ok-map_err.was in
    let taken = subst (λ (r : Result ℕ LineFault). LineTaken c.args.bytes.now 0 (replicate 4 0) c.read_line.new.words r) read c.read_line.ensures.exact in
    line_yes 4 c.args.bytes.now 1 c.read_line.new.words taken.1
