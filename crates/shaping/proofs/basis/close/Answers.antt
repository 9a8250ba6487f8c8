use Rattle.std.proofs.Common.{rules}
use Rattle.text.specs.declared.fault.TextFault.TheVariants as fault
use Rattle.text.proofs.Mapped.{mapped}
use Rattle.shaping.proofs.Loading.{closed}
use Rattle.shaping.proofs.basis.close.Goals as goal

pub returns-clause-closed : goal.returns-clause-closed
returns-clause-closed g c laws kept =
    let is = mapped (λ f. fault.Job f 0) c.close.result c.map_err.result _ (λ e d k. search rules) c.map_err.ensures.cases in
    closed (g.F.Field.meaning c.args.job.now.field) laws (g.O.Order.meaning c.args.job.now.order) c.args.job.now.table c.close.new.self.table c.close.result c.map_err.result is c.close.ensures.promised kept
