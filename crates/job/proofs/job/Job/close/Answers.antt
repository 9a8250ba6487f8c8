use Rattle.std.proofs.Common.{sym, ap}
use Rattle.job.specs.declared.table.Table.{Table}
use Rattle.job.proofs.Promises.{on_error}
use Rattle.job.proofs.Closing.{close_closed, as_was, close_unmade, close_made}
use Rattle.job.proofs.job.Job.close.Goals as goal

pub returns-in_err-ask_open-clause-promised : goal.returns-in_err-ask_open-clause-promised
returns-in_err-ask_open-clause-promised g c =
    let e = c.in_err-ask_open.ensures in
    close_closed (g.F.Field.meaning c.args.self.now.field) (g.O.Order.meaning c.args.self.now.order) (g.met.O.Order.lawful c.args.self.now.order) c.args.self.now.table c.from_residual.result c.in_err-ask_open.field-0.0 c.from_residual.ensures.1 e.0 e.1

pub returns-then-is_err-clause-promised : goal.returns-then-is_err-clause-promised
returns-then-is_err-clause-promised g c =
    close_unmade c.args.self.now.table c.in_ok-ask_open.ensures c.take_out.new.place _ _ (g.F.Field.meaning c.args.self.now.field) (g.O.Order.meaning c.args.self.now.order) (g.met.O.Order.lawful c.args.self.now.order) c.make_in-made.new.place c.make_in-made.result (sym c.if-is_err.ensures.value) c.make_in-made.ensures c.take_out.ensures

pub returns-then-is_err-clause-refused_as_was : goal.returns-then-is_err-clause-refused_as_was
returns-then-is_err-clause-refused_as_was g c = on_error c.make_in-made.result (ap (λ (t : Table). record c.args.self.now { table = t }) (as_was c.args.self.now.table c.in_ok-ask_open.ensures c.take_out.new.place _ _ c.take_out.ensures))

pub returns-else-is_err-clause-promised : goal.returns-else-is_err-clause-promised
returns-else-is_err-clause-promised g c =
    close_made c.args.self.now.table c.in_ok-ask_open.ensures c.make_in-made.new.place _ _ (g.F.Field.meaning c.args.self.now.field) (g.O.Order.meaning c.args.self.now.order) (g.met.O.Order.lawful c.args.self.now.order) c.make_in-made.result (sym c.if-is_err.ensures.value) c.make_in-made.ensures
