use Rattle.std.proofs.Common.{Result, IsOk, sym, refl, rules}
use Rattle.polynomials.specs.declared.fault.JobFault.{JobFault}
use Rattle.tables.proofs.Answered.{on_ok}
use Rattle.runs.specs.Call.{fill}
use Rattle.runs.specs.Job.{Job}
use Rattle.std.proofs.Common.{subst}
use Rattle.job.specs.State.{state}
use Rattle.job.specs.Promise.{Promised}
use Rattle.text.specs.declared.fault.TextFault.TheVariants as fault
use Rattle.text.specs.Filled.{Filled, answer_of}
use Rattle.text.proofs.Mapped.{mapped, mapped_ok, at_ok}
use Rattle.shaping.proofs.Loading.{with_same}
use Rattle.shaping.proofs.basis.fill_new.Goals as goal

pub returns-clause-filled : goal.returns-clause-filled
returns-clause-filled g c =
    let m = g.F.Field.meaning c.args.job.now.field in
    let cmp = g.O.Order.meaning c.args.job.now.order in
    let is = mapped (λ f. fault.Job f 1) c.open.result c.map_err.result _ (λ e d k. search rules) c.map_err.ensures.cases in
    let opened = at_ok _ _ c.open.result tt (mapped_ok (λ f. fault.Job f 1) c.open.result c.map_err.result tt is c.in_ok-map_err.was) c.open.ensures.opened in
    subst (λ (j : Job). Filled m cmp c.args.text.now j (state c.fill.new.job.table) c.fill.result) opened
    (with_same g.F.Field.meaning g.O.Order.meaning _ _ _ _ c.open.ensures.same_field_and_order (λ m cmp. Filled m cmp c.args.text.now (state c.open.new.self.table) (state c.fill.new.job.table) c.fill.result) c.fill.ensures.filled)

pub returns-clause-kept : goal.returns-clause-kept
returns-clause-kept g c laws =
    let is = mapped (λ f. fault.Job f 1) c.open.result c.map_err.result _ (λ e d k. search rules) c.map_err.ensures.cases in
    let went = mapped_ok (λ f. fault.Job f 1) c.open.result c.map_err.result tt is c.in_ok-map_err.was in
    let kept = on_ok c.open.result (subst (λ (r : Result Unit JobFault). IsOk r) (sym went) refl) c.open.ensures.kept laws in
    (with_same g.F.Field.meaning g.O.Order.meaning _ _ _ _ c.open.ensures.same_field_and_order (λ m cmp. Promised m cmp c.open.new.self.table (fill c.args.text.now) (answer_of c.fill.result) c.fill.new.job.table) c.fill.ensures.promised).kept laws kept
