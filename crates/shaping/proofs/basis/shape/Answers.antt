use Rattle.std.proofs.Common.{ℕ, replicate, Ok, refl, rules, subst}
use Rattle.std.proofs.lemmas.Result.{err_from_is_err_and}
use Rattle.std.proofs.lemmas.List.{length-take-le}
use Rattle.column.specs.Walk.{left}
use Rattle.text.specs.declared.fault.TextFault.TheVariants as fault
use Rattle.text.proofs.Mapped.{mapped, mapped_ok, mapped_err}
use Rattle.shaping.specs.Questions.{request_asks}
use Rattle.shaping.specs.Steps.{RefusedBy, RequestRead}
use Rattle.shaping.proofs.Shaping.{request_refused, shape_refused, shape_given}
use Rattle.shaping.proofs.basis.shape.Goals as goal

pub returns-in_err-k : goal.returns-in_err-k
returns-in_err-k g c =
    let p = err_from_is_err_and c.from_residual.result c.from_residual.ensures.1 in
    let reader = c.args.reader in
    let no = subst (λ (k : ℕ). RefusedBy (request_asks reader.place.line c.args.n k (left reader)) c.in_err-k.field-0.0) (length-take-le c.args.size (replicate 48 0) c.requires.few.1) c.in_err-k.ensures in
    rw (p.1, p.2) (record { given = λ laws bs here. request_refused _ laws _ c.args.n bs c.args.job.now.table c.args.size reader here c.in_err-k.field-0.0 no })

pub returns-in_err-map_err : goal.returns-in_err-map_err
returns-in_err-map_err g c =
    let p = err_from_is_err_and c.from_residual-in_err-map_err.result c.from_residual-in_err-map_err.ensures.1 in
    let n = c.args.n in
    let reader = c.args.reader in
    let read = subst (λ (k : ℕ). RequestRead n k reader c.read_request.new.vector (Ok c.in_ok-k.k)) (length-take-le c.args.size (replicate 48 0) c.requires.few.1) c.in_ok-k.ensures in
    let is = mapped (λ f. fault.Job f reader.place.line) c.convert.result c.map_err.result _ (λ e d k. search rules) c.map_err.ensures.cases in
    let e = mapped_err (λ f. fault.Job f reader.place.line) c.convert.result c.map_err.result c.in_err-map_err.field-0.0 is c.in_err-map_err.was in
    rw (p.1, p.2, e.2)
    (record {
      given = λ laws bs here. shape_refused (g.F.Field.meaning c.args.job.now.field) laws (g.O.Order.meaning c.args.job.now.order) n bs c.args.job.now.table c.args.size reader here
          c.in_ok-k.k c.read_request.new.vector read.0 read.1 read.2 c.convert.new.out c.convert.result c.convert.ensures.promised e.0 e.1;
    })

pub returns : goal.returns
returns g c =
    let n = c.args.n in
    let reader = c.args.reader in
    let read = subst (λ (k : ℕ). RequestRead n k reader c.read_request.new.vector (Ok c.in_ok-k.k)) (length-take-le c.args.size (replicate 48 0) c.requires.few.1) c.in_ok-k.ensures in
    let is = mapped (λ f. fault.Job f reader.place.line) c.convert.result c.map_err.result _ (λ e d k. search rules) c.map_err.ensures.cases in
    let e = mapped_ok (λ f. fault.Job f reader.place.line) c.convert.result c.map_err.result tt is c.in_ok-map_err.was in
    record {
      given = λ laws bs here. shape_given (g.F.Field.meaning c.args.job.now.field) laws (g.O.Order.meaning c.args.job.now.order) n bs c.args.job.now.table c.args.size reader here
          c.in_ok-k.k c.read_request.new.vector read.0 read.1 read.2 c.convert.new.out c.convert.result c.convert.ensures.promised e _ refl refl refl refl;
    }
