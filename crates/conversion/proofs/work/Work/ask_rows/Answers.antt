use Rattle.std.proofs.lemmas.Result.{err_from_is_err_and}
use Rattle.conversion.specs.Powers.{unit, measure}
use Rattle.conversion.proofs.Asking.{rows_asked}
use Rattle.conversion.proofs.work.Work.ask_rows.Goals as goal

pub returns-in_err-measure_on : goal.returns-in_err-measure_on
returns-in_err-measure_on g c =
    let p = err_from_is_err_and c.from_residual.result c.from_residual.ensures.1 in
    rw p.1 (λ laws half ready. absurd (c.in_err-measure_on.ensures.fits ready))

pub returns : goal.returns
returns g c laws half =
    let m = g.F.Field.meaning c.args.by.now.matrices.field.now in
    let t = c.args.by.now.matrices.tables.now in
    let k = c.args.by.now.k in
    let r = c.args.by.now.r.now in
    let s = measure m laws t k r (unit m laws) in
    let whole = c.in_ok-measure_on.ensures.measured laws half in
    rows_asked m laws t k r c.args.by.now.matrices.n c.measure_on.new.sequence c.ask_length.new.connection whole c.ask_length.result (c.ask_length.ensures laws s whole)
