use Rattle.std.proofs.lemmas.Result.{err_from_is_err_and}
use Rattle.conversion.proofs.Asking.{shape_asked}
use Rattle.conversion.proofs.work.Work.ask_shape.Goals as goal

pub returns-in_err-krylov : goal.returns-in_err-krylov
returns-in_err-krylov g c =
    let p = err_from_is_err_and c.from_residual.result c.from_residual.ensures.1 in
    rw p.1 (λ laws ready. absurd (c.in_err-krylov.ensures.fits ready))

pub returns : goal.returns
returns g c laws =
    let m = g.F.Field.meaning c.args.by.now.matrices.field.now in
    let by = c.args.by.now in
    let e = c.in_ok-krylov.ensures in
    shape_asked m laws by.matrices.tables.now by.k by.r.now by.matrices.n c.krylov.new.words c.krylov.new.walk.vector (record { measured = e.words laws; next = e.next laws }) c.ask_independent.result (c.ask_independent.ensures laws (e.vectors laws))
