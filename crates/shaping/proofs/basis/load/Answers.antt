use Rattle.std.proofs.Common.{Ok, Err, arith}
use Rattle.std.proofs.lemmas.Result.{err_from_is_err_and}
use Rattle.field.specs.Meaning.{FieldLaws}
use Rattle.job.specs.State.{Kept}
use Rattle.shaping.specs.Steps.{Closed}
use Rattle.shaping.proofs.Loading.{with_same, not_filled, not_closed, at_request}
use Rattle.shaping.proofs.basis.load.Goals as goal

pub returns-in_err-end-clause-loaded : goal.returns-in_err-end-clause-loaded
returns-in_err-end-clause-loaded g c laws =
    let p = err_from_is_err_and c.from_residual.result c.from_residual.ensures.1 in
    rw (p.1, p.2) (not_filled (g.F.Field.meaning c.args.job.now.field) laws (g.O.Order.meaning c.args.job.now.order) c.args.n c.args.text.now c.fill_new.new.job.table c.in_err-end.field-0.0 c.in_err-end.ensures.filled)

pub returns-in_err-size-clause-loaded : goal.returns-in_err-size-clause-loaded
returns-in_err-size-clause-loaded g c laws =
    let p = err_from_is_err_and c.from_residual-in_err-size.result c.from_residual-in_err-size.ensures.1 in
    let t = c.fill_new.new.job.table in
    let closed = with_same g.F.Field.meaning g.O.Order.meaning _ _ _ _ c.fill_new.ensures.same_field_and_order (λ m cmp. (laws : FieldLaws m) → Kept m laws cmp t → Closed m laws cmp t c.close.new.job.table (Err c.in_err-size.field-0.0)) c.in_err-size.ensures.closed in
    rw (p.1, p.2)
    (not_closed (g.F.Field.meaning c.args.job.now.field) laws (g.O.Order.meaning c.args.job.now.order) c.args.n c.args.text.now t c.in_ok-end.end c.in_ok-end.ensures.filled c.close.new.job.table c.in_err-size.field-0.0 (closed laws (c.fill_new.ensures.kept laws)))

pub reader_after-requires : goal.reader_after-requires
reader_after-requires g c = omega (arith, c.in_ok-end.ensures.filled.1)

pub returns-clause-loaded : goal.returns-clause-loaded
returns-clause-loaded g c laws =
    let t = c.fill_new.new.job.table in
    let reader = c.reader_after in
    let closed = with_same g.F.Field.meaning g.O.Order.meaning _ _ _ _ c.fill_new.ensures.same_field_and_order (λ m cmp. (laws : FieldLaws m) → Kept m laws cmp t → Closed m laws cmp t c.close.new.job.table (Ok c.in_ok-size.size)) c.in_ok-size.ensures.closed in
    at_request (g.F.Field.meaning c.args.job.now.field) laws (g.O.Order.meaning c.args.job.now.order) c.args.n c.args.text.now t c.in_ok-end.end c.in_ok-end.ensures.filled c.close.new.job.table c.in_ok-size.size (closed laws (c.fill_new.ensures.kept laws)) reader.result reader.ensures.text reader.ensures.at reader.ensures.line
