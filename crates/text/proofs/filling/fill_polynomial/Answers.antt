use Rattle.std.proofs.Common.{◌≤◌, List, [], ◌∷◌, length, Ok, Err, refl, ap, ◌∙◌, rules, arith}
use Rattle.std.proofs.lemmas.List.{length-take-le, take-append-le}
use Rattle.std.proofs.lemmas.Result.{err_from_is_err_and}
use Rattle.polynomials.specs.Held.{terms_of}
use Rattle.runs.specs.Job as job
use Rattle.runs.specs.Job.{holding}
use Rattle.runs.specs.Enter.{room_asks, enter_asks}
use Rattle.text.proofs.Mapped.{mapped_ok, all_yes, first_no, at_ok, at_err}
use Rattle.text.proofs.Walking.{terms_read}
use Rattle.text.proofs.Entering.{room-refused, lines-refused, terms-refused, polynomial-passed, entered-terms}
use Rattle.job.specs.State.{state}
use Rattle.text.proofs.filling.fill_polynomial.Goals as goal

pub returns-in_err-about_line-clause-entered : goal.returns-in_err-about_line-clause-entered
returns-in_err-about_line-clause-entered g c =
    let m = g.F.Field.meaning c.args.job.now.field in
    let cmp = g.O.Order.meaning c.args.job.now.order in
    let j = state c.args.job.now.table in
    let n = c.in_ok-count.ensures in
    let no = first_no _ (room_asks 0 j c.in_ok-count.count) c.ask_room.result _ c.about_line.ensures (c.ask_room.ensures 0) _ c.in_err-about_line.was in
    let p = err_from_is_err_and c.from_residual-in_err-about_line.result c.from_residual-in_err-about_line.ensures.1 in
    rw (p.1, p.2, no.2) (room-refused m cmp j c.args.reader c.in_ok-count.count c.in_ok-count.first n.0 n.1 _ 0 _ no.3, refl)

pub slice_bounds-read_terms-end : goal.slice_bounds-read_terms-end
slice_bounds-read_terms-end g c =
    let j = state c.args.job.now.table in
    let room = all_yes _ (room_asks 0 j c.in_ok-count.count) c.ask_room.result _ c.about_line.ensures (c.ask_room.ensures 0) c.in_ok-about_line.was in
    let l : c.in_ok-count.count ≤ 1024 = omega (arith, room.1.1.0) in
    search rules

pub returns-in_err-end-clause-entered : goal.returns-in_err-end-clause-entered
returns-in_err-end-clause-entered g c =
    let m = g.F.Field.meaning c.args.job.now.field in
    let cmp = g.O.Order.meaning c.args.job.now.order in
    let j = state c.args.job.now.table in
    let n = c.in_ok-count.ensures in
    let count = c.in_ok-count.count in
    let room = all_yes _ (room_asks 0 j count) c.ask_room.result _ c.about_line.ensures (c.ask_room.ensures 0) c.in_ok-about_line.was in
    let p = err_from_is_err_and c.from_residual-in_err-end.result c.from_residual-in_err-end.ensures.1 in
    let s = terms_read j.n _ count c.args.terms.now c.read_terms.new.terms c.in_ok-count.first (Err c.in_err-end.field-0.0) c.variables.ensures.value (omega (arith, room.1.1.0, c.told-terms)) c.in_err-end.ensures in
    rw (p.1, p.2) (lines-refused m cmp j c.args.reader count c.in_ok-count.first n.0 n.1 room _ _ _ s, refl)

pub returns-in_err-about_line-2-clause-entered : goal.returns-in_err-about_line-2-clause-entered
returns-in_err-about_line-2-clause-entered g c =
    let m = g.F.Field.meaning c.args.job.now.field in
    let cmp = g.O.Order.meaning c.args.job.now.order in
    let j = state c.args.job.now.table in
    let n = c.in_ok-count.ensures in
    let count = c.in_ok-count.count in
    let room = all_yes _ (room_asks 0 j count) c.ask_room.result _ c.about_line.ensures (c.ask_room.ensures 0) c.in_ok-about_line.was in
    let within : count ≤ length c.args.terms.now = omega (arith, room.1.1.0, c.told-terms) in
    let s = terms_read j.n _ count c.args.terms.now c.read_terms.new.terms c.in_ok-count.first (Ok c.in_ok-end.end) c.variables.ensures.value within c.in_ok-end.ensures in
    let read = ap terms_of (take-append-le count c.read_terms.new.terms _ (omega (arith, length-take-le count c.args.terms.now within, c.read_terms.auto.terms))) ∙ s.1 in
    let no = first_no _ (enter_asks m cmp j _) c.enter.result _ c.about_line-2.ensures c.enter.ensures.asked _ c.in_err-about_line-2.was in
    let p = err_from_is_err_and c.from_residual-in_err-about_line-2.result c.from_residual-in_err-about_line-2.ensures.1 in
    rw (p.1, p.2, no.2) (
      terms-refused m cmp j c.args.reader count c.in_ok-count.first n.0 n.1 room c.in_ok-end.end s.0 _ read c.requires _ 0 _ no.3,
      ap (λ x. state x.table) (at_err _ _ c.enter.result no.0 no.1 c.enter.ensures.entered),
    )

pub returns-clause-entered : goal.returns-clause-entered
returns-clause-entered g c =
    let m = g.F.Field.meaning c.args.job.now.field in
    let cmp = g.O.Order.meaning c.args.job.now.order in
    let j = state c.args.job.now.table in
    let n = c.in_ok-count.ensures in
    let count = c.in_ok-count.count in
    let room = all_yes _ (room_asks 0 j count) c.ask_room.result _ c.about_line.ensures (c.ask_room.ensures 0) c.in_ok-about_line.was in
    let within : count ≤ length c.args.terms.now = omega (arith, room.1.1.0, c.told-terms) in
    let s = terms_read j.n _ count c.args.terms.now c.read_terms.new.terms c.in_ok-count.first (Ok c.in_ok-end.end) c.variables.ensures.value within c.in_ok-end.ensures in
    let read = ap terms_of (take-append-le count c.read_terms.new.terms _ (omega (arith, length-take-le count c.args.terms.now within, c.read_terms.auto.terms))) ∙ s.1 in
    let taken = mapped_ok _ c.enter.result _ tt c.about_line-2.ensures c.in_ok-about_line-2.was in
    let asked = all_yes _ (enter_asks m cmp j _) c.enter.result _ c.about_line-2.ensures c.enter.ensures.asked c.in_ok-about_line-2.was in
    let t = entered-terms m cmp j c.args.reader count c.in_ok-count.first n.0 n.1 room c.in_ok-end.end s.0 _ read c.requires asked in (
      polynomial-passed m cmp j c.args.reader count c.in_ok-count.first n.0 n.1 room c.in_ok-end.end s.0 _ read c.requires asked,
      at_ok _ _ c.enter.result tt taken c.enter.ensures.entered ∙ ap (λ (ts : List job.Term). holding j (ts ∷ [])) t,
    )
