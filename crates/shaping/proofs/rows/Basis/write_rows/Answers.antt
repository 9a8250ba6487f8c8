use Rattle.std.proofs.Common.{◌≡◌, ℕ, length, Option, unwrap_or, sym, ap, ◌∙◌, subst, arith}
use Rattle.column.specs.Line.{line, line_length}
use Rattle.column.proofs.Places.{with_room}
use Rattle.shaping.proofs.Printing.{RowsWritten, rows_none, rows_next, row_room, row_left}
use Rattle.shaping.proofs.rows.Basis.write_rows.Goals as goal

pub loop-i-init : goal.loop-i-init
loop-i-init c = rows_none c.args.self.now.size c.args.self.now.words c.args.out.now _ c.args.at c.as_slice-left.ensures

pub split_at-requires : goal.split_at-requires
split_at-requires c = row_left c.args.self.now.size c.args.self.now.n c.loop-i._i c.args.self.now.words c.loop-i.left.now c.loop-i-test.true (omega (arith, c.args.self.now.within, c.fits-self)) c.loop-i.invariant.behind

pub loop-i-preserved : goal.loop-i-preserved
loop-i-preserved c =
    let d = c.args.self.now.size in
    let ws = c.split_at.result.0.now in
    let long : length (line ws) ≡ line_length d = c.write_line.ensures.long ∙ ap line_length c.split_at.ensures.front_len in
    let room = row_room d c.args.self.now.n c.loop-i._i c.args.at (length c.args.out.now) c.loop-i-test.true c.requires.room in
    let p = with_room c.loop-i.out (line ws) c.loop-i.end (line_length d) long (omega (arith, room, c.loop-i.invariant.place, c.loop-i.auto.out)) in
    rows_next d c.loop-i._i c.args.self.now.words c.args.out.now c.loop-i.left.now c.loop-i.out c.write_line.new.out ws c.split_at.result.1.now c.args.at c.loop-i.end c.unwrap_or-end.result
    room c.split_at.ensures.front c.split_at.ensures.back long (c.write_line.ensures.rest_unchanged ∙ sym p.1) (c.unwrap_or-end.ensures ∙ ap (λ (o : Option ℕ). unwrap_or o c.loop-i.end) (c.write_line.ensures.place_after ∙ sym p.0)) c.loop-i.invariant

pub returns : goal.returns
returns c =
    let whole : c.loop-i._i ≡ c.args.self.now.n = omega arith in
    let l = subst (λ (i : ℕ). RowsWritten c.args.self.now.size c.args.self.now.words c.args.out.now c.args.at i c.loop-i.left.now c.loop-i.out c.loop-i.end) whole c.loop-i.invariant in
    record { end = omega (arith, l.place, l.long); after = l.place; bytes = l.bytes }
