-- With room and without.
use Rattle.std.proofs.Common.{◌+◌, length, sym, ◌∙◌, arith}
use Rattle.std.proofs.lemmas.Bool.{leb-true, leb-false}
use Rattle.column.specs.Column.{column}
use Rattle.column.proofs.Columns.{column_length}
use Rattle.column.proofs.Places.{with_room, without_room}
use Rattle.column.proofs.number.write_column.Goals as goal

pub returns-then-not-column_fits : goal.returns-then-not-column_fits
returns-then-not-column_fits c =
    let short = leb-false (c.args.at + 11) (length c.args.out.now) (sym c.if-not-column_fits.ensures) in
    let p = without_room c.args.out.now (column c.args.number) c.args.at 11 (column_length c.args.number (omega arith)) short in
    record { place_after = p.0; rest_unchanged = p.1 }

pub returns : goal.returns
returns c =
    let fits = leb-true (c.args.at + 11) (length c.args.out.now) (sym c.if-not-column_fits.ensures) in
    let p = with_room c.args.out.now (column c.args.number) c.args.at 11 (column_length c.args.number (omega arith)) fits in
    record { place_after = p.0; rest_unchanged = c.put_column.ensures ∙ p.1 }
