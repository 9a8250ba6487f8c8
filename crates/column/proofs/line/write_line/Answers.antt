-- With room and without.
use Rattle.std.proofs.Common.{◌+◌, length, Some, sym, ap, ◌∙◌, arith}
use Rattle.std.proofs.lemmas.Bool.{leb-true, leb-false}
use Rattle.column.specs.Line.{line, line_length}
use Rattle.column.proofs.Lines.{words_from_fits, line_length_is, put_line}
use Rattle.column.proofs.Places.{with_room, without_room}
use Rattle.column.proofs.line.write_line.Goals as goal

pub returns-then-not-line_fits : goal.returns-then-not-line_fits
returns-then-not-line_fits c =
    let ws = c.args.words.now in
    let n = line_length_is ws (words_from_fits ws c.type_inv.words) in
    let short = leb-false (c.args.at + line_length (length ws)) (length c.args.out.now) (sym c.if-not-line_fits.ensures) in
    let p = without_room c.args.out.now (line ws) c.args.at (line_length (length ws)) n short in
    record { place_after = p.0; rest_unchanged = p.1; long = n }

pub returns : goal.returns
returns c =
    let ws = c.args.words.now in
    let words = words_from_fits ws c.type_inv.words in
    let fits = leb-true (c.args.at + line_length (length ws)) (length c.args.out.now) (sym c.if-not-line_fits.ensures) in
    let p = with_room c.args.out.now (line ws) c.args.at (line_length (length ws)) (line_length_is ws words) fits in
    record {
      place_after = ap Some (omega arith) ∙ p.0;
      rest_unchanged = put_line c.args.out.now c.put_columns.new.out ws c.args.at words fits (omega arith) c.put_columns.ensures ∙ p.1;
      long = line_length_is ws words;
    }
