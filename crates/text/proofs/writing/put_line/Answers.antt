use Rattle.std.proofs.Common.{ℕ, length, Option, unwrap_or, sym, ap, ◌∙◌}
use Rattle.column.specs.Line.{line, line_length}
use Rattle.column.proofs.Lines.{words_from_fits, line_length_is}
use Rattle.column.proofs.Places.{with_room}
use Rattle.text.proofs.writing.put_line.Goals as goal

pub returns : goal.returns
returns c =
    let ws = c.args.words.now in
    let fit = words_from_fits ws c.type_inv.words in
    let long = line_length_is ws fit in
    let p = with_room c.args.out.now (line ws) c.args.at (line_length (length ws)) long c.requires in
    record {
      fit = fit;
      long = long;
      place_after = c.unwrap_or.ensures ∙ ap (λ (o : Option ℕ). unwrap_or o c.args.at) (c.write_line.ensures.place_after ∙ sym p.0);
      bytes = c.write_line.ensures.rest_unchanged ∙ sym p.1;
    }
