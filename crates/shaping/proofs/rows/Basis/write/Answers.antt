use Rattle.std.proofs.Common.{◌≡◌, ℕ, ◌+◌, List, ◌∷◌, [], length, Option, unwrap_or, sym, ap, ◌∙◌, arith}
use Rattle.column.specs.Line.{line}
use Rattle.column.specs.Place.{put}
use Rattle.column.proofs.Places.{with_room, put_put}
use Rattle.shaping.specs.Answer.{rows}
use Rattle.shaping.proofs.rows.Basis.write.Goals as goal

pub returns-clause-bytes : goal.returns-clause-bytes
returns-clause-bytes c =
    let out = c.args.out.now in
    let b = c.args.self.now in
    let header = line (0 ∷ b.n ∷ b.size ∷ b.k ∷ []) in
    let below = rows b.size b.n b.words in
    let p = with_room out header 0 45 c.write_line.ensures.long (omega (arith, c.requires.room)) in
    let first : c.unwrap_or-first.result ≡ 0 + length header = c.unwrap_or-first.ensures ∙ ap (λ (o : Option ℕ). unwrap_or o 0) (c.write_line.ensures.place_after ∙ sym p.0) ∙ omega (arith, c.write_line.ensures.long) in
    c.write_rows.ensures.bytes ∙ ap (λ (k : ℕ). put c.write_line.new.out k below) first ∙ ap (λ (o : List ℕ). put o (0 + length header) below) (c.write_line.ensures.rest_unchanged ∙ sym p.1)
    ∙ put_put out header below 0 (omega arith)
