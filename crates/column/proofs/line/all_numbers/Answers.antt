use Rattle.std.proofs.Common.{ℕ, ◌/◌, List, is_some, length, ap, ◌∙◌, rules}
use Rattle.std.specs.List.{list_all}
use Rattle.std.proofs.lemmas.Iterator.Search.{all_from_yields_List}
use Rattle.column.specs.Column.{reading}
use Rattle.column.proofs.Pieces.{all_pieces, pieces_come, numbers_pieces}
use Rattle.column.proofs.line.all_numbers.Goals as goal

pub returns : goal.returns
returns c =
    all_from_yields_List (λ (p : List ℕ). is_some (reading p)) c.all.new.self _ _ c.all.ensures.ran (pieces_come c.chunks_exact.result c.chunks_exact.ensures.size) (λ x b q k. search rules)
    ∙ ap (λ (bs : List ℕ). list_all (λ p. is_some (reading p)) (all_pieces bs)) c.chunks_exact.ensures.rest
    ∙ numbers_pieces (length c.args.columns.now / 11) c.args.columns.now
