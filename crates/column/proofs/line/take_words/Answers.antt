-- The words that stand and those to come are the line's, column by column.
use Rattle.std.proofs.Common.{◌≡◌, ◌+◌, ◌-◌, ◌*◌, ◌≤◌, ◌++◌, length, take, drop, set, unwrap_or, sym, ap, ◌∙◌, subst, arith}
use Rattle.std.proofs.lemmas.Iterator.Consumers.{YieldsList-turn, YieldsList-end}
use Rattle.std.proofs.lemmas.List.{append-nil, length_push, take_all}
use Rattle.column.specs.Column.{reading}
use Rattle.column.specs.Line.{values}
use Rattle.column.proofs.Pieces.{numbered_come, numbered_length, numbered_at}
use Rattle.column.proofs.Walks.{values_none, words_more}
use Rattle.column.proofs.line.take_words.Goals as goal

pub loop-i-preserved : goal.loop-i-preserved
loop-i-preserved c =
    let bytes = c.args.columns.now in
    let n = length c.args.words.now in
    let k = length c.loop-i.yielded in
    let come = numbered_come c.into_iter-i-iterator.result c.chunks_exact.result bytes (cc) (cc) c.chunks_exact.ensures.size c.chunks_exact.ensures.rest in
    let t = YieldsList-turn come c.loop-i.yielded c.loop-i.i-iterator c.loop-i.yielded_by c.next.result c.next.new.self (c.in-Some.i, c.in-Some.column) c.in-Some.is c.next.ensures.steps in
    let at = numbered_at bytes k c.in-Some.i c.in-Some.column.now t.0 t.1 in
    let e = c.unwrap_or.ensures ∙ ap (λ o. unwrap_or o 0) (c.read_column.ensures.value ∙ ap reading at.1) in
    let more = words_more bytes n k (omega (arith, t.0, numbered_length bytes)) c.loop-i.words c.unwrap_or.result (omega (arith, t.0, numbered_length bytes)) e in
    subst (λ j. take j (set c.loop-i.words c.in-Some.i c.unwrap_or.result) ++ values (n - j) (drop (11 * j) bytes) ≡ values n bytes) (sym (length_push c.loop-i.yielded _))
    (subst (λ i. take (k + 1) (set c.loop-i.words i c.unwrap_or.result) ++ values (n - (k + 1)) (drop (11 * (k + 1)) bytes) ≡ values n bytes) (sym at.0) (more ∙ c.loop-i.invariant))

pub returns : goal.returns
returns c =
    let bytes = c.args.columns.now in
    let n = length c.args.words.now in
    let k = length c.loop-i.yielded in
    let come = numbered_come c.into_iter-i-iterator.result c.chunks_exact.result bytes (cc) (cc) c.chunks_exact.ensures.size c.chunks_exact.ensures.rest in
    let end = YieldsList-end come c.loop-i.yielded c.loop-i.i-iterator c.loop-i.yielded_by c.next.result c.next.new.self c.in-None.is c.next.ensures.steps in
    let all : n ≤ k = omega (arith, end.1, numbered_length bytes) in
    sym (ap (λ xs. take k c.loop-i.words ++ xs) (values_none n k (drop (11 * k) bytes) all)
    ∙ append-nil (take k c.loop-i.words)
    ∙ take_all k c.loop-i.words (omega arith))
    ∙ c.loop-i.invariant
