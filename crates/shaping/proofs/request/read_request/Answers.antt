use Rattle.std.proofs.Common.{length}
use Rattle.std.proofs.lemmas.Result.{err_from_is_err_and}
use Rattle.shaping.proofs.Requests.{words_refused, more_follows, request_passed, vector_is}
use Rattle.shaping.proofs.request.read_request.Goals as goal

pub returns-in_err-end : goal.returns-in_err-end
returns-in_err-end c =
    let p = err_from_is_err_and c.from_residual-in_err-end.result c.from_residual-in_err-end.ensures.1 in
    let first = c.in_ok-k.ensures in
    rw (p.1, p.2) (words_refused c.args.n (length c.args.vector.now) c.args.reader c.in_ok-k.next first.0 first.2 _ _ _ c.in_err-end.ensures)

pub returns-then-end : goal.returns-then-end
returns-then-end c =
    let first = c.in_ok-k.ensures in
    more_follows c.args.n (length c.args.vector.now) c.args.reader c.in_ok-k.next first.0 first.2 c.in_ok-end.end c.in_ok-end.ensures.0 c.if-end.true

pub returns : goal.returns
returns c =
    let n = c.args.n in
    let d = length c.args.vector.now in
    let p = c.args.reader in
    let first = c.in_ok-k.ensures in
    let lines = c.in_ok-end.ensures in
    (request_passed n d p c.in_ok-k.next first.0 first.2 c.in_ok-end.end lines.0 c.if-end.false, first.1, vector_is n d p c.in_ok-k.next first.0 first.2 c.read_words.new.words lines.1)
