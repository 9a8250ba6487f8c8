use Rattle.std.proofs.Common.{◌∙◌, arith}
use Rattle.std.proofs.lemmas.Result.{err_from_is_err_and}
use Rattle.staircase.proofs.edges.border.Goals as goal

pub returns-in_err-count : goal.returns-in_err-count
returns-in_err-count g c Q =
    let p = err_from_is_err_and c.from_residual.result c.from_residual.ensures.1 in
    let w = rw c.in_err-count.ensures.ok_part at c.border_into.ensures.border Q in
    rw p.1 (omega (arith, w))

pub returns : goal.returns
returns g c Q =
    let w = rw c.in_ok-count.ensures.ok_part at c.border_into.ensures.border Q in
    c.front.ensures ∙ w.1
