use Rattle.std.proofs.Common.{ℕ, List, ◌++◌, length, get_or, ap, ◌∙◌, ap₂, arith}
use Rattle.linear.proofs.Writes.{padded}
use Rattle.linear.proofs.elimination.rows.begin.Goals as goal

pub returns : goal.returns
returns g c k h =
    ap₂ (λ (xs ys : List ℕ). get_or (xs ++ ys) k 0) c.copy_from_slice.ensures.after (c.fill.ensures.after (λ y e. e))
    ∙ padded c.args.vector.now (length c.split_at_mut-front.result.1.now) c.zero.result k (omega arith)
    ∙ ap (get_or c.args.vector.now k) c.zero.ensures
