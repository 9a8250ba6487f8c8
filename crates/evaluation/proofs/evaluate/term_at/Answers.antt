use Rattle.std.proofs.Common.{◌-◌, ℕ, List, get_or, fold, take, drop, ap, ◌∙◌, arith, rules}
use Rattle.std.specs.List.{zip}
use Rattle.std.proofs.lemmas.Iterator.{YieldsList-from_slice, YieldsList-from_zip}
use Rattle.std.proofs.lemmas.Iterator.Consumers.{fold_from_yields_List}
use Rattle.evaluation.proofs.Sums.{times, behind_first, term_is}
use Rattle.evaluation.proofs.evaluate.term_at.Goals as goal

pub returns : goal.returns
returns g c =
    let m = g.F.Field.meaning c.args.field.now in
    let x = c.args.point.now in
    let t = c.args.term.now in
    fold_from_yields_List _ (times m x t) _ _ c.fold.ensures.ran (YieldsList-from_zip (YieldsList-from_slice x cc) (YieldsList-from_slice (take (5 - 1) (drop 1 t)) cc)) (λ a p b q k. search rules)
    ∙ ap (λ (es : List ℕ). fold (times m x t) (get_or t 0 0) (zip x es)) (behind_first t c.told-term)
    ∙ term_is m x t (omega (arith, c.requires, c.told-term))
