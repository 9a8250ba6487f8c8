use Rattle.std.proofs.Common.{◌+◌, drop, refl, rules}
use Rattle.std.proofs.lemmas.Iterator.Consumers.{fold_from_yields_List, YieldsList-from_first}
use Rattle.evaluation.specs.Padded.{terms_left}
use Rattle.evaluation.proofs.Summing.{plus_term, value_of_padded}
use Rattle.evaluation.proofs.values.value_of_terms.Goals as goal

pub returns : goal.returns
returns g c =
    let m = g.F.Field.meaning c.args.field.now in
    let ts = c.args.terms in
    let sum = fold_from_yields_List _ (plus_term m ts.n c.args.point.now) _ _ c.fold.ensures.ran (YieldsList-from_first (λ x. x) terms_left (terms_left ts) refl) (λ a x b q k. search rules) in
    value_of_padded m ts.n c.args.point.now (ts.n + 1) ts.left (drop ts.lines.at ts.lines.text.now) c.zero.result c.fold.result c.zero.ensures sum
