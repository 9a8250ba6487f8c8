use Rattle.std.proofs.Common.{sym, ◌∙◌, rules, tests}
use Rattle.std.proofs.lemmas.Iterator.{YieldsList-from_slice}
use Rattle.std.proofs.lemmas.Iterator.Search.{any_from_yields_List}
use Rattle.order.specs.Monomials.{divides}
use Rattle.staircase.proofs.Searches.{any_is_list_any}
use Rattle.staircase.proofs.search.any_divides.Goals as goal

pub returns : goal.returns
returns c =
    let ls = c.args.leads.now in
    any_from_yields_List (λ l. divides l c.args.m) _ _ c.any.result c.any.ensures.ran (YieldsList-from_slice ls cc) (λ x b q k. search (rules, tests))
    ∙ sym (any_is_list_any (λ l. divides l c.args.m) ls)
