use Rattle.std.proofs.Common.{sym, ◌∙◌, rules, tests}
use Rattle.std.proofs.lemmas.Iterator.{YieldsList-from_slice}
use Rattle.std.proofs.lemmas.Iterator.Search.{any_from_yields_List}
use Rattle.order.specs.Monomials.{power_of}
use Rattle.staircase.proofs.Searches.{any_is_list_any}
use Rattle.polynomials.proofs.leading.any_power.Goals as goal

pub returns : goal.returns
returns c =
    let ls = c.args.leads.now in
    any_from_yields_List (power_of c.args.k) _ _ c.any.result c.any.ensures.ran (YieldsList-from_slice ls cc) (λ x b q k. search (rules, tests))
    ∙ sym (any_is_list_any (power_of c.args.k) ls)
