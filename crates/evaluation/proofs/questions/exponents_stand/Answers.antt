use Rattle.std.proofs.Common.{ℕ, ◌-◌, nat_le, take, drop, ap, ◌∙◌, rules, tests}
use Rattle.std.specs.List.{list_all}
use Rattle.std.proofs.lemmas.Iterator.{YieldsList-from_slice}
use Rattle.std.proofs.lemmas.Iterator.Search.{all_from_yields_List}
use Rattle.evaluation.proofs.Sums.{behind_first}
use Rattle.evaluation.proofs.questions.exponents_stand.Goals as goal

pub returns : goal.returns
returns c =
    let es = drop 1 c.args.term.now in
    all_from_yields_List (λ (e : ℕ). nat_le e 48) c.all.new.self _ _ c.all.ensures.ran (YieldsList-from_slice (take (5 - 1) es) cc) (λ x b q k. search (rules, tests))
    ∙ ap (list_all (λ (e : ℕ). nat_le e 48)) (behind_first c.args.term.now c.told-term)
