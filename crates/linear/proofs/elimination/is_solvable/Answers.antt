use Rattle.std.proofs.Common.{ltb, take, ◌∙◌, rules, tests}
use Rattle.std.proofs.lemmas.Iterator.{YieldsList-from_slice}
use Rattle.std.proofs.lemmas.Iterator.Search.{all_from_yields_List}
use Rattle.linear.proofs.Room.{all_lent}
use Rattle.linear.proofs.elimination.is_solvable.Goals as goal

pub returns-then-has_room : goal.returns-then-has_room
returns-then-has_room c =
    all_from_yields_List (λ p. ltb p c.args.places) _ _ _ c.all.ensures.ran (YieldsList-from_slice (take c.args.count c.args.pivots.now) cc) (λ x b q k. search (rules, tests))
    ∙ all_lent c.args.places c.args.count c.args.rows c.args.work c.args.pivots.now (cc)
