use Rattle.std.proofs.Common.{◌+◌, None, Some, ◌∙◌, refl, rules, tests}
use Rattle.std.proofs.lemmas.Iterator.{IsFirst-from_position, YieldsList-from_slice, YieldsList-from_zip}
use Rattle.std.proofs.lemmas.Iterator.Adapters.{YieldsList-from_skip}
use Rattle.order_use.proofs.Falls.{Found, Rises, Falls, all_fall, first_rises, found_first, none_falls}
use Rattle.order_use.proofs.first_not_falling.Goals as goal

none_found : (g : _) (c : goal.After-from_residual g) → Found (g.O.Order.meaning c.args.order.now) c.args.list.now None
none_found g c =
    let m = g.O.Order.meaning c.args.order.now in
    let l = c.args.list.now in
    all_fall m l (IsFirst-from_position c.position.new.self _ None (Rises m l) (Falls m l) c.in_err-before.ensures.ran (YieldsList-from_zip {s = c.zip-neighbours.result} (YieldsList-from_slice l cc) (YieldsList-from_skip 1 (YieldsList-from_slice l cc) cc)) (λ x q k. search (rules, tests)) (λ x q k. (search rules, record { small = search (rules, tests); less = search (rules, tests) })))

pub returns-in_err-before-clause-first : goal.returns-in_err-before-clause-first
returns-in_err-before-clause-first g c = c.from_residual.ensures ∙ found_first _ _ None (none_found g c)

pub returns-in_err-before-clause-else_falling : goal.returns-in_err-before-clause-else_falling
returns-in_err-before-clause-else_falling g c e = none_falls _ _ (g.met.O.Order.lawful c.args.order.now) None (none_found g c) refl

pub returns-clause-first : goal.returns-clause-first
returns-clause-first g c =
    let m = g.O.Order.meaning c.args.order.now in
    let l = c.args.list.now in
    let first = IsFirst-from_position c.position.new.self _ (Some c.in_ok-before.before) (Rises m l) (Falls m l) c.in_ok-before.ensures.ran (YieldsList-from_zip {s = c.zip-neighbours.result} (YieldsList-from_slice l cc) (YieldsList-from_skip 1 (YieldsList-from_slice l cc) cc)) (λ x q k. search (rules, tests)) (λ x q k. (search rules, record { small = search (rules, tests); less = search (rules, tests) })) in
    found_first m l (Some (c.in_ok-before.before + 1)) (first_rises m l c.in_ok-before.before first.0 first.1 first.2)
