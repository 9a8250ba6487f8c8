use Rattle.std.proofs.Common.{rules, tests}
use Rattle.std.proofs.lemmas.Iterator.{IsFirst-from_position, YieldsList-from_slice, YieldsList-from_zip}
use Rattle.std.proofs.lemmas.Iterator.Adapters.{YieldsList-from_skip}
use Rattle.polynomials.proofs.Read.{Falling, falling_asked}
use Rattle.polynomials.proofs.questions.ask_falling.Goals as goal

pub returns : goal.returns
returns g c line =
    let cmp = g.O.Order.meaning c.args.order.now in
    let ts = c.args.terms.now in
    let first = IsFirst-from_position c.position-first.new.self _ c.position-first.result (λ p. Falling ts cmp p → ⊥) (Falling ts cmp) c.position-first.ensures.ran (YieldsList-from_zip {s = c.zip-neighbours.result} (YieldsList-from_slice ts cc) (YieldsList-from_skip 1 (YieldsList-from_slice ts cc) cc)) (λ x q k. search (rules, tests)) (λ x q k. search (rules, tests)) in
    falling_asked ts cmp line c.position-first.result c.refuse_first.result first (search (rules, tests))
