use Rattle.std.proofs.Common.{ℕ, ◌<◌, List, [], length, Some, None, Option, MatchOption, ap, inl, arith, rules, tests}
use Rattle.std.specs.List.{AllWithin, HoldsAt}
use Rattle.std.proofs.lemmas.Iterator.{IsFirst-from_position}
use Rattle.std.proofs.lemmas.Iterator.Consumers.{YieldsList-from_first}
use Rattle.polynomials.specs.Held.{entries}
use Rattle.polynomials.specs.Left.{entries_left}
use Rattle.polynomials.proofs.Stored.{few_entries}
use Rattle.staircase.specs.declared.rules.Term.{Term}
use Rattle.order.specs.declared.monomial.Monomial.{Monomial}
use Rattle.tables.specs.Columns.{LedBy, FirstLed}
use Rattle.tables.proofs.below.led_by.Goals as goal

abbrev Led : Monomial → List Term → Type 0
Led t p = LedBy p t

abbrev NotLed : Monomial → List Term → Type 0
NotLed t p = Led t p → ⊥

first_led : (ps : List (List Term)) (t : Monomial) (r : Option ℕ) → MatchOption r (AllWithin (NotLed t) ps 0 (length ps)) (λ i. (i < length ps) × HoldsAt (Led t) ps i × AllWithin (NotLed t) ps 0 i) → FirstLed ps t r
first_led ps t None h = λ j l. h j [] (omega arith) l
first_led ps t (Some i) h = (h.0, h.1 [], λ j l. h.2 j [] (omega arith) l)

pub position-requires-clause-fits : goal.position-requires-clause-fits
position-requires-clause-fits c = inl (omega (arith, few_entries c.args.polynomials.now, ap length c.iter.ensures))

pub returns : goal.returns
returns c =
    let es = entries c.args.polynomials.now in
    let t = c.args.t in
    first_led es t c.position.result (IsFirst-from_position c.position.new.self _ c.position.result (Led t) (NotLed t) c.position.ensures.ran (YieldsList-from_first (λ x. x.now) entries_left es c.iter.ensures) (λ x q k. search (rules, tests)) (λ x q k. search (rules, tests)))
