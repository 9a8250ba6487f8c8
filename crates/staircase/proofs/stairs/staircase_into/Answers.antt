use Rattle.std.proofs.Common.{◌≡◌, ℕ, ◌≤◌, length, take, drop, Option, Some, None, Ok, refl, ap, ◌∙◌, arith}
use Rattle.std.specs.Prelude.{IfNone}
use Rattle.std.specs.Option.{ok_or}
use Rattle.std.proofs.lemmas.List.{length-take-le, take-append-le}
use Rattle.std.proofs.lemmas.Option.{MatchOption-at_some, MatchOption-at_none}
use Rattle.std.proofs.lemmas.Result.{err_from_is_err_and}
use Rattle.staircase.specs.declared.stairs.StairsFault.{StairsFault}
use Rattle.staircase.specs.declared.stairs.StairsFault.TheVariants.{NoRoom, TooMany}
use Rattle.staircase.specs.Sorting.{sorted_by}
use Rattle.staircase.proofs.Found.{staircase_written, found_fewer}
use Rattle.staircase.proofs.stairs.staircase_into.Goals as goal

-- a sort of no more than there is room for succeeds
some_of : {P : Type 0} (r : Option ℕ) → IfNone r P → (P → ⊥) → (k : ℕ) × (r ≡ Some k)
some_of (Some k) h never = (k, refl)
some_of None h never = absurd (never h)

pub returns-in_err-count : goal.returns-in_err-count
returns-in_err-count g c =
    let cmp = g.O.Order.meaning c.args.order.now in
    let p = err_from_is_err_and c.from_residual.result c.from_residual.ensures.1 in
    let none = c.in_err-count.ensures.ok_part in
    let full = MatchOption-at_none _ _ none c.collect.ensures.full in
    let many : c.in_err-count.field-0.0 ≡ TooMany = let v = rw none at c.in_err-count.ensures.value in cc in
    rw (p.1, p.2, many) (record {
      no_room = (λ e. absurd (let d : ◌≡◌ {A = StairsFault} TooMany NoRoom = cc in cc), λ h. absurd (omega arith));
      staircase = λ Q. omega (arith, full.1, length-take-le (length c.args.stairs.now) c.args.found.now c.if-found-stairs.false, found_fewer c.args.n c.args.leads.now Q cmp (g.met.O.Order.lawful c.args.order.now) full.0 full.2);
      rest_unchanged = refl;
    })

pub returns : goal.returns
returns g c =
    let cmp = g.O.Order.meaning c.args.order.now in
    let found = c.collect.new.found in
    let stairs = c.args.stairs.now in
    let count = c.in_ok-count.count in
    let fits = MatchOption-at_some _ _ count c.in_ok-count.ensures.ok_part c.collect.ensures.fits in
    let w = MatchOption-at_some _ _ count c.in_ok-count.ensures.ok_part c.collect.ensures.walked in
    let le : count ≤ length found = omega (arith, fits) in
    let s = c.sort.ensures in
    let same = take-append-le count found (drop (length stairs) c.args.found.now) le in
    let k = some_of c.sort.result s.full (λ h. omega (arith, h, fits, ap length same, length-take-le count found le, length-take-le (length stairs) c.args.found.now c.if-found-stairs.false)) in
    let is : c.ok_or-2.result ≡ Ok k.0 = c.ok_or-2.ensures.value ∙ ap (λ (r : Option ℕ). ok_or r NoRoom) k.1 in
    rw is (record {
      no_room = (λ e. absurd (cc), λ h. absurd (omega arith));
      staircase = λ Q. staircase_written c.args.n c.args.leads.now Q cmp (g.met.O.Order.lawful c.args.order.now) (take count found) count (length-take-le count found le) w k.0 c.sort.new.into (omega (arith, MatchOption-at_some _ _ k.0 k.1 s.fits)) (MatchOption-at_some _ _ k.0 k.1 s.sorted ∙ ap (sorted_by cmp) same);
      rest_unchanged = rw k.1 at s.rest_unchanged;
    })
