use Rattle.std.proofs.Common.{◌≡◌, ◌+◌, ◌<◌, ◌≤◌, List, length, take, drop, set, sym, refl, ap, ◌∙◌, arith}
use Rattle.std.proofs.lemmas.List.{length-take-le, take_all}
use Rattle.std.proofs.lemmas.List.Edits.{length-insert}
use Rattle.order.specs.declared.monomial.Monomial.{Monomial}
use Rattle.order.specs.Monomials.{one}
use Rattle.staircase.specs.Sorting.{inserted_by}
use Rattle.staircase.proofs.Insertion.{shifted, shifted_rest}
use Rattle.staircase.proofs.sorting.insert.Goals as goal

pub returns-in-Ok : goal.returns-in-Ok
returns-in-Ok g c = record {
  fits = (omega arith, omega arith, c.requires);
  inserted = sym c.in-Ok.ensures;
  rest_unchanged = refl;
  full = tt;
  longer = tt;
  refused_as_was = tt;
}

pub returns-then-count-list : goal.returns-then-count-list
returns-then-count-list g c =
    let l = c.args.list.now in
    let e = c.in-Err.ensures in
    let all : take c.args.count l ≡ l = take_all c.args.count l (omega arith) in
    record {
      fits = tt;
      inserted = tt;
      rest_unchanged = tt;
      full = c.if-count-list.true;
      longer = ap (λ (y : List Monomial). length (inserted_by (g.O.Order.meaning c.args.order.now) c.args.m y)) (sym all) ∙ ap length e.1 ∙ length-insert (take c.args.count l) c.in-Err.at c.args.m e.0 ∙ omega (arith, length-take-le c.args.count l c.requires);
      refused_as_was = refl;
    }

pub returns-else-count-list : goal.returns-else-count-list
returns-else-count-list g c =
    let l = c.args.list.now in
    let at = c.in-Err.at in
    let count = c.args.count in
    let e = c.in-Err.ensures in
    let le : at ≤ count = omega (arith, e.0, length-take-le count l c.requires) in
    let lt : count < length l = omega arith in
    let after = ap (λ (y : List Monomial). set y at c.args.m) c.copy_within.ensures.after in
    record {
      fits = (omega arith, omega arith, omega arith);
      inserted = ap (take (count + 1)) after ∙ shifted l at count c.args.m one le lt ∙ sym e.1;
      rest_unchanged = ap (drop (count + 1)) after ∙ shifted_rest l at count c.args.m one le lt;
      full = tt;
      longer = tt;
      refused_as_was = tt;
    }
