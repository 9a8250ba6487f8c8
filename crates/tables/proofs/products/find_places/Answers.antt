use Rattle.std.proofs.Common.{◌≡◌, [], length, set, sym, ◌∙◌, subst, arith, length-set, rules, below_more}
use Rattle.std.proofs.lemmas.List.{get_or-set_same, get_or-set_other}
use Rattle.std.proofs.lemmas.List.Elements.{All-set}
use Rattle.staircase.specs.Places.{Placed}
use Rattle.tables.specs.declared.products.Products.{Products}
use Rattle.tables.specs.Products.{places_at}
use Rattle.tables.proofs.products.find_places.Goals as goal

pub loop-k-init : goal.loop-k-init
loop-k-init c = ((search rules, search rules), λ k h. absurd (omega arith))

pub loop-k-preserved : goal.loop-k-preserved
loop-k-preserved c =
    let k = c.loop-k.k in
    let all = c.loop-k.all in
    let p = c.in_ok-all.field-0 in
    let none : Products = record { places = [] } in
    let wide = c.loop-k.invariant.0 in (
      (length-set all k p ∙ wide.0, All-set (λ (x : Products). length x.places ≡ 48) all k p c.in_ok-all.ensures.found.0 wide.1),
      below_more (λ j. Placed j c.args.stairs.now c.args.edges.now (places_at (set all k p) j)) k
          (λ j h. subst (λ (x : Products). Placed j c.args.stairs.now c.args.edges.now x.places) (sym (get_or-set_other all k j p none (λ e. omega arith))) (c.loop-k.invariant.1 j h))
          (subst (λ (x : Products). Placed k c.args.stairs.now c.args.edges.now x.places) (sym (get_or-set_same all k p none (omega (arith, wide.0)))) c.in_ok-all.ensures.found.1),
    )
