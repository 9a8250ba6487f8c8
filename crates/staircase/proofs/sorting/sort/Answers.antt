use Rattle.std.proofs.Common.{◌≡◌, [], ◌∷◌, List, length, sym, refl, ap, ◌∙◌, arith, rules}
use Rattle.std.proofs.lemmas.List.{length-append, take_all}
use Rattle.order.specs.declared.monomial.Monomial.{Monomial}
use Rattle.staircase.specs.Sorting.{inserted_by, sorted_by}
use Rattle.staircase.proofs.Backwards.{back_none, back_more}
use Rattle.staircase.proofs.Insertion.{sorted_shorter, drops_on}
use Rattle.staircase.proofs.sorting.sort.Goals as goal

pub loop-m-init : goal.loop-m-init
unfolding sorted_by
loop-m-init g c = ([], back_none c.args.from.now _ (search rules), omega arith, refl, refl)

pub loop-m-preserved : goal.loop-m-preserved
unfolding sorted_by
loop-m-preserved g c =
    let inv = c.loop-m.invariant in
    let m = c.in-Some.m.now in
    let w = c.in_ok-count.ensures in
    (m ∷ inv.0, back_more c.args.from.now _ inv.0 _ m inv.1 c.in-Some.ensures.steps, omega (arith, w.fits.2), w.inserted ∙ ap (inserted_by (g.O.Order.meaning c.args.order.now) m) inv.3, w.rest_unchanged ∙ drops_on c.loop-m.count c.in_ok-count.count c.loop-m.into c.args.into.now w.fits.0 inv.4)

pub returns-in_err-count : goal.returns-in_err-count
unfolding sorted_by
returns-in_err-count g c =
    let cmp = g.O.Order.meaning c.args.order.now in
    let inv = c.loop-m.invariant in
    let w = c.in_err-count.ensures in
    let m = c.in-Some.m.now in
    let next = c.next.new.self.iter.rest.now in
    let all = back_more c.args.from.now _ inv.0 next m inv.1 c.in-Some.ensures.steps in
    let held : c.loop-m.into ≡ sorted_by cmp inv.0 = sym (take_all c.loop-m.count c.loop-m.into (omega (arith, w.full))) ∙ inv.3 in
    rw c.from_residual.ensures (record {
      fits = tt;
      sorted = tt;
      rest_unchanged = tt;
      full = omega (arith, w.full, w.longer, ap (λ (l : List Monomial). length (inserted_by cmp m l)) held, sorted_shorter cmp (m ∷ inv.0), ap length all, length-append next (m ∷ inv.0));
    })
