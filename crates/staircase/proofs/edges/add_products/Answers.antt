use Rattle.std.proofs.Common.{◌≡◌, ℕ, ◌+◌, length, take, sym, refl, ◌∙◌, subst, arith}
use Rattle.std.proofs.lemmas.List.{take_all}
use Rattle.order.specs.Monomials.{one, monomial}
use Rattle.staircase.specs.Sorting.{inserted_by}
use Rattle.staircase.specs.Edges.{Edges}
use Rattle.staircase.proofs.Insertion.{drops_on}
use Rattle.staircase.proofs.Outside.{edges_skip, edges_more, edges_next}
use Rattle.staircase.proofs.edges.add_products.Goals as goal

pub loop-m-init : goal.loop-m-init
loop-m-init g c = (omega arith, c.requires.room, c.requires.edges, refl)

pub loop-m-preserved-in_default : goal.loop-m-preserved-in_default
unfolding one monomial
loop-m-preserved-in_default g c = let inv = c.loop-m.invariant in (inv.0, inv.1, edges_skip _ c.args.stairs.now c.args.k c.loop-m.m-index _ c.in_default.ensures inv.2, inv.3)

pub returns-in_err-count : goal.returns-in_err-count
unfolding one monomial
returns-in_err-count g c =
    let cmp = g.O.Order.meaning c.args.order.now in
    let inv = c.loop-m.invariant in
    let e = c.in_err-count.ensures in
    let all : take c.loop-m.count c.loop-m.edges ≡ c.loop-m.edges = take_all c.loop-m.count c.loop-m.edges (omega (arith, e.full)) in
    rw c.from_residual.ensures (record {
      fits = tt;
      edges = tt;
      rest_unchanged = tt;
      full = (c.loop-m.m-index + 1, inserted_by cmp c.in-Some.t c.loop-m.edges, omega arith, omega (arith, e.longer, e.full), edges_more cmp c.args.stairs.now c.args.k c.loop-m.m-index c.loop-m.edges c.in-Some.t c.in-Some.ensures (subst (Edges cmp c.args.stairs.now c.args.k c.loop-m.m-index) all inv.2));
    })

pub loop-m-preserved : goal.loop-m-preserved
unfolding one monomial
loop-m-preserved g c =
    let cmp = g.O.Order.meaning c.args.order.now in
    let inv = c.loop-m.invariant in
    let e = c.in_ok-count.ensures in
    (omega (arith, e.fits.0, inv.0), omega (arith, e.fits.2), subst (Edges cmp c.args.stairs.now c.args.k (c.loop-m.m-index + 1)) (sym e.inserted) (edges_more cmp c.args.stairs.now c.args.k c.loop-m.m-index _ c.in-Some.t c.in-Some.ensures inv.2), e.rest_unchanged ∙ drops_on c.loop-m.count c.in_ok-count.count c.loop-m.edges c.args.edges.now e.fits.0 inv.3)

pub returns : goal.returns
returns g c =
    let inv = c.loop-m.invariant in
    let all : c.loop-m.m-index ≡ length c.args.stairs.now = omega arith in
    record {
      fits = (inv.0, omega (arith, inv.1));
      edges = edges_next _ _ c.args.k _ (subst (λ (i : ℕ). Edges (g.O.Order.meaning c.args.order.now) c.args.stairs.now c.args.k i (take c.loop-m.count c.loop-m.edges)) all inv.2);
      rest_unchanged = inv.3;
      full = tt;
    }
