use Rattle.std.proofs.Common.{◌≡◌, ℕ, take, refl, ◌∙◌, subst, arith}
use Rattle.staircase.specs.Edges.{Edges}
use Rattle.staircase.proofs.Insertion.{drops_on}
use Rattle.staircase.proofs.Outside.{edges_none}
use Rattle.staircase.proofs.Bordered.{border_written, border_longer}
use Rattle.staircase.proofs.edges.border_into.Goals as goal

pub loop-k-init : goal.loop-k-init
loop-k-init g c = (omega arith, edges_none _ _, refl)

pub returns-in_err-written : goal.returns-in_err-written
returns-in_err-written g c =
    let e = c.in_err-written.ensures.full in
    rw c.from_residual.ensures (record {
      border = λ Q. omega (arith, e.3, border_longer c.args.n c.args.stairs.now Q (g.O.Order.meaning c.args.order.now) (g.met.O.Order.lawful c.args.order.now) c.loop-k.k e.0 e.1 c.loop-k-test.true e.2 e.4);
      rest_unchanged = tt;
    })

pub loop-k-preserved : goal.loop-k-preserved
loop-k-preserved g c =
    let inv = c.loop-k.invariant in
    let e = c.in_ok-written.ensures in
    (omega (arith, e.fits.1), e.edges, e.rest_unchanged ∙ drops_on c.loop-k.written c.in_ok-written.written c.loop-k.edges c.args.edges.now e.fits.0 inv.2)

pub returns : goal.returns
returns g c =
    let inv = c.loop-k.invariant in
    let all : c.loop-k.k ≡ c.args.n = omega arith in
    record {
      border = λ Q. border_written c.args.n c.args.stairs.now Q (g.O.Order.meaning c.args.order.now) (g.met.O.Order.lawful c.args.order.now) c.loop-k.written c.loop-k.edges inv.0 (subst (λ (k : ℕ). Edges (g.O.Order.meaning c.args.order.now) c.args.stairs.now k 0 (take c.loop-k.written c.loop-k.edges)) all inv.1);
      rest_unchanged = inv.2;
    }
