use Rattle.std.proofs.Common.{◌≡◌, ℕ, Some, None, Option, cond, nat_lt, slice_index_or, sym, ap, ◌∙◌, arith}
use Rattle.order.specs.Monomials.{one}
use Rattle.tables.specs.declared.tables.Tables.{Tables}
use Rattle.tables.specs.Holds.{stair_count}
use Rattle.job.specs.State.{stage_of, state}
use Rattle.job.specs.Promise.{stair_of}
use Rattle.job.proofs.Stairs.{stair_held}
use Rattle.job.proofs.job.Job.stair.Goals as goal

pub returns : goal.returns
returns g c laws K =
    let m = g.F.Field.meaning c.args.self.now.field in
    let cmp = g.O.Order.meaning c.args.self.now.order in
    let t = c.args.self.now.table in
    let x = c.in_ok-tables.tables.now in
    let made : t.tables ≡ Some x = sym c.in_ok-tables.ensures.value in
    let h = c.in_ok-checked_sub.ensures in
    c.stair.ensures ∙ ap (λ (i : ℕ). cond (nat_lt i (stair_count x)) (Some (slice_index_or x.stairs.items i one)) None) h.1 ∙ stair_held m laws cmp (state t) x (K.tables x made) c.args.place (λ e. omega arith)
    ∙ sym (ap (λ (o : Option Tables). stair_of m laws cmp (state t) c.args.place (stage_of o)) made)
