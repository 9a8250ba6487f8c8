use Rattle.std.proofs.Common.{ℕ, length, sym, ap, ◌∙◌, subst}
use lib.ListN.{length-map}
use mathlib.Core.Bool.{false≢true}
use Rattle.algebra.specs.Records.{flat, before_by}
use Rattle.algebra.specs.Basis as basis
use Rattle.runs.specs.Generators.{generators}
use Rattle.polynomials.specs.Held.{entries, held}
use Rattle.tables.specs.Filling.{MatricesIn}
use Rattle.column.proofs.Mapped.{mapped_ok, mapped_err}
use Rattle.tables.proofs.Closing as closing
use Rattle.tables.proofs.tables.Tables.fill.Goals as goal

pub returns-in_err-edges : goal.returns-in_err-edges
returns-in_err-edges g c laws C is =
    let m = g.F.Field.meaning c.args.field.now in
    let cmp = g.O.Order.meaning c.args.order.now in
    let O = g.met.O.Order.lawful c.args.order.now in
    let found = closing.edges_found m laws cmp O c.args.n (entries c.args.polynomials.now) C c.as_slice.result.now (c.as_slice.ensures.value ∙ is) c.border.result c.border.ensures in
    absurd (rw (mapped_err _ c.border.result c.map_err.result c.in_err-edges.field-0.0 c.in_err-edges.was c.map_err.ensures.cases).1 at found)

pub returns-in_err-products : goal.returns-in_err-products
returns-in_err-products g c laws C is =
    let m = g.F.Field.meaning c.args.field.now in
    let cmp = g.O.Order.meaning c.args.order.now in
    let O = g.met.O.Order.lawful c.args.order.now in
    let n = c.args.n in
    let es = entries c.args.polynomials.now in
    let are = rw (mapped_ok _ c.border.result c.map_err.result c.in_ok-edges.edges c.in_ok-edges.was c.map_err.ensures.cases) at (closing.edges_found m laws cmp O n es C c.as_slice.result.now (c.as_slice.ensures.value ∙ is) c.border.result c.border.ensures) in
    let stairs = c.as_slice-2.result.now in
    let edges = c.as_slice-3.result.now in
    let stairs_is = c.as_slice-2.ensures.value ∙ is in
    let edges_is = c.as_slice-3.ensures.value ∙ are in
    let able = closing.all_placeable m laws cmp O n es C stairs edges stairs_is edges_is in
    absurd (c.in_err-products.ensures.found able)

pub returns-in_err-fill_columns : goal.returns-in_err-fill_columns
returns-in_err-fill_columns g c laws C is =
    let m = g.F.Field.meaning c.args.field.now in
    let cmp = g.O.Order.meaning c.args.order.now in
    let O = g.met.O.Order.lawful c.args.order.now in
    let n = c.args.n in
    let es = entries c.args.polynomials.now in
    let S = basis.stairs n (before_by cmp n) (generators m laws n (held c.args.polynomials.now)) in
    let E = basis.edges n (before_by cmp n) (generators m laws n (held c.args.polynomials.now)) in
    let are = rw (mapped_ok _ c.border.result c.map_err.result c.in_ok-edges.edges c.in_ok-edges.was c.map_err.ensures.cases) at (closing.edges_found m laws cmp O n es C c.as_slice.result.now (c.as_slice.ensures.value ∙ is) c.border.result c.border.ensures) in
    let stairs = c.as_slice-2.result.now in
    let edges = c.as_slice-3.result.now in
    let stairs_is = c.as_slice-2.ensures.value ∙ is in
    let edges_is = c.as_slice-3.ensures.value ∙ are in
    let able = closing.all_placeable m laws cmp O n es C stairs edges stairs_is edges_is in
    let places = c.in_ok-products.products in
    let placed = closing.all_placed m laws cmp O n es C stairs edges stairs_is edges_is places (c.in_ok-products.ensures.found able) in
    let known = closing.all_known m laws cmp O n es C c.as_slice-4.result.now c.as_slice-5.result.now (c.as_slice-4.ensures.value ∙ is) (c.as_slice-5.ensures.value ∙ are) places placed in
    absurd (false≢true (c.in_err-fill_columns.ensures.made S E known).0)

pub returns : goal.returns
returns g c laws C is =
    let m = g.F.Field.meaning c.args.field.now in
    let cmp = g.O.Order.meaning c.args.order.now in
    let O = g.met.O.Order.lawful c.args.order.now in
    let n = c.args.n in
    let es = entries c.args.polynomials.now in
    let S = basis.stairs n (before_by cmp n) (generators m laws n (held c.args.polynomials.now)) in
    let E = basis.edges n (before_by cmp n) (generators m laws n (held c.args.polynomials.now)) in
    let are = rw (mapped_ok _ c.border.result c.map_err.result c.in_ok-edges.edges c.in_ok-edges.was c.map_err.ensures.cases) at (closing.edges_found m laws cmp O n es C c.as_slice.result.now (c.as_slice.ensures.value ∙ is) c.border.result c.border.ensures) in
    let stairs = c.as_slice-2.result.now in
    let edges = c.as_slice-3.result.now in
    let stairs_is = c.as_slice-2.ensures.value ∙ is in
    let edges_is = c.as_slice-3.ensures.value ∙ are in
    let able = closing.all_placeable m laws cmp O n es C stairs edges stairs_is edges_is in
    let places = c.in_ok-products.products in
    let placed = closing.all_placed m laws cmp O n es C stairs edges stairs_is edges_is places (c.in_ok-products.ensures.found able) in
    let known = closing.all_known m laws cmp O n es C c.as_slice-4.result.now c.as_slice-5.result.now (c.as_slice-4.ensures.value ∙ is) (c.as_slice-5.ensures.value ∙ are) places placed in
    let columns = c.fill_columns.new.columns in
    let wide = c.in_ok-products.ensures.wide in
    let made = c.in_ok-fill_columns.ensures.made S E known in
    let size = ap length is ∙ length-map S (flat n) in
    let held_in = subst (λ (d : ℕ). MatricesIn m laws cmp n (held c.args.polynomials.now) d places columns) (sym size) (closing.matrices m laws cmp O n es C places placed columns made.1 wide c.in_ok-fill_columns.ensures.room) in
    record { size = size; stairs = is; ready = held_in.ready; entries = held_in.entries }
