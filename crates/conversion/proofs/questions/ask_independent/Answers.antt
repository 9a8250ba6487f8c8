use Rattle.std.proofs.Common.{◌≡◌, ℕ, ◌≤◌, true, length, subst, arith, rules}
use Rattle.linear.specs.Elimination.{fits, rows}
use Rattle.conversion.specs.Powers.{width}
use Rattle.conversion.specs.Asked.{ShapeFound}
use Rattle.conversion.proofs.Asking.{shape_of, shape_found}
use Rattle.conversion.proofs.Room.{it_fits}
use Rattle.conversion.proofs.questions.ask_independent.Goals as goal

room : (d vectors : ℕ) → d ≤ 48 → vectors ≡ 2304 → fits d d 48 vectors 48 ≡ true
room d vectors h a = it_fits d d 48 vectors 48 (omega arith) (omega arith) (omega arith) (omega arith)

pub returns : goal.returns
returns g c laws V =
    let m = g.F.Field.meaning c.args.by.now.matrices.field.now in
    let t = c.args.by.now.matrices.tables.now in
    let d = c.size-d.result in
    let vectors = c.args.vectors.now in
    let x = c.eliminate.ensures.eliminated (room d (length vectors) (omega (arith, t.few)) (omega arith)) laws V.elements in
    let found = shape_of m laws d (rows m laws width vectors) _ _ _ _ (λ e f k. search rules) c.eliminate.result c.map_err.result c.map_err.ensures.cases x in
    shape_found m laws t c.args.by.now.k c.args.by.now.r.now 0 vectors (omega arith) V c.map_err.result (subst (λ (d : ℕ). ShapeFound m laws d (rows m laws width vectors) c.map_err.result) c.size-d.ensures found)
