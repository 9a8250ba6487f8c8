use Rattle.std.proofs.Common.{ℕ, ◌+◌, ◌*◌, ◌<◌, ◌≤◌, List, ◌∷◌, length, get_or, drop, sym, ap, ◌∙◌, subst, arith}
use lib.Seq.{paste}
use Rattle.order.specs.Monomials.{one, monomial}
use Rattle.algebra.specs.Monomial as monos
use Rattle.staircase.specs.declared.rules.Term.{Term}
use Rattle.staircase.specs.Rules.{opposite_words}
use Rattle.staircase.specs.Steps.{ColumnsHold}
use Rattle.polynomials.specs.Held.{entries}
use Rattle.tables.proofs.Forms as forms
use Rattle.tables.proofs.columns.Edge.fill_column.Goals as goal

pub returns-in-Some : goal.returns-in-Some
unfolding one monomial
returns-in-Some g c S E tab K els hold =
    let m = g.F.Field.meaning c.args.self.now.frame.now.field.now in
    let n = c.args.self.now.frame.now.n in
    let ps = entries c.args.self.now.frame.now.polynomials.now in
    let stairs = c.args.self.now.frame.now.stairs.now in
    let edges = c.args.self.now.frame.now.edges.now in
    let places = c.args.self.now.frame.now.products.now in
    let columns = c.args.columns.now in
    let inside : c.args.self.now.place < length E = omega (arith, c.args.self.now.inside, forms.edge_count m n S E ps stairs edges places K) in
    let room : c.args.self.now.place * 48 + length S ≤ length columns = omega (arith, c.args.self.now.inside, c.args.self.now.frame.now.edged, K.short) in
    let e = c.lead_column.ensures in
    (e.fits, forms.lead-added m n S E ps stairs edges places K c.args.self.now.place inside tab columns hold c.in-Some.i c.in-Some.ensures room c.lead_column.new.columns (e.pasted ∙ ap (λ (p : List Term). paste columns (c.args.self.now.place * 48) (opposite_words m (drop 1 p) stairs) (length stairs)) c.polynomial.ensures))

pub returns-in-None : goal.returns-in-None
unfolding one monomial
returns-in-None g c S E tab K els hold =
    let m = g.F.Field.meaning c.args.self.now.frame.now.field.now in
    let n = c.args.self.now.frame.now.n in
    let ps = entries c.args.self.now.frame.now.polynomials.now in
    let stairs = c.args.self.now.frame.now.stairs.now in
    let edges = c.args.self.now.frame.now.edges.now in
    let places = c.args.self.now.frame.now.products.now in
    let columns = c.args.columns.now in
    let inside : c.args.self.now.place < length E = omega (arith, c.args.self.now.inside, forms.edge_count m n S E ps stairs edges places K) in
    let no_lead = forms.not_led m n S E ps stairs edges places K c.args.self.now.place inside c.in-None.ensures in
    let e = c.step_column.ensures ps stairs S E tab K (sym (forms.stair_count m n S E ps stairs edges places K)) els hold no_lead in
    (e.0, subst (λ (col : List ℕ). ColumnsHold m n S E ((get_or E c.args.self.now.place (monos.one n), col) ∷ tab) c.step_column.new.columns 48) (sym (forms.by-replaced m n S E ps stairs edges places K c.args.self.now.place inside tab columns hold no_lead)) e.1)
