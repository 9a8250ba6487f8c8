use Rattle.std.proofs.Common.{ℕ, ◌<◌, ◌≤◌, length, sym, subst, arith}
use Rattle.order.specs.Monomials.{one, monomial}
use Rattle.staircase.specs.Steps.{Steppable, ColumnStepped}
use Rattle.tables.specs.Products.{places_at}
use Rattle.tables.proofs.Answered.{on_ok}
use Rattle.tables.proofs.Forms as forms
use Rattle.tables.proofs.columns.Edge.step_column.Goals as goal

pub returns-in_err-below : goal.returns-in_err-below
unfolding one monomial
returns-in_err-below g c ps stairs S E tab K len els hold no_lead =
    let m = g.F.Field.meaning c.args.self.now.frame.now.field.now in
    let n = c.args.self.now.frame.now.n in
    let edges = c.args.self.now.frame.now.edges.now in
    let places = c.args.self.now.frame.now.products.now in
    let inside : c.args.self.now.place < length E = omega (arith, c.args.self.now.inside, forms.edge_count m n S E ps stairs edges places K) in
    let none = rw c.in_err-below.ensures.ok_part at c.lowest_below.ensures in
    absurd (forms.never-none m n S E ps stairs edges places K c.args.self.now.place inside tab c.args.columns.now hold no_lead none)

pub returns : goal.returns
unfolding one monomial
returns g c ps stairs S E tab K len els hold no_lead =
    let m = g.F.Field.meaning c.args.self.now.frame.now.field.now in
    let n = c.args.self.now.frame.now.n in
    let edges = c.args.self.now.frame.now.edges.now in
    let places = c.args.self.now.frame.now.products.now in
    let columns = c.args.columns.now in
    let b = c.in_ok-below.below in
    let k = b.variable in
    let low = rw c.in_ok-below.ensures.ok_part at c.lowest_below.ensures in
    let count = forms.edge_count m n S E ps stairs edges places K in
    let inside : c.args.self.now.place < length E = omega (arith, c.args.self.now.inside, count) in
    let few : length E ≤ 192 = omega (arith, c.args.self.now.frame.now.edged, count) in
    let fits = forms.steppable m n S E ps stairs edges places K c.args.self.now.place inside tab columns hold no_lead b low c.args.self.now.frame.now.wide few (omega arith) in
    let fine = c.next_column.ensures.fits.1 (subst (λ (d : ℕ). Steppable d (places_at places k) (length columns) 48 b.place c.args.self.now.place 48) len fits) in
    let stepped = on_ok c.next_column.result fine c.next_column.ensures.stepped in
    (fine, forms.step_added m n S E ps stairs edges places K c.args.self.now.place inside tab columns hold no_lead b low c.args.self.now.frame.now.wide few (omega arith) els c.next_column.new.columns (subst (λ (d : ℕ). ColumnStepped m d (places_at places k) columns 48 b.place c.args.self.now.place c.next_column.new.columns) (sym len) stepped))
