use Rattle.std.proofs.Common.{◌≡◌, ℕ, ◌+◌, ◌*◌, ◌<◌, ◌≤◌, [], length, get_or, take, ◌∙◌, sym, refl, subst, arith, rules}
use mathlib.Core.Bool.{false≢true}
use Rattle.std.proofs.lemmas.List.{get_or_append_left, places}
use Rattle.algebra.specs.NormalForm.{Table, fill}
use Rattle.algebra.specs.Words.{words}
use Rattle.staircase.specs.Steps.{ColumnsHold}
use Rattle.polynomials.specs.Held.{entries}
use Rattle.tables.specs.Columns.{polys_of}
use Rattle.tables.proofs.Forms as forms
use Rattle.tables.proofs.columns.Frame.fill_columns.Goals as goal

pub loop-c-init : goal.loop-c-init
loop-c-init g c = (
  λ S E K b j hb hj.
      let count = forms.edge_count (g.F.Field.meaning c.args.self.now.field.now) c.args.self.now.n S E (entries c.args.self.now.polynomials.now) c.args.self.now.stairs.now c.args.self.now.edges.now c.args.self.now.products.now K in
      let inside : b * 48 + j < length c.fill.new.self = omega (arith, K.short, c.fill.auto.self, c.args.self.now.edged, count) in
      let read : get_or c.fill.new.self (b * 48 + j) 0 ≡ (g.F.Field.meaning c.args.self.now.field.now).zero = search rules in
      get_or_append_left c.fill.new.self _ 0 (b * 48 + j) inside ∙ read,
  let long = c.told-columns in search (rules, places),
)

pub returns-in_err-fill_column-clause-made : goal.returns-in_err-fill_column-clause-made
returns-in_err-fill_column-clause-made g c S E K =
    let m = g.F.Field.meaning c.args.self.now.field.now in
    let n = c.args.self.now.n in
    let L = polys_of n (entries c.args.self.now.polynomials.now) in
    let laws = g.met.F.Field.lawful c.args.self.now.field.now in
    let out = g.met.F.Field.everywhere c.args.self.now.field.now in
    let tab = fill (words m) n S E L (take c.loop-c.c E) [] in
    absurd (false≢true (c.in_err-fill_column.ensures S E tab K (forms.fill_forms m laws out n S E L (take c.loop-c.c E) [] (forms.no_forms m laws out n S E L)) (c.loop-c.invariant.0 S E K)).0)

pub loop-c-preserved : goal.loop-c-preserved
loop-c-preserved g c = (
  λ S E K.
      let m = g.F.Field.meaning c.args.self.now.field.now in
      let n = c.args.self.now.n in
      let ps = entries c.args.self.now.polynomials.now in
      let L = polys_of n ps in
      let laws = g.met.F.Field.lawful c.args.self.now.field.now in
      let out = g.met.F.Field.everywhere c.args.self.now.field.now in
      let tab = fill (words m) n S E L (take c.loop-c.c E) [] in
      let inside : c.loop-c.c < length E = omega (arith, c.loop-c-test.true, forms.edge_count m n S E ps c.args.self.now.stairs.now c.args.self.now.edges.now c.args.self.now.products.now K) in
      subst (λ (t : Table ℕ n). ColumnsHold m n S E t c.fill_column.new.columns 48) (sym (forms.fill_more m n S E L c.loop-c.c inside))
      (c.in_ok-fill_column.ensures S E tab K (forms.fill_forms m laws out n S E L (take c.loop-c.c E) [] (forms.no_forms m laws out n S E L)) (c.loop-c.invariant.0 S E K)).1,
  c.fill_column.array_long,
)

pub returns-clause-made : goal.returns-clause-made
returns-clause-made g c S E K =
    let m = g.F.Field.meaning c.args.self.now.field.now in
    let n = c.args.self.now.n in
    let ps = entries c.args.self.now.polynomials.now in
    let L = polys_of n ps in
    let all : length E ≤ c.loop-c.c = omega (arith, c.loop-c-test.false, forms.edge_count m n S E ps c.args.self.now.stairs.now c.args.self.now.edges.now c.args.self.now.products.now K) in
    (refl, subst (λ (t : Table ℕ n). ColumnsHold m n S E t c.loop-c.columns 48) (forms.fill_all m n S E (polys_of n ps) c.loop-c.c all) (c.loop-c.invariant.0 S E K))
