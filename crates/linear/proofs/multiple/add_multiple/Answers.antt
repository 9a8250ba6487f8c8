use Rattle.std.proofs.Common.{ℕ, List, get_or, set, sym, ap, ◌∙◌, subst, ap₂, add-one, arith}
use Rattle.std.proofs.lemmas.List.{get_or-take, length-take-le}
use Rattle.algebra.specs.Elements.{Elems}
use Rattle.linear.proofs.Adding
use Rattle.linear.proofs.Columns
use Rattle.linear.proofs.multiple.add_multiple.Goals as goal

pub loop-i-preserved : goal.loop-i-preserved
loop-i-preserved g c =
    let m = g.F.Field.meaning c.args.field.now in
    let w = c.args.word in
    let xs = c.args.from.now in
    let i = c.loop-i.i in
    let both = length-take-le c.min-both.result xs (omega arith) in
    let value = c.add.ensures ∙ ap₂ m.add (ap (λ (zs : List ℕ). get_or zs i 0) c.loop-i.invariant) (c.mul.ensures ∙ ap (m.mul w) (get_or-take c.min-both.result xs i 0 (omega arith))) in
    rw add-one (ap₂ (λ (zs : List ℕ) (z : ℕ). set zs i z) c.loop-i.invariant value ∙ Adding.added_more m w xs c.args.to.now i (omega arith) (omega arith))

pub returns-clause-sums : goal.returns-clause-sums
returns-clause-sums g c =
    let both = length-take-le c.min-both.result c.args.from.now (omega arith) in
    c.loop-i.invariant ∙ Adding.added_all (g.F.Field.meaning c.args.field.now) c.args.word c.args.from.now c.args.to.now c.loop-i.i (omega arith)

pub returns-clause-elements : goal.returns-clause-elements
returns-clause-elements g c els =
    let F = c.args.field.now in
    let m = g.F.Field.meaning F in
    subst (Elems m) (sym (returns-clause-sums g c)) (Columns.elems_added m (g.met.F.Field.lawful F) (g.met.F.Field.everywhere F) c.args.word c.args.from.now c.args.to.now els)
