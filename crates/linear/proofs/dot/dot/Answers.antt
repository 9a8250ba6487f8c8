use Rattle.std.proofs.Common.{T, sym, ◌∙◌, subst, arith}
use Rattle.std.proofs.lemmas.Iterator.{YieldsList-from_slice, YieldsList-from_zip}
use Rattle.linear.proofs.Reading
use Rattle.linear.proofs.Columns
use Rattle.linear.proofs.Products
use Rattle.linear.proofs.dot.dot.Goals as goal

pub returns-clause-words : goal.returns-clause-words
returns-clause-words g c =
    let xs = c.args.a.now in
    let ys = c.args.b.now in
    Products.paired (g.F.Field.meaning c.args.field.now) xs ys c.sum_of_products.ensures (YieldsList-from_zip (YieldsList-from_slice xs cc) (YieldsList-from_slice ys cc))

pub returns-clause-elements : goal.returns-clause-elements
returns-clause-elements g c laws = returns-clause-words g c ∙ Reading.dot_read (g.F.Field.meaning c.args.field.now) laws (g.met.F.Field.everywhere c.args.field.now) c.args.a.now c.args.b.now _ (omega arith) (omega arith)

pub returns-clause-is_element : goal.returns-clause-is_element
returns-clause-is_element g c =
    let F = c.args.field.now in
    let m = g.F.Field.meaning F in
    subst (λ w. T (m.elem w)) (sym (returns-clause-words g c)) (Columns.sum_elem m (g.met.F.Field.lawful F) (g.met.F.Field.everywhere F) _ _)
