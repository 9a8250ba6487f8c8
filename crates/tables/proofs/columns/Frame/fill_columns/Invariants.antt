use Rattle.std.proofs.Common.{◌≡◌, List, [], length, take}
use Rattle.algebra.specs.Monomial.{Mono}
use Rattle.algebra.specs.NormalForm.{fill}
use Rattle.algebra.specs.Words.{words}
use Rattle.staircase.specs.Steps.{ColumnsHold}
use Rattle.polynomials.specs.Held.{entries}
use Rattle.tables.specs.Columns.{polys_of, ColumnsKnown}
use Rattle.tables.proofs.columns.Frame.fill_columns.Given as goal

abbrev pub invariant-loop-c : goal.invariant-loop-c
invariant-loop-c g l = ((S E : List (Mono l.self.n)) → ColumnsKnown l.self.n S E (entries l.self.polynomials.now) l.self.stairs.now l.self.edges.now l.self.products.now
    → ColumnsHold (g.F.Field.meaning l.self.field.now) l.self.n S E (fill (words (g.F.Field.meaning l.self.field.now)) l.self.n S E (polys_of l.self.n (entries l.self.polynomials.now)) (take l.c E) []) l.columns 48) × (length l.columns ≡ 9216)
