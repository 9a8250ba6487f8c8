use Rattle.std.proofs.Common.{◌≡◌, true, length}
use Rattle.field.specs.Meaning.{FieldLaws}
use Rattle.algebra.specs.Elements.{Elems}
use Rattle.linear.specs.Elimination.{takes, Below, Wide, rows, Growing}
use Rattle.linear.proofs.elimination.eliminate.Given as goal

abbrev pub invariant-loop-n : goal.invariant-loop-n
invariant-loop-n g l = let m = g.F.Field.meaning l.field in
    (takes l.family.places l.family.count l.family.stride (length l.family.words.now) (length l.fn.table) (length l.fn.pivots) (length l.fn.row) ≡ true)
    × Wide (length l.table) l.table
    × Below l.family.places l.n l.pivots
    × ((laws : FieldLaws m) → Elems m l.family.words.now → Growing m laws l.family.places l.family.count l.n (rows m laws l.family.stride l.family.words.now) l.table l.pivots)
