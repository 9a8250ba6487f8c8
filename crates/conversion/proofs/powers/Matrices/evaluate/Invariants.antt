use Rattle.std.proofs.Common.{take}
use Rattle.field.specs.Meaning.{FieldLaws}
use Rattle.tables.specs.Holds.{stair_count}
use Rattle.conversion.specs.Powers.{Stands}
use Rattle.conversion.specs.Values.{value_of}
use Rattle.conversion.proofs.powers.Matrices.evaluate.Given as goal

abbrev pub invariant-loop-term : goal.invariant-loop-term
invariant-loop-term g l = let m = g.F.Field.meaning l.self.field.now in
    (laws : FieldLaws m) → Stands m (stair_count l.self.tables.now) l.sum (value_of m laws l.self.tables.now l.self.n (take l.term-index l.terms))
