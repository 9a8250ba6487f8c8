use Rattle.std.proofs.Common.{ℕ}
use Rattle.field.specs.Meaning.{FieldLaws}
use Rattle.algebra.specs.Elements.{Elem}
use Rattle.tables.specs.Holds.{stair_count}
use Rattle.conversion.specs.Powers.{Stands, power}
use Rattle.conversion.proofs.powers.Matrices.raise.Given as goal

abbrev pub invariant-loop-i : goal.invariant-loop-i
invariant-loop-i g l = let m = g.F.Field.meaning l.self.field.now in let t = l.self.tables.now in
    (laws : FieldLaws m) (f : ℕ → Elem m) → Stands m (stair_count t) l.initial.walk.vector f → Stands m (stair_count t) l.walk.vector (power m laws t l.k f l._i)
