use Rattle.std.proofs.Common.{ℕ}
use Rattle.field.specs.Meaning.{FieldLaws}
use Rattle.algebra.specs.Elements.{Elem}
use Rattle.tables.specs.Holds.{stair_count}
use Rattle.conversion.specs.Powers.{Stands, power, measure}
use Rattle.conversion.proofs.powers.Conversion.measure.Given as goal

abbrev pub invariant-loop-word : goal.invariant-loop-word
invariant-loop-word g l = let m = g.F.Field.meaning l.self.matrices.field.now in let t = l.self.matrices.tables.now in
    (laws : FieldLaws m) (f : ℕ → Elem m) → Stands m (stair_count t) l.initial.walk.vector f
    → Stands m l.word-index l.out (measure m laws t l.self.k l.self.r.now f) × Stands m (stair_count t) l.walk.vector (power m laws t l.self.k f l.word-index)
