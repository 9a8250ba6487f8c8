use Rattle.std.proofs.Common.{ℕ, ◌*◌, ◌<◌}
use Rattle.field.specs.Meaning.{FieldLaws}
use Rattle.algebra.specs.Elements.{Elems}
use Rattle.tables.specs.Holds.{stair_count}
use Rattle.conversion.specs.Powers.{width, Stands, StandsAt, unit, power, measure}
use Rattle.conversion.proofs.powers.Conversion.krylov.Given as goal

abbrev pub invariant-loop-j : goal.invariant-loop-j
invariant-loop-j g l = let m = g.F.Field.meaning l.self.matrices.field.now in let t = l.self.matrices.tables.now in let k = l.self.k in
    (laws : FieldLaws m)
    → Elems m l.vectors
    × ((i : ℕ) → i < l.j → StandsAt m (stair_count t) (i * width) l.vectors (power m laws t k (unit m laws) i))
    × Stands m l.j l.words (measure m laws t k l.self.r.now (unit m laws))
    × Stands m (stair_count t) l.walk.vector (power m laws t k (unit m laws) l.j)
