use Rattle.std.proofs.Common.{◌≡◌, ℕ, ◌<◌, ◌≢◌, [], length, get_or}
use Rattle.field.specs.Meaning.{FieldLaws}
use Rattle.tables.specs.Holds.{stair_count}
use Rattle.conversion.specs.Powers.{Stands, map_of, unit, measure}
use Rattle.conversion.proofs.powers.Conversion.right_sides.Given as goal

abbrev pub invariant-loop-i : goal.invariant-loop-i
invariant-loop-i g l = let m = g.F.Field.meaning l.self.matrices.field.now in let t = l.self.matrices.tables.now in
    (length l.sides ≡ 4)
    × ((i : ℕ) → i < l.i → (laws : FieldLaws m) → i ≢ l.self.k → Stands m (stair_count t) (get_or l.sides i []) (measure m laws t l.self.k l.self.r.now (map_of m laws t i (unit m laws))))
