use Rattle.std.proofs.Common.{ℕ, ◌-◌}
use Rattle.field.specs.Meaning.{FieldLaws}
use Rattle.order.specs.Monomials.{exponent}
use Rattle.algebra.specs.Elements.{Elem, field_of}
use Rattle.tables.specs.Holds.{stair_count}
use Rattle.conversion.specs.Powers.{Stands, map_of}
use Rattle.conversion.proofs.Evaluating.{through}
use Rattle.conversion.proofs.powers.Matrices.act.Given as goal

abbrev pub invariant-loop-k : goal.invariant-loop-k
invariant-loop-k g l = let m = g.F.Field.meaning l.self.field.now in let t = l.self.tables.now in
    (laws : FieldLaws m) (f : ℕ → Elem m) → Stands m (stair_count t) l.initial.walk.vector f → Stands m (stair_count t) l.walk.vector (through (field_of m laws) (map_of m laws t) (exponent l.monomial) (l.self.n - l.k) l.k f)
