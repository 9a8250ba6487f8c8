use Rattle.std.proofs.Common.{◌≡◌, ℕ, ◌+◌, ◌*◌, ◌<◌, ◌≢◌, [], get_or, drop}
use Rattle.field.specs.Meaning.{FieldLaws}
use Rattle.algebra.specs.Elements.{Elem}
use Rattle.linear.specs.Elimination.{Table}
use Rattle.conversion.specs.Powers.{Stands}
use Rattle.conversion.specs.Rows.{Row}
use Rattle.conversion.proofs.powers.Conversion.write_rows.Given as goal

abbrev pub invariant-loop-i : goal.invariant-loop-i
invariant-loop-i g l = let m = g.F.Field.meaning l.self.matrices.field.now in
    (drop (l.self.matrices.n * l.d) l.out ≡ drop (l.self.matrices.n * l.d) l.initial.out)
    × ((i : ℕ) → i < l.i → (laws : FieldLaws m) (v b : ℕ → ℕ → Elem m) → Table m laws l.d l.d v l.echelon.rows l.echelon.pivots → ((i : ℕ) → i < l.self.matrices.n → i ≢ l.self.k → Stands m l.d (get_or l.sides i []) (b i)) → Row m laws l.d v l.connection (b i) i l.self.k (λ j. get_or l.out (i * l.d + j) 0))
