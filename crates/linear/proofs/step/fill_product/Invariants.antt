use Rattle.std.proofs.Common.{◌≡◌, ℕ, ◌<◌, length, get_or}
use Rattle.algebra.specs.Elements.{Elems}
use Rattle.linear.specs.Step.{row_words}
use Rattle.linear.proofs.step.fill_product.Given as goal

abbrev pub invariant-loop-place : goal.invariant-loop-place
invariant-loop-place g l =
    Elems (g.F.Field.meaning l.field) l.v → (j : ℕ) → j < length l.matrix.places.now
    → get_or l.out j 0 ≡ row_words (g.F.Field.meaning l.field) l.matrix.places.now l.matrix.columns.now l.matrix.stride l.v j (length l.yielded)
