use Rattle.std.proofs.Common.{◌≡◌, ◌≤◌, length, take, drop}
use Rattle.staircase.specs.Edges.{Edges}
use Rattle.staircase.proofs.edges.border_into.Given as goal

abbrev pub invariant-loop-k : goal.invariant-loop-k
invariant-loop-k g l = (l.written ≤ length l.edges) × Edges (g.O.Order.meaning l.order) l.stairs l.k 0 (take l.written l.edges) × (drop l.written l.edges ≡ drop l.written l.initial.edges)
