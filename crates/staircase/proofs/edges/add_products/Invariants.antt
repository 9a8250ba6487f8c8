use Rattle.std.proofs.Common.{◌≡◌, ◌≤◌, length, take, drop}
use Rattle.staircase.specs.Edges.{Edges}
use Rattle.staircase.proofs.edges.add_products.Given as goal

abbrev pub invariant-loop-m : goal.invariant-loop-m
invariant-loop-m g l = (l.initial.count ≤ l.count) × (l.count ≤ length l.edges) × Edges (g.O.Order.meaning l.order) l.stairs l.k l.m-index (take l.count l.edges) × (drop l.count l.edges ≡ drop l.count l.initial.edges)
