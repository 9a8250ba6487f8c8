use Rattle.std.proofs.Common.{◌≡◌, ◌≤◌, List, ◌++◌, length, take, drop}
use Rattle.order.specs.declared.monomial.Monomial.{Monomial}
use Rattle.staircase.specs.Sorting.{sorted_by}
use Rattle.staircase.proofs.sorting.sort.Given as goal

abbrev pub invariant-loop-m : goal.invariant-loop-m
invariant-loop-m g l = (done : List Monomial) × (l.from ≡ l.m-iterator.iter.rest.now ++ done) × (l.count ≤ length l.into) × (take l.count l.into ≡ sorted_by (g.O.Order.meaning l.order) done) × (drop l.count l.into ≡ drop l.count l.initial.into)
