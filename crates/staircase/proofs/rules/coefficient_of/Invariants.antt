use Rattle.std.proofs.Common.{◌≡◌, T, List, ◌++◌}
use Rattle.staircase.specs.declared.rules.Term.{Term}
use Rattle.staircase.proofs.Opposites.{coefficient_in}
use Rattle.staircase.proofs.rules.coefficient_of.Given as goal

abbrev pub invariant-loop-t : goal.invariant-loop-t
invariant-loop-t g l =
    let m = g.F.Field.meaning l.field in
    (done : List Term) × (l.terms ≡ l.t-iterator.iter.rest.now ++ done) × T (m.elem l.sum) × (l.sum ≡ coefficient_in m done l.m)
