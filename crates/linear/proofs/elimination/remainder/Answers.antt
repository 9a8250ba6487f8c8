use Rattle.std.proofs.Common.{◌≡◌, ℕ, ◌<◌, List, [], length, get_or, take, sym, ap, ◌∙◌, subst, ap₂, add-one, arith}
use Rattle.std.proofs.lemmas.List.{length_push, length-take, get_or-take}
use Rattle.std.proofs.lemmas.Slice.Zip.{zip_turn}
use Rattle.linear.specs.Echelon.{reduced}
use Rattle.linear.specs.Elimination.{pitch}
use Rattle.linear.proofs.Adding.{added_at}
use Rattle.linear.proofs.elimination.remainder.Goals as goal

pub loop-pivot-preserved : goal.loop-pivot-preserved
loop-pivot-preserved g c =
    let m = g.F.Field.meaning c.args.field.now in
    let rows = c.args.table.now in
    let pivots = c.args.pivots.now in
    let work = c.loop-pivot.work in
    let i = length c.loop-pivot.yielded in
    let t = zip_turn (take c.args.count pivots) rows c.loop-pivot.yielded c.into_iter-pivot-iterator.result c.loop-pivot.pivot-iterator c.next.new.self _ (cc) (cc) c.loop-pivot.yielded_by _ c.in-Some.is c.next.ensures.steps in
    let below : i < c.args.count = omega (arith, t.0, length-take c.args.count pivots) in
    let pivot : c.in-Some.pivot.now ≡ get_or pivots i 0 = t.2 0 ∙ get_or-take c.args.count pivots i 0 below in
    let long : length c.in-Some.above.now ≡ pitch = ap length (t.3 []) ∙ c.requires.wide i (omega arith) in (
      omega arith,
      λ k h. subst (λ n. get_or c.add_multiple.new.to k 0 ≡ reduced m.add m.mul m.neg (λ r j. get_or (get_or rows r []) j 0) (λ r. get_or pivots r 0) (λ j. get_or c.args.vector.now j m.zero) n k)
          (sym (length_push c.loop-pivot.yielded _ ∙ add-one i))
          (ap (λ xs. get_or xs k 0) c.add_multiple.ensures.sums
          ∙ added_at m c.neg-q.result c.in-Some.above.now work k (omega (arith, long, c.requires.narrow)) (omega (arith, c.loop-pivot.invariant.0))
          ∙ ap₂ m.add (c.loop-pivot.invariant.1 k h)
          (ap₂ m.mul (c.neg-q.ensures ∙ ap m.neg (ap (λ j. get_or work j 0) pivot ∙ c.loop-pivot.invariant.1 (get_or pivots i 0) (omega (arith, c.requires.within i below))))
          (ap (λ (xs : List ℕ). get_or xs k 0) (t.3 [])))),
    )
