use Rattle.std.proofs.Common.{◌≡◌, ℕ, T, length, get_or, sym, ◌∙◌, subst, ap₂, arith}
use Rattle.std.proofs.lemmas.List.{length_push}
use Rattle.std.proofs.lemmas.List.FromFn.{fill_by_all}
use Rattle.std.proofs.lemmas.Slice.Zip.{zip_turn, zip_end}
use Rattle.linear.specs.Step.{entry, row_words}
use Rattle.linear.specs.declared.step.Place.{Place}
use Rattle.linear.specs.declared.step.Place.TheVariants.{Stair}
use Rattle.linear.proofs.Columns
use Rattle.linear.proofs.step.fill_product.Goals as goal

pub loop-place-preserved : goal.loop-place-preserved
loop-place-preserved g c els j h =
    let F = c.args.field.now in
    let m = g.F.Field.meaning F in
    let places = c.args.matrix.places.now in
    let columns = c.args.matrix.columns.now in
    let v = c.args.v.now in
    let i = length c.loop-place.yielded in
    let t = zip_turn places v c.loop-place.yielded c.into_iter-place-iterator.result c.loop-place.place-iterator c.next.new.self _ (cc) (cc) c.loop-place.yielded_by _ c.in-Some.is c.next.ensures.steps in
    let elems = Columns.rows_elems m (g.met.F.Field.lawful F) (g.met.F.Field.everywhere F) places columns c.args.matrix.stride v c.loop-place.out (length places) i (omega arith) (c.loop-place.invariant els) in
    let word = c.add_column.ensures (subst (λ x. T (m.elem x)) (sym (t.3 0)) (els i t.1)) elems j (omega arith) in
    subst (λ n. get_or c.add_column.new.out j 0 ≡ row_words m places columns c.args.matrix.stride v j n) (sym (length_push c.loop-place.yielded _))
    (Columns.row_more m (g.met.F.Field.lawful F) (g.met.F.Field.everywhere F) places columns c.args.matrix.stride v c.loop-place.out j i _ (c.loop-place.invariant els j h)
    (word ∙ ap₂ (λ (p : Place) (x : ℕ). m.add (get_or c.loop-place.out j 0) (m.mul (entry m columns c.args.matrix.stride p j) x)) (t.2 (Stair 0)) (t.3 0)))

pub returns : goal.returns
returns g c els =
    let m = g.F.Field.meaning c.args.field.now in
    let places = c.args.matrix.places.now in
    let row : ℕ → ℕ → ℕ = λ n j. row_words m places c.args.matrix.columns.now c.args.matrix.stride c.args.v.now j n in
    let all = zip_end places c.args.v.now c.loop-place.yielded c.into_iter-place-iterator.result c.loop-place.place-iterator c.next.new.self _ (cc) (cc) c.loop-place.yielded_by c.in-None.is c.next.ensures.steps in
    let e : length c.loop-place.yielded ≡ length places = omega arith in
    fill_by_all (row (length places)) c.loop-place.out (length places) 0 (omega arith) (λ j h. subst (λ n. get_or c.loop-place.out j 0 ≡ row n j) e (c.loop-place.invariant els j h))
