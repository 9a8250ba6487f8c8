use Rattle.std.proofs.Common.{◌≡◌, ℕ, ◌+◌, ◌-◌, ◌*◌, ◌≤◌, length, take, drop, sym, refl, ap, ◌∙◌, subst, ap₂, arith, length-drop}
use lib.Seq.{paste}
use Rattle.std.proofs.lemmas.List.{take_all, length-take-le}
use Rattle.std.proofs.lemmas.Option.{MatchOption-at_some}
use Rattle.std.proofs.lemmas.Slice.{put_mid-paste, take-put_mid_below, drop-put_mid}
use Rattle.algebra.specs.Elements.{Elems}
use Rattle.linear.specs.Step.{product_words}
use Rattle.staircase.proofs.Replacing.{column_stepped}
use Rattle.staircase.proofs.rules.next_column.Goals as goal

pub returns-clause-others_unchanged : goal.returns-clause-others_unchanged
returns-clause-others_unchanged g c =
    let d = c.args.d in
    let columns = c.args.columns.now in
    let at = c.in_ok-at.at in
    let b = MatchOption-at_some _ _ at c.in_ok-at.ensures.ok_part c.column_start-2.ensures in
    let long : d ≤ length c.step.new.out = omega (arith, (c.in_ok-step.ensures.fits.0 refl).enough_rows) in (
      take-put_mid_below at (at + d - at) columns c.copy_from_slice.new.self (c.args.to * c.args.stride) (omega (arith, b.0)) (omega (arith, b.0, b.1)),
      drop-put_mid at (at + d - at) columns c.copy_from_slice.new.self (c.args.to * c.args.stride + d) (omega (arith, b.0)) (omega (arith, b.0, b.1)) (ap length c.copy_from_slice.ensures.after ∙ length-take-le d c.step.new.out long ∙ omega arith),
    )

pub returns-clause-stepped : goal.returns-clause-stepped
returns-clause-stepped g c =
    let m = g.F.Field.meaning c.args.field.now in
    let d = c.args.d in
    let columns = c.args.columns.now in
    let out = c.step.new.out in
    let start = c.in_ok-start.start in
    let at = c.in_ok-at.at in
    let v = take d (drop (c.args.from * c.args.stride) columns) in
    let a = MatchOption-at_some _ _ start c.in_ok-start.ensures.ok_part c.column_start.ensures in
    let b = MatchOption-at_some _ _ at c.in_ok-at.ensures.ok_part c.column_start-2.ensures in
    let st = c.in_ok-step.ensures in
    let read : take (start + d - start) (drop start columns) ≡ v = ap₂ (λ (x y : ℕ). take x (drop y columns)) (omega arith) a.0 in
    let words : length v ≡ d = length-take-le d (drop (c.args.from * c.args.stride) columns) (omega (arith, length-drop (c.args.from * c.args.stride) columns, a.1)) in
    let front : take d v ≡ v = take_all d v (omega (arith, words)) in
    let long : d ≤ length out = omega (arith, (st.fits.0 refl).enough_rows) in
    column_stepped m d c.args.places.now columns c.args.stride c.args.from c.args.to out _ b.1
    (λ els. (st.stepped (subst (Elems m) (sym (ap (take d) read ∙ front)) els)).product ∙ ap (product_words m d c.args.places.now columns c.args.stride) read)
    long
    (put_mid-paste at (at + d - at) columns c.copy_from_slice.new.self (take d out) d c.copy_from_slice.ensures.after (omega arith) (sym (length-take-le d out long)) ∙ ap (λ (x : ℕ). paste columns x (take d out) d) b.0)
