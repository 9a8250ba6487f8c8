use Rattle.std.proofs.Common.{ℕ, length, drop, Option, unwrap_or, refl, ap, ◌∙◌, arith, rules}
use Rattle.evaluation.proofs.Summing.{listed_none, listed_more, of_polynomial, after_polynomial}
use Rattle.evaluation.proofs.values.write_values.Goals as goal

pub loop-i-init : goal.loop-i-init
loop-i-init g c = record {
  same_length = refl;
  listed = listed_none (g.F.Field.meaning c.args.field.now) (length c.args.point.now) c.args.point.now (drop c.args.basis.at c.args.basis.text.now) c.args.out.now;
}

pub loop-i-preserved : goal.loop-i-preserved
loop-i-preserved g c =
    let m = g.F.Field.meaning c.args.field.now in
    let x = c.args.point.now in
    let here = drop c.loop-i.lines.at c.loop-i.lines.text.now in
    let first = drop c.after-first.result.at c.after-first.result.text.now in
    let v = of_polynomial m (length x) x here first c.first.result _ c.first.ensures c.after-first.ensures.rest c.value_of_terms-value.ensures in
    let rest = after_polynomial m (length x) x here first _ c.first.result c.first.ensures c.after-first.ensures.rest c.after-lines.ensures.rest in
    record {
      same_length = c.write_line.auto.out ∙ c.loop-i.invariant.same_length;
      listed = listed_more m (length x) x (drop c.args.basis.at c.args.basis.text.now) c.args.out.now c.loop-i._i here _ c.loop-i.out _ c.loop-i.end _ _ (search rules)
          (omega (arith, c.loop-i.invariant.listed.count)) c.loop-i.invariant.same_length v rest (c.unwrap_or-end.ensures ∙ ap (λ (o : Option ℕ). unwrap_or o c.loop-i.end) c.write_line.ensures.place_after) c.write_line.ensures.rest_unchanged c.loop-i.invariant.listed;
    }
