use Rattle.std.proofs.Common.{◌≡◌, ℕ, ◌+◌, length, take, drop, Some, ◌∙◌, subst, arith, length-append, length-drop}
use Rattle.std.proofs.lemmas.Result.{err_from_is_err_and}
use Rattle.std.proofs.lemmas.List.{length-take-le}
use Rattle.column.specs.Walk.{left}
use Rattle.evaluation.specs.Answer.{asks_line}
use Rattle.evaluation.specs.Steps.{LinePassed}
use Rattle.evaluation.proofs.Passing.{walked_more, walked_all, walk_broken}
use Rattle.evaluation.proofs.reading.Reader.pass_terms.Goals as goal

pub returns-in_err-here : goal.returns-in_err-here
returns-in_err-here c =
    let p = err_from_is_err_and c.from_residual.result c.from_residual.ensures.1 in
    let r = c.args.self in
    let n = r.n + 1 in
    let here = c.loop-i.here.here in
    let wide : length (take n c.loop-i.words) ≡ n = length-take-le n c.loop-i.words (omega (arith, c.loop-i.invariant.words)) in
    let e = subst (λ (k : ℕ). asks_line k (left here) here.place.line ≡ Some c.in_err-here.field-0.0) wide c.in_err-here.ensures.asked in
    rw (p.1, p.2) (record { asked = walk_broken n c.args.count r.here c.loop-i._i here _ c.loop-i-test.true c.loop-i.invariant.walked e })

pub loop-i-preserved : goal.loop-i-preserved
loop-i-preserved c =
    let r = c.args.self in
    let n = r.n + 1 in
    let ws = c.read.new.words in
    let here = c.loop-i.here.here in
    let wide : length (take n c.loop-i.words) ≡ n = length-take-le n c.loop-i.words (omega (arith, c.loop-i.invariant.words)) in
    let l = subst (λ (k : ℕ). LinePassed k here c.in_ok-here.here.here ws) wide c.in_ok-here.ensures.asked.1 in
    record {
      words = omega (arith, length-append ws (drop n c.loop-i.words), length-drop n c.loop-i.words, c.read.auto.words, wide);
      same = c.in_ok-here.ensures.asked.0 ∙ c.loop-i.invariant.same;
      walked = walked_more n c.args.count r.here c.loop-i._i here _ ws c.loop-i-test.true c.loop-i.invariant.walked l;
    }

pub returns : goal.returns
returns c =
    let r = c.args.self in
    record { asked = (c.loop-i.invariant.same, walked_all (r.n + 1) c.args.count r.here c.loop-i._i c.loop-i.here.here c.loop-i-test.false c.loop-i.auto._i-end c.loop-i.invariant.walked) }
