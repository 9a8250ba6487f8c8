use Rattle.std.proofs.Common.{◌≡◌, ℕ, Some, ◌∙◌, subst}
use Rattle.std.proofs.lemmas.Result.{err_from_is_err_and}
use Rattle.column.specs.Walk.{left}
use Rattle.evaluation.specs.Answer.{asks_polynomial}
use Rattle.evaluation.specs.Steps.{PolynomialPassed}
use Rattle.evaluation.proofs.Asking.{polynomials_more, polynomials-broken, polynomials_passed}
use Rattle.evaluation.proofs.basis.ask_polynomials.Goals as goal

pub returns-in_err-here : goal.returns-in_err-here
returns-in_err-here g c =
    let p = err_from_is_err_and c.from_residual.result c.from_residual.ensures.1 in
    let m = g.F.Field.meaning c.args.field.now in
    let r = c.args.reader in
    let q = c.loop-i.here.here in
    let e = subst (λ (n : ℕ). asks_polynomial m n (left q) q.place.line ≡ Some c.in_err-here.field-0.0) c.loop-i.invariant.same c.in_err-here.ensures.asked in
    rw (p.1, p.2) (record { asked = polynomials-broken m r.n c.args.count r.here c.loop-i._i q c.loop-i-test.true c.loop-i.invariant.walked _ e })

pub loop-i-preserved : goal.loop-i-preserved
loop-i-preserved g c =
    let m = g.F.Field.meaning c.args.field.now in
    let r = c.args.reader in
    let q = c.loop-i.here.here in
    let same = c.loop-i.invariant.same in
    let next = c.in_ok-here.ensures.asked in
    let l = subst (λ (n : ℕ). PolynomialPassed m n q c.in_ok-here.here.here) same next.1 in
    record { same = next.0 ∙ same; walked = polynomials_more m r.n c.args.count r.here c.loop-i._i q c.loop-i-test.true c.loop-i.invariant.walked _ l }

pub returns : goal.returns
returns g c =
    let r = c.args.reader in
    record { asked = (c.loop-i.invariant.same, polynomials_passed (g.F.Field.meaning c.args.field.now) r.n c.args.count r.here c.loop-i._i c.loop-i.here.here c.loop-i-test.false c.loop-i.auto._i-end c.loop-i.invariant.walked) }
