use Rattle.std.proofs.Common.{◌≡◌, ℕ, ◌++◌, length, take, drop, sym, refl, ap, ◌∙◌, subst, arith}
use Rattle.std.proofs.lemmas.Result.{err_from_is_err_and}
use Rattle.std.proofs.lemmas.List.{length-take-le, take_at, drop_at}
use Rattle.runs.specs.Reduce.{Reduced}
use Rattle.polynomials.specs.Held.{terms_of}
use Rattle.conversion.proofs.Reducing.{reduced}
use Rattle.conversion.proofs.reduce.reduce.Goals as goal

pub returns-in_err-value : goal.returns-in_err-value
returns-in_err-value g c =
    let p = err_from_is_err_and c.from_residual.result c.from_residual.ensures.1 in
    rw p.1 (record { refused_as_was = refl; rest_unchanged = refl; answered = λ laws cmp ps O S H. absurd (c.in_err-value.ensures.fits H.ready) })

pub returns : goal.returns
returns g c =
    let m = g.F.Field.meaning c.args.field.now in
    let n = c.args.n in
    let t = c.args.tables.now in
    let ys = c.copy_from_slice.new.self in
    let value = c.in_ok-value.value in
    let d = c.size-d.result in
    let out = ys ++ drop d c.args.out.now in
    let long : length ys ≡ d = ap length c.copy_from_slice.ensures.after ∙ length-take-le d value (omega arith) in
    let front = subst (λ (d : ℕ). take d out ≡ take d value) c.size-d.ensures (take_at ys (drop d c.args.out.now) d long ∙ c.copy_from_slice.ensures.after) in
    record {
      refused_as_was = tt;
      rest_unchanged = subst (λ (d : ℕ). drop d out ≡ drop d c.args.out.now) c.size-d.ensures (drop_at ys (drop d c.args.out.now) d long);
      answered = λ laws cmp ps O S H. (
        omega (arith, H.size),
        subst (Reduced m laws cmp n ps (terms_of c.args.terms.now)) (sym front) (reduced m laws cmp O n ps S t H c.args.terms.now value (omega (arith, t.few)) (c.in_ok-value.ensures.evaluated laws)),
      );
    }
