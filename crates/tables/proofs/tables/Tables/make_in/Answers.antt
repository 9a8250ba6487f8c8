use Rattle.std.proofs.Common.{Err, sym, refl, ap, ◌∙◌, subst}
use Rattle.std.proofs.lemmas.Result.{err_from_is_err_and}
use Rattle.polynomials.specs.declared.fault.JobFault.{JobFault}
use Rattle.polynomials.specs.Held.{held}
use Rattle.tables.specs.Holds.{Holds}
use Rattle.tables.specs.Making.{MadeIn}
use Rattle.tables.proofs.Answered.{kept_by, never_refused}
use Rattle.tables.proofs.Asking as asking
use Rattle.tables.proofs.tables.Tables.make_in.Goals as goal
use Rattle.tables.proofs.tables.Tables.make_in.Goals.{then-is_err-via-then-is_err, then-is_err-via-else-is_err+then-not-agree}

pub returns-in_err-stairs : goal.returns-in_err-stairs
returns-in_err-stairs g c =
    let m = g.F.Field.meaning c.args.field.now in
    let cmp = g.O.Order.meaning c.args.order.now in
    let O = g.met.O.Order.lawful c.args.order.now in
    let n = c.args.n in
    let ps = held c.args.polynomials.now in
    let f = c.in_err-stairs.field-0.0 in
    let p = err_from_is_err_and c.from_residual.result c.from_residual.ensures.1 in
    subst (MadeIn m cmp n ps c.args.place.now) (sym (p.1 ∙ ap (λ (e : JobFault). Err e) p.2)) (λ laws few en. asking.stairs_refused m laws cmp O n ps few en f (c.in_err-stairs.ensures m laws few en).0)

pub returns-then-is_err : goal.returns-then-is_err
returns-then-is_err g c laws few en =
    let m = g.F.Field.meaning c.args.field.now in
    let cmp = g.O.Order.meaning c.args.order.now in
    let O = g.met.O.Order.lawful c.args.order.now in
    let n = c.args.n in
    let ps = held c.args.polynomials.now in
    let asked = c.in_ok-stairs.ensures m laws few en in
    let filled = c.fill-filled.ensures laws (asking.closable m laws cmp O n ps few en asked.0) asked.1 in
    elim c.then-is_err.branch [
      | then-is_err-via-then-is_err w ↦ absurd (never_refused c.fill-filled.result c.fill-filled.new.self (Holds m laws cmp n ps) (sym w.if-is_err.ensures.value) filled)
      | then-is_err-via-else-is_err+then-not-agree w ↦ asking.agree_refused m laws cmp O n ps few en asked.0 (w.if-not-agree.ensures laws cmp ps few (kept_by c.fill-filled.result c.fill-filled.new.self (Holds m laws cmp n ps) filled)).1
    ]

pub returns : goal.returns
returns g c =
    let m = g.F.Field.meaning c.args.field.now in
    let cmp = g.O.Order.meaning c.args.order.now in
    let O = g.met.O.Order.lawful c.args.order.now in
    let n = c.args.n in
    let ps = held c.args.polynomials.now in
    let t = c.fill-filled.new.self in (
      t,
      refl,
      c.size.ensures,
      λ laws few en.
          let asked = c.in_ok-stairs.ensures m laws few en in
          let filled = kept_by c.fill-filled.result t (Holds m laws cmp n ps) (c.fill-filled.ensures laws (asking.closable m laws cmp O n ps few en asked.0) asked.1) in
          (asking.agree_yes m laws cmp O n ps few en asked.0 ((c.if-not-agree.ensures laws cmp ps few filled).0 tt), filled),
    )
