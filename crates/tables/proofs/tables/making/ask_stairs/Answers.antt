use Rattle.std.proofs.Common.{◌≤◌, List, map, length, Ok, Err, Result, ap, ◌∙◌, arith}
use lib.ListN.{length-map}
use Rattle.std.proofs.lemmas.Result.{err_from_is_err_and}
use Rattle.algebra.specs.Monomial.{Mono}
use Rattle.algebra.specs.Records.{flat}
use Rattle.staircase.specs.Stairs.{stairs_of}
use Rattle.polynomials.specs.declared.fault.JobFault.{JobFault}
use Rattle.polynomials.specs.Held.{held}
use Rattle.tables.proofs.Asking as asking
use Rattle.tables.proofs.tables.making.ask_stairs.Goals as goal

pub returns-in_err-ask_leads : goal.returns-in_err-ask_leads
returns-in_err-ask_leads g c m laws few en =
    let cmp = g.O.Order.meaning c.args.order.now in
    let O = g.met.O.Order.lawful c.args.order.now in
    let n = c.args.n in
    let ps = held c.args.polynomials.now in
    let f = c.in_err-ask_leads.field-0.0 in
    let no = c.in_err-ask_leads.ensures m laws cmp ps few en (c.as_slice.ensures.value ∙ c.leads-leads.ensures) in
    let p = err_from_is_err_and c.from_residual.result c.from_residual.ensures.1 in
    (asking.leads_refused m laws cmp O n ps few en c.from_residual.result f c.from_residual.ensures.1 no, rw p.1 tt)

pub returns-in_err-stairs : goal.returns-in_err-stairs
returns-in_err-stairs g c m laws few en =
    let cmp = g.O.Order.meaning c.args.order.now in
    let O = g.met.O.Order.lawful c.args.order.now in
    let n = c.args.n in
    let ps = held c.args.polynomials.now in
    let leads = c.as_slice-2.result.now in
    let are = c.as_slice-2.ensures.value ∙ c.leads-leads.ensures in
    let yes = c.in_ok-ask_leads.ensures m laws cmp ps few en (c.as_slice.ensures.value ∙ c.leads-leads.ensures) in
    let long = c.in_err-stairs.ensures (asking.leads_lead m laws cmp O n ps few en leads are yes) in
    let p = err_from_is_err_and c.from_residual-in_err-stairs.result c.from_residual-in_err-stairs.ensures.1 in
    rw (p.1, p.2) (asking.size_refused m laws cmp O n ps few en leads are yes long, tt)

pub returns-in_err-ask_inside : goal.returns-in_err-ask_inside
returns-in_err-ask_inside g c m laws few en =
    let cmp = g.O.Order.meaning c.args.order.now in
    let O = g.met.O.Order.lawful c.args.order.now in
    let n = c.args.n in
    let ps = held c.args.polynomials.now in
    let leads = c.as_slice-2.result.now in
    let are = c.as_slice-2.ensures.value ∙ c.leads-leads.ensures in
    let yes = c.in_ok-ask_leads.ensures m laws cmp ps few en (c.as_slice.ensures.value ∙ c.leads-leads.ensures) in
    let found = c.in_ok-stairs.ensures (asking.leads_lead m laws cmp O n ps few en leads are yes) in
    let stairs = found ∙ ap (λ (s : List (Mono n)). map (flat n) s) (asking.stairs_are m laws cmp O n ps few en leads are yes) in
    let asked = c.in_err-ask_inside.ensures m laws cmp n few en (c.as_slice-3.ensures.value ∙ stairs) in
    let short : length (stairs_of cmp n leads) ≤ 48 = omega (arith, c.as_slice-3.ensures.fits, ap length (c.as_slice-3.ensures.value ∙ found), length-map (stairs_of cmp n leads) (flat n)) in
    let no_inside : Result (Unit {0}) JobFault = Err c.in_err-ask_inside.field-0.0 in
    let p = err_from_is_err_and c.from_residual-in_err-ask_inside.result c.from_residual-in_err-ask_inside.ensures.1 in
    rw (p.1, p.2) (asking.inside_asked m laws cmp O n ps few en leads are yes no_inside short asked, tt)

pub returns : goal.returns
returns g c m laws few en =
    let cmp = g.O.Order.meaning c.args.order.now in
    let O = g.met.O.Order.lawful c.args.order.now in
    let n = c.args.n in
    let ps = held c.args.polynomials.now in
    let leads = c.as_slice-2.result.now in
    let are = c.as_slice-2.ensures.value ∙ c.leads-leads.ensures in
    let yes = c.in_ok-ask_leads.ensures m laws cmp ps few en (c.as_slice.ensures.value ∙ c.leads-leads.ensures) in
    let found = c.in_ok-stairs.ensures (asking.leads_lead m laws cmp O n ps few en leads are yes) in
    let stairs = found ∙ ap (λ (s : List (Mono n)). map (flat n) s) (asking.stairs_are m laws cmp O n ps few en leads are yes) in
    let asked = c.in_ok-ask_inside.ensures m laws cmp n few en (c.as_slice-3.ensures.value ∙ stairs) in
    let short : length (stairs_of cmp n leads) ≤ 48 = omega (arith, c.as_slice-3.ensures.fits, ap length (c.as_slice-3.ensures.value ∙ found), length-map (stairs_of cmp n leads) (flat n)) in
    let yes_inside : Result (Unit {0}) JobFault = Ok tt in
    (asking.inside_asked m laws cmp O n ps few en leads are yes yes_inside short asked, stairs)
