use Rattle.std.proofs.Common.{[], ◌∷◌}
use Rattle.polynomials.specs.Leads.{not_one_ask, powers_ask, apart_ask, lead_asks}
use Rattle.polynomials.proofs.Answering.{asked_break, asked_after, asked_same}
use Rattle.polynomials.proofs.LeadMonomials.{leads_put_same}
use Rattle.polynomials.proofs.leading.ask_leads.Goals as goal

pub returns-in_err-ask_not_one : goal.returns-in_err-ask_not_one
returns-in_err-ask_not_one c m laws cmp ps fits en e =
    let ls = c.args.leads.now in
    let n = c.args.n in
    asked_same 0 (not_one_ask ls ∷ powers_ask n ls ∷ apart_ask ls ∷ []) (lead_asks m laws n ps) c.from_residual.result (leads_put_same m laws cmp n ps ls fits en e)
    (asked_break 0 [] (not_one_ask ls ∷ []) (powers_ask n ls ∷ apart_ask ls ∷ []) c.from_residual.result c.in_err-ask_not_one.field-0.0 c.from_residual.ensures.1 tt c.in_err-ask_not_one.ensures)

pub returns-in_err-ask_powers : goal.returns-in_err-ask_powers
returns-in_err-ask_powers c m laws cmp ps fits en e =
    let ls = c.args.leads.now in
    let n = c.args.n in
    let r = c.from_residual-in_err-ask_powers.result in
    asked_same 0 (not_one_ask ls ∷ powers_ask n ls ∷ apart_ask ls ∷ []) (lead_asks m laws n ps) r (leads_put_same m laws cmp n ps ls fits en e)
    (asked_break 0 (not_one_ask ls ∷ []) (powers_ask n ls ∷ []) (apart_ask ls ∷ []) r c.in_err-ask_powers.field-0.0 c.from_residual-in_err-ask_powers.ensures.1 c.in_ok-ask_not_one.ensures c.in_err-ask_powers.ensures)

pub returns : goal.returns
returns c m laws cmp ps fits en e =
    let ls = c.args.leads.now in
    let n = c.args.n in
    asked_same 0 (not_one_ask ls ∷ powers_ask n ls ∷ apart_ask ls ∷ []) (lead_asks m laws n ps) c.ask_apart.result (leads_put_same m laws cmp n ps ls fits en e)
    (asked_after 0 (not_one_ask ls ∷ powers_ask n ls ∷ []) (apart_ask ls ∷ []) c.ask_apart.result (c.in_ok-ask_not_one.ensures.0, c.in_ok-ask_powers.ensures) c.ask_apart.ensures)
