use Rattle.std.proofs.Common.{[], ◌∷◌, length, map, get_or, ap, inl, refl, arith, rules, tests}
use Rattle.std.proofs.lemmas.Iterator.{IsFirst-from_position}
use Rattle.std.proofs.lemmas.Iterator.Consumers.{YieldsList-from_first}
use Rattle.polynomials.specs.Held.{entries, terms_of}
use Rattle.polynomials.specs.Left.{entries_left}
use Rattle.polynomials.specs.declared.fault.JobFault.TheVariants.{Outside}
use Rattle.polynomials.specs.Leads.{RestStands, rests_ask, inside_ask}
use Rattle.polynomials.proofs.Answering.{asked_first, asked_same}
use Rattle.polynomials.proofs.InsideStairs.{inside_put_same}
use Rattle.polynomials.proofs.Read.{first_of_entries, few_found}
use Rattle.polynomials.proofs.Stored.{few_entries}
use Rattle.polynomials.proofs.store.Polynomials.ask_inside.Goals as goal

pub position-first-requires-clause-fits : goal.position-first-requires-clause-fits
position-first-requires-clause-fits c = inl (omega (arith, few_entries c.args.self.now, ap length c.iter.ensures))

pub refuse_first-requires-clause-counted : goal.refuse_first-requires-clause-counted
refuse_first-requires-clause-counted c = few_found (length (entries_left c.iter.result)) c.position-first.result (omega (arith, few_entries c.args.self.now, ap length c.iter.ensures)) c.position-first.ensures.bound

pub returns : goal.returns
returns c m laws cmp n fits en e =
    let es = entries c.args.self.now in
    let l = c.args.stairs.now in
    let first = IsFirst-from_position c.position-first.new.self _ c.position-first.result (λ ts. RestStands l (terms_of ts) → ⊥) (λ ts. RestStands l (terms_of ts)) c.position-first.ensures.ran (YieldsList-from_first (λ x. x.now) entries_left es c.iter.ensures) (λ x q k. search (rules, tests)) (λ x q k. search (rules, tests)) in
    asked_same 0 (rests_ask l (map terms_of es) ∷ []) (inside_ask m laws cmp n (map terms_of es) ∷ []) c.refuse_first.result (inside_put_same m laws cmp n (map terms_of es) l fits en e)
    (asked_first 17 0 (length (map terms_of es)) (λ i. RestStands l (get_or (map terms_of es) i [])) Outside (λ p. (refl, refl)) c.position-first.result c.refuse_first.result (first_of_entries es (RestStands l) c.position-first.result first) (search (rules, tests)))
