use Rattle.std.proofs.Common.{◌≡◌, ℕ, ◌+◌, ◌-◌, ◌<◌, Bool, true, false, Decides, MatchBool, List, length, get_or, drop, sym, ap, ◌∙◌, refl, subst, arith, rules, tests, length-drop}
use mathlib.Core.Bool.{false≢true}
use Rattle.std.specs.List.{AllWithin, HoldsAt}
use Rattle.std.proofs.lemmas.List.{get_or-drop}
use Rattle.std.proofs.lemmas.Iterator.{cases_from_all, YieldsList-from_slice}
use Rattle.std.proofs.lemmas.Iterator.Adapters.{YieldsList-from_skip}
use Rattle.order.specs.declared.monomial.Monomial.{Monomial}
use Rattle.staircase.specs.declared.rules.Term.{Term}
use Rattle.polynomials.specs.Held.{terms_of}
use Rattle.polynomials.specs.Leads.{Stands, RestStands}
use Rattle.polynomials.proofs.Read.{no_term, monomial_read}
use Rattle.polynomials.proofs.Stored.{length_terms}
use Rattle.polynomials.proofs.leading.rest_stands.Goals as goal

abbrev In : List Monomial → Term → Type 0
In l t = Stands l t.monomial

abbrev Out : List Monomial → Term → Type 0
Out l t = In l t → ⊥

-- the terms past the first, by their places
past : (l : List Monomial) (ts : List Term) (r : Bool) → MatchBool r (AllWithin (In l) (drop 1 ts) 0 (length (drop 1 ts))) ((k : ℕ) × (k < length (drop 1 ts)) × HoldsAt (Out l) (drop 1 ts) k) → Decides r (RestStands l (terms_of ts))
past l ts true h = (
  λ e. λ i p q.
      let k : i < length ts = omega (arith, q, length_terms ts) in
      let at : get_or (drop 1 ts) (i - 1) no_term ≡ get_or ts i no_term = get_or-drop 1 ts (i - 1) no_term ∙ ap (λ (j : ℕ). get_or ts j no_term) (omega arith) in
      subst (Stands l) (sym (monomial_read ts i k no_term)) (subst (In l) at (h (i - 1) no_term (omega arith) (omega (arith, length-drop 1 ts)))),
  λ y. refl,
)
past l ts false h = (
  λ e. absurd (false≢true e),
  λ y.
      let k : h.0 + 1 < length ts = omega (arith, h.1, length-drop 1 ts) in
      let at : get_or (drop 1 ts) h.0 no_term ≡ get_or ts (h.0 + 1) no_term = get_or-drop 1 ts h.0 no_term ∙ ap (λ (j : ℕ). get_or ts j no_term) (omega arith) in
      absurd (h.2 no_term (subst (In l) (sym at) (subst (Stands l) (monomial_read ts (h.0 + 1) k no_term) (y (h.0 + 1) (omega arith) (omega (arith, k, length_terms ts)))))),
)

pub returns : goal.returns
returns c =
    let l = c.args.stairs.now in
    let ts = c.args.terms.now in
    past l ts c.all.result (cases_from_all _ _ c.all.result (In l) (Out l) c.all.ensures.ran (YieldsList-from_skip 1 (YieldsList-from_slice ts cc) cc) (λ x q k. search (rules, tests)) (λ x q k. search (rules, tests)))
