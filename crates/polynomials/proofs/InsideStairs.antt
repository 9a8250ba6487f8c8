-- Later terms in the staircase, as the code looks for them, and as mathematics asks.
use Rattle.std.proofs.Common.{◌≡◌, ℕ, zero, suc, ◌<◌, ◌≤◌, List, [], ◌∷◌, map, length, get_or, sym, refl, ap, ◌∙◌, subst, arith}
use lib.ListN.{length-map}
use Rattle.std.specs.List.{AllByRecursion}
use Rattle.std.proofs.lemmas.List.{get_or-map}
use Rattle.std.proofs.ByRecursion.{All-get_or}
use Rattle.field.specs.Meaning.{FieldMeaning, FieldLaws}
use Rattle.order.specs.declared.monomial.Monomial.{Monomial}
use Rattle.order.specs.Monomials.{variables, one}
use Rattle.order.specs.Laws.{Comparison}
use Rattle.algebra.specs.Elements.{Elem}
use Rattle.algebra.specs.Polynomial.{Poly}
use Rattle.algebra.specs.Monomial as mono
use Rattle.algebra.specs.Monomial.{Mono, Among}
use Rattle.algebra.specs.Records.{nested, flat, Within, before_by}
use Rattle.algebra.specs.NormalForm as form
use Rattle.algebra.specs.Basis.{stairs}
use Rattle.algebra.proofs.Records.{back, forth}
use Rattle.runs.specs.Job.{Term, new, monomial_at}
use Rattle.runs.specs.Enter.{Enters}
use Rattle.runs.specs.Generators.{over_elements, generators}
use Rattle.runs.specs.Close.{Inside}
use Rattle.runs.proofs.Entered.{Fine, fine_all}
use Rattle.polynomials.specs.Leads.{Stands, RestStands, rests_ask, inside_ask}
use Rattle.polynomials.proofs.Answering.{AllSame, each_same}
use Rattle.polynomials.proofs.LeadMonomials.{within}

pub generator_at : (m : FieldMeaning) (laws : FieldLaws m) (n : ℕ) (ps : List (List Term)) (i : ℕ) → get_or (generators m laws n ps) i [] ≡ over_elements m laws n (get_or ps i [])
generator_at m laws n [] i = refl
generator_at m laws n (p ∷ ps) zero = refl
generator_at m laws n (p ∷ ps) (suc i) = generator_at m laws n ps i

module _ (n : ℕ) (fits : n ≤ variables) (S : List (Mono n)) where
  pub stands_among : (t : Monomial) → Stands (map (flat n) S) t → Among n (nested n t) S
  stands_among t x =
      let l : x.0 < length S = omega (arith, x.1, length-map S (flat n)) in
      (x.0, l, sym (back n fits (get_or S x.0 (mono.one n))) ∙ ap (nested n) (sym (get_or-map (flat n) S x.0 (mono.one n) one l) ∙ x.2))

  pub among_stands : (t : Monomial) → Within n t → Among n (nested n t) S → Stands (map (flat n) S) t
  among_stands t w x = (x.0, omega (arith, x.1, length-map S (flat n)), get_or-map (flat n) S x.0 (mono.one n) one x.1 ∙ ap (flat n) x.2 ∙ forth n fits t w)

  module _ (m : FieldMeaning) (laws : FieldLaws m) where
    all_to : (p : List Term) → ((i : ℕ) → i < length p → Stands (map (flat n) S) (monomial_at p i)) → AllByRecursion (λ t. Among n t.1 S) (over_elements m laws n p)
    all_to [] h = tt
    all_to (t ∷ p) h = (stands_among t.1 (h 0 (omega arith)), all_to p (λ i l. h (suc i) (omega arith)))

    all_from : (p : List Term) → ((i : ℕ) → i < length p → Within n (monomial_at p i)) → AllByRecursion (λ t. Among n t.1 S) (over_elements m laws n p) → (i : ℕ) → i < length p → Stands (map (flat n) S) (monomial_at p i)
    all_from [] w h i l = absurd (omega arith)
    all_from (t ∷ p) w h zero l = among_stands t.1 (w 0 l) h.0
    all_from (t ∷ p) w h (suc i) l = all_from p (λ i l. w (suc i) (omega arith)) h.1 i (omega arith)

    rest_same : (p : List Term) → ((i : ℕ) → i < length p → Within n (monomial_at p i))
        → (RestStands (map (flat n) S) p → AllByRecursion (λ t. Among n t.1 S) (form.rest n (over_elements m laws n p))) × (AllByRecursion (λ t. Among n t.1 S) (form.rest n (over_elements m laws n p)) → RestStands (map (flat n) S) p)
    rest_same [] w = (λ h. tt, λ h i l q. absurd (omega (arith, l, q)))
    rest_same (t ∷ p) w = (λ h. all_to p (λ i l. h (suc i) (omega arith) (omega arith)), go)
      where
        go : AllByRecursion (λ t. Among n t.1 S) (over_elements m laws n p) → (i : ℕ) → 1 ≤ i → i < length (t ∷ p) → Stands (map (flat n) S) (monomial_at (t ∷ p) i)
        go h zero l q = absurd (omega arith)
        go h (suc i) l q = all_from p (λ i l. w (suc i) (omega arith)) h i (omega arith)

-- the question put to the terms that the code holds is that of Close
pub inside_put_same : (m : FieldMeaning) (laws : FieldLaws m) (cmp : Comparison) (n : ℕ) (ps : List (List Term)) (l : List Monomial) → n ≤ variables → Enters m cmp (new n) ps → l ≡ map (flat n) (stairs n (before_by cmp n) (generators m laws n ps))
    → AllSame (rests_ask l ps ∷ []) (inside_ask m laws cmp n ps ∷ [])
inside_put_same m laws cmp n ps l fits en e =
    let S : List (Mono n) = stairs n (before_by cmp n) (generators m laws n ps) in
    let fs = fine_all m cmp (new n) ps en in
    let at : (i : ℕ) → i < length ps → (RestStands (map (flat n) S) (get_or ps i []) → Inside m laws cmp n ps i) × (Inside m laws cmp n ps i → RestStands (map (flat n) S) (get_or ps i [])) = λ i q.
    let f = All-get_or (Fine m cmp n) ps i [] q fs in
    subst (λ (x : Poly (Elem m) n). (RestStands (map (flat n) S) (get_or ps i []) → AllByRecursion (λ t. Among n t.1 S) (form.rest n x)) × (AllByRecursion (λ t. Among n t.1 S) (form.rest n x) → RestStands (map (flat n) S) (get_or ps i []))) (sym (generator_at m laws n ps i))
    (rest_same n fits S m laws (get_or ps i []) (λ j r. within n _ (f.ranges j r))) in
    subst (λ (x : List Monomial). AllSame (rests_ask x ps ∷ []) (inside_ask m laws cmp n ps ∷ [])) (sym e) (each_same 17 0 (length ps) (length ps) _ _ refl at, tt)
