-- Terms as the code reads them, and as a job has them.
use Rattle.std.proofs.Common.{◌≡◌, ℕ, zero, suc, ◌+◌, ◌-◌, ◌^◌, ◌<◌, ◌≤◌, List, [], ◌∷◌, ◌++◌, map, length, get_or, drop, zip, length-drop, Less, Some, None, Ok, Err, Option, IfSome, MatchOption, Result, sym, refl, ap, ap₂, ◌∙◌, subst, arith, length-append}
use Rattle.std.specs.List.{AllWithin, HoldsAt, slice_get}
use Rattle.std.specs.Option.{UnwrapsOrElse}
use lib.ListN.{length-map}
use Rattle.std.proofs.lemmas.List.{get_or-map}
use Rattle.std.proofs.Math.ListN.{get_or-map as get_or-map-default}
use Rattle.std.proofs.lemmas.Grind.{get_or_after_one}
use Rattle.std.proofs.lemmas.Slice.Zip.{length-zip, get_or-zip}
use Rattle.order.specs.declared.monomial.Monomial.{Monomial}
use Rattle.order.specs.Monomials.{one}
use Rattle.order.specs.Laws.{Comparison}
use Rattle.runs.specs.Question.{each}
use Rattle.runs.specs.Job as job
use Rattle.runs.specs.Job.{coefficient_at, monomial_at}
use Rattle.runs.specs.Enter.{Falls}
use Rattle.staircase.specs.declared.rules.Term.{Term}
use Rattle.polynomials.specs.declared.store.Polynomials.{Polynomials}
use Rattle.polynomials.specs.Held.{terms_of, held}
use Rattle.polynomials.specs.declared.fault.JobFault.{JobFault}
use Rattle.polynomials.specs.declared.fault.JobFault.TheVariants.{NotFalling}
use Rattle.polynomials.specs.Asked.{Asked}
use Rattle.polynomials.specs.TermQuestions.{falling_ask}
use Rattle.polynomials.specs.Leads.{lead_of, leads_of}
use Rattle.polynomials.proofs.Answering.{FirstNo, Named, RefusedFirst, asked_first}
use Rattle.polynomials.proofs.Stored.{length_terms, few_held}

module _ (ts : List Term) (i : ℕ) (h : i < length ts) (d : Term) where
  term_read : get_or (terms_of ts) i (0, one) ≡ ((get_or ts i d).coefficient, (get_or ts i d).monomial)
  term_read = get_or-map {Y = job.Term} (λ (t : Term). (t.coefficient, t.monomial)) ts i d (0, one) h

  pub coefficient_read : coefficient_at (terms_of ts) i ≡ (get_or ts i d).coefficient
  coefficient_read = ap (λ (t : job.Term). t.0) term_read

  pub monomial_read : monomial_at (terms_of ts) i ≡ (get_or ts i d).monomial
  monomial_read = ap (λ (t : job.Term). t.1) term_read

-- what code reads past the last term
abbrev pub no_term : Term
no_term = record { coefficient = 0; monomial = one }

-- a question put to each term as a job has it, asked of the terms that the code reads
module _ (number line : ℕ) (ts : List Term) {B : Type 0} (at : ℕ → B) (read : Term → B) (same : (i : ℕ) → i < length ts → at i ≡ read (get_or ts i no_term)) (P : B → Type 0) where
  first_of_terms : (first : Option ℕ) → FirstNo (length ts) (λ j. P (read (get_or ts j no_term))) first → FirstNo (length (terms_of ts)) (λ i. P (at i)) first
  first_of_terms None h = λ j l. let q : j < length ts = omega (arith, l, length_terms ts) in subst P (sym (same j q)) (h j q)
  first_of_terms (Some i) h = (omega (arith, h.0, length_terms ts), (λ y. h.1 (subst P (same i h.0) y)), λ j q. subst P (sym (same j (omega (arith, h.0, q)))) (h.2 j q))

  terms_asked : (fault : ℕ → JobFault) → Named number fault → (first : Option ℕ) (r : Result (Unit {0}) JobFault) → FirstNo (length ts) (λ j. P (read (get_or ts j no_term))) first → RefusedFirst fault first r → Asked line (each number line (length (terms_of ts)) (λ i. P (at i)) ∷ []) r
  terms_asked fault says first r h e = asked_first number line (length (terms_of ts)) (λ i. P (at i)) fault says first r (first_of_terms first h) e

module _ (number line : ℕ) (ts : List Term) where
  pub coefficients_asked : (P : ℕ → Type 0) (fault : ℕ → JobFault) → Named number fault → (first : Option ℕ) (r : Result (Unit {0}) JobFault) → FirstNo (length ts) (λ j. P (get_or ts j no_term).coefficient) first → RefusedFirst fault first r → Asked line (each number line (length (terms_of ts)) (λ i. P (coefficient_at (terms_of ts) i)) ∷ []) r
  coefficients_asked = terms_asked number line ts (coefficient_at (terms_of ts)) (λ t. t.coefficient) (λ i l. coefficient_read ts i l no_term)

  pub monomials_asked : (P : Monomial → Type 0) (fault : ℕ → JobFault) → Named number fault → (first : Option ℕ) (r : Result (Unit {0}) JobFault) → FirstNo (length ts) (λ j. P (get_or ts j no_term).monomial) first → RefusedFirst fault first r → Asked line (each number line (length (terms_of ts)) (λ i. P (monomial_at (terms_of ts) i)) ∷ []) r
  monomials_asked = terms_asked number line ts (monomial_at (terms_of ts)) (λ t. t.monomial) (λ i l. monomial_read ts i l no_term)

-- a term that is less than the one before it
pub falls_at : (cmp : Comparison) (p : List job.Term) (i : ℕ) → 1 ≤ i → cmp (monomial_at p i) (monomial_at p (i - 1)) ≡ Less → Falls cmp p i
falls_at cmp p zero l e = tt
falls_at cmp p (suc i) l e = let q : suc i - 1 ≡ i = omega arith in subst (λ (x : ℕ). cmp (monomial_at p (suc i)) (monomial_at p x) ≡ Less) q e

-- a term and the next, as the code reads them side by side

module _ (ts : List Term) where
  abbrev pub pairs : List (Term × Term)
  pairs = zip ts (drop 1 ts)

  pub length_pairs : length (zip ts (drop 1 ts)) ≡ length ts - 1
  length_pairs = length-zip ts (drop 1 ts) ∙ omega (arith, length-drop 1 ts)

  pair_at : (i : ℕ) → suc i < length ts → get_or (zip ts (drop 1 ts)) i (no_term, no_term) ≡ (get_or ts i no_term, get_or ts (suc i) no_term)
  pair_at i l = get_or-zip ts (drop 1 ts) i (no_term, no_term) (omega arith) (omega (arith, length-drop 1 ts)) ∙ ap (λ (t : Term). (get_or ts i no_term, t)) (get_or_after_one ts i no_term ∙ ap (λ (k : ℕ). get_or ts k no_term) (omega arith))

  abbrev pub Falling : Comparison → Term × Term → Type 0
  Falling cmp p = cmp p.1.monomial p.0.monomial ≡ Less

  read_pair : (cmp : Comparison) (i : ℕ) → suc i < length ts → cmp (monomial_at (terms_of ts) (suc i)) (monomial_at (terms_of ts) i) ≡ cmp (get_or ts (suc i) no_term).monomial (get_or ts i no_term).monomial
  read_pair cmp i l = ap₂ cmp (monomial_read ts (suc i) l no_term) (monomial_read ts i (omega arith) no_term)

  falls_before : (cmp : Comparison) (c : ℕ) → c ≤ length pairs → AllWithin (Falling cmp) (zip ts (drop 1 ts)) 0 c → (j : ℕ) → j < c + 1 → Falls cmp (terms_of ts) j
  falls_before cmp c le h zero l = tt
  falls_before cmp c le h (suc i) l = let q : suc i < length ts = omega (arith, length_pairs) in read_pair cmp i q ∙ subst (Falling cmp) (pair_at i q) (h i (no_term, no_term) (omega arith) (omega arith))

  rises_at : (cmp : Comparison) (i : ℕ) → i < length (zip ts (drop 1 ts)) → HoldsAt (λ p. Falling cmp p → ⊥) (zip ts (drop 1 ts)) i → Falls cmp (terms_of ts) (suc i) → ⊥
  rises_at cmp i l h y = let q : suc i < length ts = omega (arith, length_pairs) in h (no_term, no_term) (subst (Falling cmp) (sym (pair_at i q)) (sym (read_pair cmp i q) ∙ y))

  pub falling_asked : (cmp : Comparison) (line : ℕ) (first : Option ℕ) (r : Result (Unit {0}) JobFault)
      → MatchOption first (AllWithin (Falling cmp) (zip ts (drop 1 ts)) 0 (length (zip ts (drop 1 ts)))) (λ i. (i < length (zip ts (drop 1 ts))) × HoldsAt (λ p. Falling cmp p → ⊥) (zip ts (drop 1 ts)) i × AllWithin (Falling cmp) (zip ts (drop 1 ts)) 0 i)
      → MatchOption first (r ≡ Ok tt) (λ i. r ≡ Err (NotFalling (i + 2))) → Asked line (falling_ask cmp line (terms_of ts) ∷ []) r
  falling_asked cmp line None r h e = asked_first 11 line (length (terms_of ts)) (Falls cmp (terms_of ts)) NotFalling (λ p. (refl, refl)) None r (λ j l. falls_before cmp (length pairs) (omega arith) h j (omega (arith, l, length_pairs, length_terms ts))) e
  falling_asked cmp line (Some i) r h e =
      asked_first 11 line (length (terms_of ts)) (Falls cmp (terms_of ts)) NotFalling (λ p. (refl, refl)) (Some (suc i)) r
      (omega (arith, h.0, length_pairs, length_terms ts), rises_at cmp i h.0 h.1, λ j l. falls_before cmp i (omega (arith, h.0)) h.2 j (omega arith))
      (e ∙ ap (λ (p : ℕ). Err (NotFalling p)) (omega arith))

pub first_read : (ts : List Term) (o : Option Term) (t : Term) (IsDefault : Term → Type 0) → o ≡ slice_get ts 0 → UnwrapsOrElse o IsDefault t → ((u : Term) → IsDefault u → u.monomial ≡ one) → t.monomial ≡ monomial_at (terms_of ts) 0
first_read [] o t D e h d = d t (subst (λ (x : Option Term). UnwrapsOrElse x D t) e h)
first_read (x ∷ ts) o t D e h d = ap (λ (u : Term). u.monomial) (subst (λ (y : Option Term). UnwrapsOrElse y D t) e h)

-- the first polynomial that gets a no, as the code goes over them, and as a job has them
module _ (es : List (List Term)) (P : List job.Term → Type 0) where
  pub first_of_entries : (first : Option ℕ) → MatchOption first (AllWithin (λ ts. P (terms_of ts)) es 0 (length es)) (λ i. (i < length es) × HoldsAt (λ ts. P (terms_of ts) → ⊥) es i × AllWithin (λ ts. P (terms_of ts)) es 0 i) → FirstNo (length (map terms_of es)) (λ i. P (get_or (map terms_of es) i [])) first
  first_of_entries None h = λ j l. subst P (sym (get_or-map-default terms_of es j [])) (h j [] (omega arith) (omega (arith, l, length-map es terms_of)))
  first_of_entries (Some i) h = (omega (arith, h.0, length-map es terms_of), (λ y. h.1 [] (subst P (get_or-map-default terms_of es i []) y)), λ j l. subst P (sym (get_or-map-default terms_of es j [])) (h.2 j [] (omega arith) l))

-- a place found in a short list has a number after it
pub few_found : (n : ℕ) (first : Option ℕ) → n ≤ 48 → IfSome first (λ i. i < n) → IfSome first (λ i. i + 1 < 2 ^ 64)
few_found n None l h = tt
few_found n (Some i) l h = omega (arith, l, h)

-- the leading monomials of those that are left follow those of the polynomials before

pub leads_room : (s : Polynomials) (ls : List Monomial) (es fs : List (List Term)) (p : List Term) → es ≡ p ∷ fs → ls ++ leads_of (map terms_of es) ≡ leads_of (held s) → length ls < 48
leads_room s ls es fs p e h = omega (arith, few_held s, length-map (held s) lead_of, ap length h, length-append ls (leads_of (map terms_of es)), ap (λ (xs : List (List Term)). length (leads_of (map terms_of xs))) e)
