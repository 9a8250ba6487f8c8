-- A Result whose error is mapped, from what `map_err` promises.
use Rattle.std.proofs.Common.{◌≡◌, ℕ, List, IsErrAnd, Ok, Err, Result, refl, ap, ◌∙◌, subst}
use Rattle.std.specs.Result.{MatchResult, result_map_both}
use Rattle.std.proofs.lemmas.Result.{err_from_is_err_and}
use Rattle.runs.specs.Question.{Question, AllYes, Refused}
use Rattle.polynomials.specs.declared.fault.JobFault.{JobFault}
use Rattle.polynomials.specs.Faults.{number_of, place_of}
use Rattle.polynomials.specs.Asked.{Asked}
use Rattle.text.specs.declared.fault.TextFault.{TextFault}
use Rattle.text.specs.declared.fault.TextFault.TheVariants.{Job}

module _ {T E D : Type 0} (g : E → D) where
  pub mapped : (r : Result T E) (s : Result T D) (post : E → D → Type 0) → ((e : E) (d : D) → post e d → d ≡ g e) → MatchResult r (λ x. s ≡ Ok x) (λ e. IsErrAnd s (post e)) → s ≡ result_map_both (λ x. x) g r
  mapped (Ok x) s post h c = c
  mapped (Err e) s post h c = let p = err_from_is_err_and s c in p.1 ∙ ap {B = Result T D} Err (h e p.0 p.2)

  -- which variant it is
  pub mapped_ok : (r : Result T E) (s : Result T D) (x : T) → s ≡ result_map_both (λ x. x) g r → s ≡ Ok x → r ≡ Ok x
  mapped_ok (Ok y) s x m e = let same : y ≡ x = cc in ap {B = Result T E} Ok same
  mapped_ok (Err f) s x m e = absurd (cc)

  pub mapped_err : (r : Result T E) (s : Result T D) (d : D) → s ≡ result_map_both (λ x. x) g r → s ≡ Err d → (e : E) × (r ≡ Err e) × (d ≡ g e)
  mapped_err (Ok y) s d m e = absurd (cc)
  mapped_err (Err f) s d m e = (f, refl, cc)

-- the answer of the job to questions, its fault in a line
module _ (line : ℕ) (qs : List Question) (r : Result (Unit {0}) JobFault) (s : Result (Unit {0}) TextFault) (is : s ≡ result_map_both (λ x. x) (λ f. Job f line) r) (asked : Asked 0 qs r) where
  pub all_yes : s ≡ Ok tt → AllYes qs
  all_yes e = subst (Asked 0 qs) (mapped_ok (λ f. Job f line) r s tt is e) asked

  pub first_no : (f : TextFault) → s ≡ Err f → (g : JobFault) × (r ≡ Err g) × (f ≡ Job g line) × Refused qs (number_of g) 0 (place_of g)
  first_no f e = let h = mapped_err (λ f. Job f line) r s f is e in (h.0, h.1, h.2, subst (Asked 0 qs) h.1 asked)

-- what a clause by cases says of the variant that it is
module _ {T E : Type 0} (P Q : Type 0) where
  pub at_ok : (r : Result T E) (x : T) → r ≡ Ok x → elim r as (λ _. Type 0) [ Ok _ ↦ P | Err _ ↦ Q ] → P
  at_ok (Ok y) x e h = h
  at_ok (Err f) x e h = absurd (cc)

  pub at_err : (r : Result T E) (f : E) → r ≡ Err f → elim r as (λ _. Type 0) [ Ok _ ↦ P | Err _ ↦ Q ] → Q
  at_err (Ok y) f e h = absurd (cc)
  at_err (Err d) f e h = h
