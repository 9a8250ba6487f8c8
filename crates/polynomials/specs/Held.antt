-- The polynomials that a store holds.
--   terms_of ts     the code's terms as a job's: a coefficient and a monomial
--   part xs a b     the members of xs from place a up to place b
--   entries s       the polynomials of the store s, first to last, by the code's terms
--   held s          the same by a job's terms
-- Used by: whatever reads or changes the polynomials of a job.
use Rattle.std.specs.Prelude.{ℕ, suc, List, map, slice_index, slice_range}
use Rattle.algebra.specs.Lists.{build}
use Rattle.runs.specs.Job as job
use Rattle.staircase.specs.declared.rules.Term.{Term}
use Rattle.polynomials.specs.declared.store.Polynomials.{Polynomials}

abbrev pub terms_of : List Term → List job.Term
terms_of ts = map (λ (t : Term). (t.coefficient, t.monomial)) ts

abbrev pub part : {A : Type 0} → List A → ℕ → ℕ → List A
part xs a b = slice_range xs a b

-- each ends where the next begins
unfoldable pub entries : Polynomials → List (List Term)
entries s = build s.count (λ i. part s.terms (slice_index s.starts i) (slice_index s.starts (suc i)))

abbrev pub held : Polynomials → List (List job.Term)
held s = map terms_of (entries s)
