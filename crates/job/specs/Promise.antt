-- What a call promises, in the words of runs.
--   answer_of words r                the answer of a call: the words that it wrote or answered, or the refusal by its number and place
--   Promised m cmp t c a u           of a job as calls leave it, by its table t, in three parts:
--     answered                       the call c is answered by a, and the job is then that of u
--     kept                           it is again a job as calls leave it
--     run_whole                      every run that ends in the job before, with this call and its answer appended, is whole
--   stair_of m laws cmp j p stage    the monomial at place p, from 1 to D, of the staircase of a closed job; otherwise none
-- Used by: the contract of each call.
use Rattle.std.specs.Prelude.{ℕ, pred, cond, ◌&&◌, List, Some, None, Ok, Err, Option, Result, nat_le}
use Rattle.field.specs.Meaning.{FieldMeaning, FieldLaws}
use Rattle.order.specs.declared.monomial.Monomial.{Monomial}
use Rattle.order.specs.Laws.{Comparison}
use Rattle.algebra.specs.Records.{flat}
use Rattle.runs.specs.Job.{Job, Stage, opened, closed}
use Rattle.runs.specs.Generators.{D, stair_at}
use Rattle.runs.specs.Call.{Call, Answer, refused, accepted, Answered}
use Rattle.runs.specs.Whole.{StaysWhole}
use Rattle.polynomials.specs.declared.fault.JobFault.{JobFault}
use Rattle.polynomials.specs.Faults.{number_of, place_of}
use Rattle.job.specs.declared.table.Table.{Table}
use Rattle.job.specs.State.{state, Kept}

abbrev pub answer_of : {A : Type 0} → (A → List ℕ) → Result A JobFault → Answer
answer_of words (Ok a) = accepted (words a)
answer_of words (Err f) = refused (number_of f) 0 (place_of f)

pub record Promised (m : FieldMeaning) (cmp : Comparison) (t : Table) (c : Call) (a : Answer) (u : Table) : Type 0 where
  pub answered : (laws : FieldLaws m) → Kept m laws cmp t → Answered m laws cmp (state t) c a (state u)
  pub kept : (laws : FieldLaws m) → Kept m laws cmp t → Kept m laws cmp u
  pub run_whole : (laws : FieldLaws m) → Kept m laws cmp t → StaysWhole m laws cmp (state t) c a

abbrev pub stair_of : (m : FieldMeaning) → FieldLaws m → Comparison → (j : Job) → ℕ → Stage → Option Monomial
stair_of m laws cmp j p opened = None
stair_of m laws cmp j p closed = cond (nat_le 1 p && nat_le p (D m laws cmp j.n j.polynomials)) (Some (flat j.n (stair_at m laws cmp j.n j.polynomials (pred p)))) None
