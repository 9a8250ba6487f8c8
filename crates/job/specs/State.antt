-- What a job of the code is, in the words of the definitions.
--   stage_of o               the stage of a job that has the tables o: closed where there are some
--   stairs_held o            how many staircase monomials the tables o have, none where there are no tables
--   state t                  the job that the table t holds: its variables, its polynomials and its stage
--   Kept m laws cmp t        a job as calls leave it: it is sound, and the tables that it has are those of its polynomials
-- Used by: the contract of each call.
use Rattle.std.specs.Prelude.{◌≡◌, ℕ, Some, None, Option}
use Rattle.field.specs.Meaning.{FieldMeaning, FieldLaws}
use Rattle.order.specs.Laws.{Comparison}
use Rattle.runs.specs.Job.{Job, Stage, opened, closed}
use Rattle.runs.specs.Sound.{Sound}
use Rattle.polynomials.specs.Held.{held}
use Rattle.tables.specs.declared.tables.Tables.{Tables}
use Rattle.tables.specs.Holds.{stair_count, Holds}
use Rattle.job.specs.declared.table.Table.{Table}

abbrev pub stage_of : Option Tables → Stage
stage_of None = opened
stage_of (Some x) = closed

abbrev pub stairs_held : Option Tables → ℕ
stairs_held None = 0
stairs_held (Some x) = stair_count x

abbrev pub state : Table → Job
state t = record { n = t.n; polynomials = held t.polynomials; stage = stage_of t.tables }

pub record Kept (m : FieldMeaning) (laws : FieldLaws m) (cmp : Comparison) (t : Table) : Type 0 where
  pub sound : Sound m laws cmp (state t)
  pub tables : (x : Tables) → t.tables ≡ Some x → Holds m laws cmp t.n (held t.polynomials) x
