-- What of a job no call changes.
--   SameFieldAndOrder j k    the jobs j and k have the same field and the same order
-- Used by: the contract of each call that changes a job.
use Rattle.std.specs.Prelude.{◌≡◌}
use Rattle.job.specs.declared.job.Job.{Job}

abbrev pub SameFieldAndOrder : {F O : Type 0} → Job F O → Job F O → Type 0
SameFieldAndOrder j k = (k.field ≡ j.field) × (k.order ≡ j.order)
