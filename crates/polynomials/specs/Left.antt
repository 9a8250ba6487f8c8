-- What is still to come where the polynomials of a store are gone over.
--   entries_left s      the polynomials that s has not given yet, first to last, by the code's terms
-- Used by: whoever goes over the polynomials of a job.
use Rattle.std.specs.Prelude.{List, drop}
use Rattle.staircase.specs.declared.rules.Term.{Term}
use Rattle.polynomials.specs.Held.{entries}
use Rattle.polynomials.specs.declared.iter.Entries.{Entries}

abbrev pub entries_left : Entries → List (List Term)
entries_left s = drop s.place (entries s.store.now)
