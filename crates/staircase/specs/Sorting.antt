-- Increasing lists, by what a comparison answers.
--   put cmp m a l on r      m put before a, left out, or put into what follows a, as the answer r of m and a says
--   inserted_by cmp m l     m put into the increasing list l, unless it is there
--   sorted_by cmp l         the members of l in increasing order, each once
-- Used by: the inner functions that sort. What a public function promises is said with the increasing lists of the definitions.
use Rattle.std.specs.Prelude.{List, [], ◌∷◌}
use Rattle.std.specs.declared.cmp.Ordering.TheVariants.{Less, Equal, Greater}
use Rattle.std.specs.declared.cmp.Ordering.{Ordering}

module _ {A : Type 0} (cmp : A → A → Ordering) where
  abbrev pub put : A → A → List A → List A → Ordering → List A
  put m a l on Less = m ∷ a ∷ l
  put m a l on Equal = a ∷ l
  put m a l on Greater = a ∷ on

  unfoldable pub inserted_by : A → List A → List A
  inserted_by m [] = m ∷ []
  inserted_by m (a ∷ l) = put m a l (inserted_by m l) (cmp m a)

  unfoldable pub sorted_by : List A → List A
  sorted_by [] = []
  sorted_by (a ∷ l) = inserted_by a (sorted_by l)
