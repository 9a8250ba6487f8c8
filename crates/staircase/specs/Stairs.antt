-- The staircase over the code's lists of monomials.
--   Leading n leads            records have n variables or more, the leading monomials have no others, and they bound the staircase:
--                              they are small, and each variable has a power of itself alone among them
--   stairs_of cmp n leads      their staircase under the order of records cmp
--   StaircaseAnswer            what a call answers whose list has room for so many: the staircase, or that it is longer
--   StaircaseWritten           what a call answers and leaves: the staircase at the front of the list lent for it, or why not
--   RestStays                  what a call leaves past the monomials that it wrote, and where it refuses
-- Used by: the calls that find the staircase.
use Rattle.std.specs.Prelude.{◌≡◌, ℕ, ◌<◌, ◌≤◌, List, map, length, take, drop, Ok, Err, Result, MatchResult}
use Rattle.arrayvec.specs.ArrayVec.{ArrayVec}
use Rattle.std.specs.List.{AllByRecursion}
use Rattle.order.specs.declared.monomial.Monomial.{Monomial}
use Rattle.order.specs.Monomials.{variables}
use Rattle.order.specs.Laws.{Comparison}
use Rattle.algebra.specs.Monomial.{Mono}
use Rattle.algebra.specs.Records.{nested, flat, Within, before_by}
use Rattle.algebra.specs.Staircase.{Bounded, staircase}
use Rattle.staircase.specs.declared.stairs.StairsFault.{StairsFault}
use Rattle.staircase.specs.declared.stairs.StairsFault.TheVariants.{NoRoom, TooMany}

pub record Leading (n : ℕ) (leads : List Monomial) : Type 0 where
  pub few : n ≤ variables
  pub within : AllByRecursion (Within n) leads
  pub bounded : Bounded n (map (nested n) leads)

abbrev pub stairs_of : Comparison → (n : ℕ) → List Monomial → List (Mono n)
stairs_of cmp n leads = staircase n (before_by cmp n) (map (nested n) leads)

abbrev pub StaircaseAnswer : {E : Type 0} → Comparison → ℕ → List Monomial → ℕ → Result (ArrayVec Monomial) E → Type 0
StaircaseAnswer cmp n leads room r = MatchResult r (λ stairs. stairs.items ≡ map (flat n) (stairs_of cmp n leads)) (λ _. room < length (stairs_of cmp n leads))

module _ (cmp : Comparison) (n : ℕ) (leads : List Monomial) (before after : List Monomial) where
  abbrev pub StaircaseWritten : Result ℕ StairsFault → Type 0
  StaircaseWritten (Ok k) = (k ≡ length (stairs_of cmp n leads)) × (take k after ≡ map (flat n) (stairs_of cmp n leads))
  StaircaseWritten (Err NoRoom) = Unit {0}
  StaircaseWritten (Err TooMany) = length before < length (stairs_of cmp n leads)

abbrev pub RestStays : {E : Type 0} → List Monomial → List Monomial → Result ℕ E → Type 0
RestStays before after (Ok k) = drop k after ≡ drop k before
RestStays before after (Err e) = after ≡ before
