-- What the tests of the elimination say of its numbers.
--   has_room      the places, coordinates and rows
--   below_all     the test of the pivots, taken one after the other, says that they are places; back by all_below
--   all_tested    one test of all pivots, where there is room
--   of_solvable   the room and the pivots, and back by to_solvable
--   has_lent      the places, coordinates, pivots and rows of what is lent
--   all_lent      one test of all pivots that are lent, where there is room
--   of_solves     the room that is lent and the pivots, and back by to_solves
--   own_takes     what an echelon lends of its own suffices where it has room; so own_lends and own_solves
use Rattle.std.proofs.Common.{◌≡◌, ℕ, zero, suc, ◌+◌, ◌-◌, ◌<◌, ◌≤◌, Bool, true, false, ◌&&◌, ltb, List, length, get_or, take, sym, refl, ap, ◌∙◌, add-one, arith, ltb-true, lt-ltb, leb-true}
use native.Mathlib.Decide.{ℕ_discrete}
use Rattle.std.specs.Prelude.{nat_le}
use Rattle.std.specs.List.{list_all}
use Rattle.std.proofs.lemmas.List.Folds.{list_all_more}
use Rattle.std.proofs.lemmas.Bool.{and_parts, and_from}
use Rattle.linear.specs.Elimination.{pitch, roomy, fits, covers, lends, takes, below, Below, solvable, solves}

pub record Room (d n rows : ℕ) : Type 0 where
  pub coordinates : d + n ≤ pitch
  pub enough : n ≤ rows

pub has_room : (d n rows : ℕ) → roomy d n rows ≡ true → Room d n rows
has_room d n rows h =
    let a = and_parts _ _ h in
    let b = and_parts _ _ a.0 in
    let k = leb-true d pitch b.0 in
    let l = leb-true n (pitch - d) b.1 in
    record { coordinates = omega arith; enough = leb-true n rows a.1 }

pub below_all : (d n : ℕ) (pivots : List ℕ) → below d n pivots ≡ true → Below d n pivots
below_all d zero pivots h i l = absurd (omega arith)
below_all d (suc n) pivots h i l = at (ℕ_discrete i n) (below_all d n pivots (and_parts _ _ h).0 i)
  where
    at : Dec (i ≡ n) → (i < n → get_or pivots i 0 < d) → get_or pivots i 0 < d
    at (yes e) rest = rw e (ltb-true _ _ (and_parts _ _ h).1)
    at (no e) rest = rest (omega arith)

pub all_below : (d n : ℕ) (pivots : List ℕ) → Below d n pivots → below d n pivots ≡ true
all_below d zero pivots h = refl
all_below d (suc n) pivots h = and_from _ _ (all_below d n pivots (λ i l. h i (omega arith))) (lt-ltb _ _ (h n (omega arith)))

-- the test of the first pivots, taken one after the other
all_are_below : (d n : ℕ) (pivots : List ℕ) → n ≤ length pivots → list_all (λ p. ltb p d) (take n pivots) ≡ below d n pivots
all_are_below d zero pivots h = refl
all_are_below d (suc n) pivots h = ap (λ k. list_all (λ p. ltb p d) (take k pivots)) (sym (add-one n)) ∙ list_all_more (λ p. ltb p d) pivots n 0 h ∙ ap (λ b. b && ltb (get_or pivots n 0) d) (all_are_below d n pivots (omega arith))

pub all_tested : (d n rows : ℕ) (pivots : List ℕ) → roomy d n rows ≡ true → rows ≤ length pivots → list_all (λ p. ltb p d) (take n pivots) ≡ solvable d n rows pivots
all_tested d n rows pivots room long = all_are_below d n pivots (omega (arith, (has_room d n rows room).enough, long)) ∙ sym (ap (λ b. b && below d n pivots) room)

pub of_solvable : (d n rows : ℕ) (pivots : List ℕ) → solvable d n rows pivots ≡ true → Room d n rows × Below d n pivots
of_solvable d n rows pivots h = let b = and_parts (roomy d n rows) (below d n pivots) h in (has_room d n rows b.0, below_all d n pivots b.1)

pub to_solvable : (d n rows : ℕ) (pivots : List ℕ) → roomy d n rows ≡ true → Below d n pivots → solvable d n rows pivots ≡ true
to_solvable d n rows pivots h b = and_from (roomy d n rows) (below d n pivots) h (all_below d n pivots b)

pub record Lent (d n rows pivots work : ℕ) : Type 0 where
  pub narrow : work ≤ pitch
  pub coordinates : d + n ≤ work
  pub marked : n ≤ pivots
  pub enough : n ≤ rows

pub has_lent : (d n rows pivots work : ℕ) → lends d n rows pivots work ≡ true → Lent d n rows pivots work
has_lent d n rows pivots work h =
    let a = and_parts _ _ h in
    let b = and_parts _ _ a.0 in
    let c = and_parts _ _ b.0 in
    let e = and_parts _ _ c.0 in
    let k = leb-true d work e.1 in
    let l = leb-true n (work - d) c.1 in
    record { narrow = leb-true work pitch e.0; coordinates = omega arith; marked = leb-true n pivots b.1; enough = leb-true n rows a.1 }

pub all_lent : (d n rows work : ℕ) (pivots : List ℕ) → lends d n rows (length pivots) work ≡ true → list_all (λ p. ltb p d) (take n pivots) ≡ solves d n rows pivots work
all_lent d n rows work pivots room = all_are_below d n pivots (has_lent d n rows (length pivots) work room).marked ∙ sym (ap (λ b. b && below d n pivots) room)

pub of_solves : (d n rows work : ℕ) (pivots : List ℕ) → solves d n rows pivots work ≡ true → Lent d n rows (length pivots) work × Below d n pivots
of_solves d n rows work pivots h = let b = and_parts (lends d n rows (length pivots) work) (below d n pivots) h in (has_lent d n rows (length pivots) work b.0, below_all d n pivots b.1)

pub to_solves : (d n rows work : ℕ) (pivots : List ℕ) → lends d n rows (length pivots) work ≡ true → Below d n pivots → solves d n rows pivots work ≡ true
to_solves d n rows work pivots h b = and_from (lends d n rows (length pivots) work) (below d n pivots) h (all_below d n pivots b)

twice : (a b : Bool) → (a && b && b) ≡ (a && b)
twice false b = refl
twice true false = refl
twice true true = refl

pub own_lends : (d n own : ℕ) {rows pivots work : ℕ} → rows ≡ own → pivots ≡ own → work ≡ pitch → lends d n rows pivots work ≡ roomy d n own
own_lends d n own e f g = rw (e, f, g) (twice (nat_le d pitch && nat_le n (pitch - d)) (nat_le n own))

pub own_takes : (d n stride s own : ℕ) {rows pivots work : ℕ} → rows ≡ own → pivots ≡ own → work ≡ pitch → takes d n stride s rows pivots work ≡ fits d n stride s own
own_takes d n stride s own e f g = ap (λ b. b && covers d n stride s) (own_lends d n own e f g)

pub own_solves : (d n own : ℕ) {rows work : ℕ} (pivots : List ℕ) → rows ≡ own → length pivots ≡ own → work ≡ pitch → solves d n rows pivots work ≡ solvable d n own pivots
own_solves d n own pivots e f g = ap (λ b. b && below d n pivots) (own_lends d n own e f g)
