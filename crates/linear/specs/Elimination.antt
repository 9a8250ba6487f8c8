-- Elimination of a family of vectors: what an echelon holds, and what each call answers.
--   pitch                                the words of one row
--   rows m laws stride xs l k            the element at place k of row l, where the rows of a list begin stride words apart
--   held m laws table l k                the element at place k of row l of a table, a list of rows
--   Wide n table                         the first n rows of a table have a pitch of words each
--   Table m laws d n v table pivots      a table as an elimination leaves it: v 0 .. v (n - 1) are independent, and the first n rows are elements and stand in echelon over them
--   Growing m laws d N n v table pivots  the same within an elimination with room for N coordinates
--   Relation m laws d n v row            after its d places the row holds the opposites of coefficients that combine v 0 .. v (n - 1) to v n
--   roomy d n rows                       an echelon of so many rows has room for n rows of d places and n coordinates
--   covers d n stride s                  s words have n rows of d places that begin stride words apart
--   fits d n stride s rows               both
--   lends d n rows pivots work           so many rows and pivots that are lent, and so many words of a row to work in, have room for n rows of d places and n coordinates
--   takes d n stride s rows pivots work  they have, and s words have n rows of d places that begin stride words apart
--   below d n pivots                     the first n pivots are places below d, as a test
--   Below d n pivots                     so they are
--   solvable d n rows pivots             there is room, and the pivots are places
--   solves d n rows pivots work          what is lent has room, and the pivots are places
--   Reduced m table pivots n x w row     the first w words of the row are what the first n rows of the table leave of the words x
--   FirstNonzero m n row a               a is the first of n places of the row whose word is not zero, and none where all are zero
--   Stepped .. a                         what taking one more vector answers
--   Eliminated m laws d n v .. a         what the elimination of v 0 .. v (n - 1) answers
--   Solved m laws d n v b out a          what the solver answers for the words b over v 0 .. v (n - 1)
-- Used by: the contracts of the elimination.
use Rattle.std.specs.Prelude.{◌≡◌, ℕ, zero, suc, ◌+◌, ◌-◌, ◌*◌, ◌<◌, Bool, true, ◌&&◌, T, ◌≢◌, List, [], length, MatchOption, Ok, Err, Option, Result, nat_le, nat_lt, slice_index, slice_index_or}
use Rattle.field.specs.Meaning.{FieldMeaning, FieldLaws}
use Rattle.algebra.specs.Vector.{Least, Combines, Independent}
use Rattle.algebra.specs.Elements.{Elem, Elems, field_of, read}
use Rattle.linear.specs.Echelon.{reduced, Depends, Echelon, Taken}
use Rattle.linear.specs.declared.elimination.EliminateFault.{EliminateFault}
use Rattle.linear.specs.declared.elimination.EliminateFault.TheVariants.{NoRoom, Depends as First}
use Rattle.linear.specs.declared.elimination.SolveFault.{SolveFault}
use Rattle.linear.specs.declared.elimination.SolveFault.TheVariants.{NoRoom as Unasked, Outside}

abbrev pub pitch : ℕ
pitch = 96

abbrev pub roomy : ℕ → ℕ → ℕ → Bool
roomy d n rows = nat_le d pitch && nat_le n (pitch - d) && nat_le n rows

abbrev pub covers : ℕ → ℕ → ℕ → ℕ → Bool
covers d n stride s = nat_le stride pitch && nat_le (n * stride - stride + d) s

abbrev pub fits : ℕ → ℕ → ℕ → ℕ → ℕ → Bool
fits d n stride s rows = roomy d n rows && covers d n stride s

abbrev pub lends : ℕ → ℕ → ℕ → ℕ → ℕ → Bool
lends d n rows pivots work = nat_le work pitch && nat_le d work && nat_le n (work - d) && nat_le n pivots && nat_le n rows

abbrev pub takes : ℕ → ℕ → ℕ → ℕ → ℕ → ℕ → ℕ → Bool
takes d n stride s rows pivots work = lends d n rows pivots work && covers d n stride s

abbrev pub below : ℕ → ℕ → List ℕ → Bool
below d zero pivots = true
below d (suc n) pivots = below d n pivots && nat_lt (slice_index pivots n) d

abbrev pub Below : ℕ → ℕ → List ℕ → Type 0
Below d n pivots = (i : ℕ) → i < n → slice_index pivots i < d

abbrev pub solvable : ℕ → ℕ → ℕ → List ℕ → Bool
solvable d n rows pivots = roomy d n rows && below d n pivots

abbrev pub solves : ℕ → ℕ → ℕ → List ℕ → ℕ → Bool
solves d n rows pivots work = lends d n rows (length pivots) work && below d n pivots

abbrev pub Wide : ℕ → List (List ℕ) → Type 0
Wide n table = (i : ℕ) → i < n → length (slice_index_or table i []) ≡ pitch

module _ (m : FieldMeaning) where
  abbrev pub Reduced : List (List ℕ) → List ℕ → ℕ → (ℕ → ℕ) → ℕ → List ℕ → Type 0
  Reduced table pivots n x w row = (k : ℕ) → k < w → slice_index row k ≡ reduced m.add m.mul m.neg (λ i j. slice_index (slice_index_or table i []) j) (λ i. slice_index pivots i) x n k

  abbrev pub FirstNonzero : ℕ → List ℕ → Option ℕ → Type 0
  FirstNonzero n row a = MatchOption a ((k : ℕ) → k < n → slice_index row k ≡ m.zero) (λ p. (p < n) × (slice_index row p ≢ m.zero) × ((k : ℕ) → k < p → slice_index row k ≡ m.zero))

module _ (m : FieldMeaning) (laws : FieldLaws m) where
  abbrev pub rows : ℕ → List ℕ → ℕ → ℕ → Elem m
  rows stride xs l k = read m laws xs (l * stride + k)

  abbrev pub held : List (List ℕ) → ℕ → ℕ → Elem m
  held table l k = read m laws (slice_index_or table l []) k

  pub record Table (d n : ℕ) (v : ℕ → ℕ → Elem m) (table : List (List ℕ)) (pivots : List ℕ) : Type 0 where
    pub independent : Independent (field_of m laws) d n v
    pub elements : (i k : ℕ) → i < n → k < d + n → T (m.elem (slice_index (slice_index_or table i []) k))
    pub echelon : Echelon (field_of m laws) d n v (held table) (λ i. slice_index pivots i)

  pub record Growing (d N n : ℕ) (v : ℕ → ℕ → Elem m) (table : List (List ℕ)) (pivots : List ℕ) : Type 0 where
    pub elements : (i k : ℕ) → i < n → k < d + N → T (m.elem (slice_index (slice_index_or table i []) k))
    pub taken : Taken (field_of m laws) d N n v (held table) (λ i. slice_index pivots i)

  pub record Relation (d n : ℕ) (v : ℕ → ℕ → Elem m) (row : List ℕ) : Type 0 where
    pub elements : (l : ℕ) → l < n → T (m.elem (slice_index row (d + l)))
    pub combines : Combines (field_of m laws) d n (λ l. (field_of m laws).neg (read m laws row (d + l))) v (v n)

  abbrev pub Stepped : {A : Type 0} → ℕ → ℕ → ℕ → (ℕ → ℕ → Elem m) → List (List ℕ) → List ℕ → List ℕ → Result A EliminateFault → Type 0
  Stepped d N n v table pivots row (Ok _) = Growing d N (n + 1) v table pivots
  Stepped d N n v table pivots row (Err (First j)) = (j ≡ n) × Growing d N n v table pivots × Relation d n v row
  Stepped d N n v table pivots row (Err NoRoom) = ⊥

  abbrev pub Eliminated : {A : Type 0} → ℕ → ℕ → (ℕ → ℕ → Elem m) → List (List ℕ) → List ℕ → List ℕ → Result A EliminateFault → Type 0
  Eliminated d n v table pivots row (Ok _) = ((i : ℕ) → i < n → Depends (field_of m laws) d v i → ⊥) × Table d n v table pivots
  Eliminated d n v table pivots row (Err (First j)) = (j < n) × Least (Depends (field_of m laws) d v) j × Table d j v table pivots × Relation d j v row
  Eliminated d n v table pivots row (Err NoRoom) = ⊥

  abbrev pub Solved : {A : Type 0} → ℕ → ℕ → (ℕ → ℕ → Elem m) → List ℕ → List ℕ → Result A SolveFault → Type 0
  Solved d n v b out (Ok _) = Elems m out × Combines (field_of m laws) d n (read m laws out) v (read m laws b)
  Solved d n v b out (Err Outside) = (n ≢ d) × ((c : ℕ → Elem m) → Combines (field_of m laws) d n c v (read m laws b) → ⊥)
  Solved d n v b out (Err Unasked) = ⊥
