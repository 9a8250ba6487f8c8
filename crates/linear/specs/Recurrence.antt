-- Linear recurrences of finite sequences.
--   Recurs s N l        some fixed combination of any l successive words of s 0 .. s (N - 1) gives the next
--   conv f g n          the coefficient at n of the product of the power series f and g
--   Gen s C l N         C is a connection polynomial of length l of s 0 .. s (N - 1): C 0 is one, its degree is at most l, and conv C s is zero from l to N - 1
--   MasseyBound        where C of length l generates s 0 .. s (N - 1) and fails at s N, what generates s 0 .. s N has a length of at least N + 1 - l
--   RecursByGen       a sequence has a recurrence of length l exactly where it has a connection polynomial of that length
--   MonicFromGen      the coefficients of a connection polynomial, read backwards, are those of a monic recurrence
--   FirstWords         only s 0 .. s (N - 1) decide what recurrences and connection polynomials s 0 .. s (N - 1) have
--   Room s c b spare    each of the three lists is longer than s
--   ShortestBy m laws s c l  l is the least length of a recurrence of the elements that the words s stand for, and c holds a connection polynomial of that length
--   Shortest m s c l    so it is under every proof of the laws
-- Used by: the least recurrence length of words, and tables.
use Rattle.std.specs.Prelude.{◌≡◌, ℕ, zero, suc, ◌+◌, ◌-◌, ◌<◌, ◌≤◌, ◌≢◌, ◌↔◌, List, length}
use Rattle.field.specs.Meaning.{FieldMeaning, FieldLaws}
use Rattle.algebra.specs.Field.{Field}
use Rattle.algebra.specs.Vector.{sum, Least}
use Rattle.algebra.specs.Elements.{Elem, Elems, field_of, read}

module _ {K : Type 0} (F : Field K) where
  open F use {zer, one, ◌⊕◌, ◌⊗◌}

  infixl 65 ◌⊕◌
  infixl 70 ◌⊗◌
  abbrev pub Recurs : (ℕ → K) → ℕ → ℕ → Type 0
  Recurs s N l = (c : ℕ → K) × ((j : ℕ) → j + l < N → s (j + l) ≡ sum F l (λ i. c i ⊗ s (j + i)))

  abbrev pub conv : (ℕ → K) → (ℕ → K) → ℕ → K
  conv f g zero = f 0 ⊗ g 0
  conv f g (suc n) = f 0 ⊗ g (suc n) ⊕ conv (λ i. f (suc i)) g n

  pub record Gen (s C : ℕ → K) (l N : ℕ) : Type 0 where
    pub lead : C 0 ≡ one
    pub deg : (i : ℕ) → l < i → C i ≡ zer
    pub ann : (j : ℕ) → l ≤ j → j < N → conv C s j ≡ zer

abbrev pub MasseyBound : Type 0
MasseyBound = (m : FieldMeaning) (laws : FieldLaws m) (s C E : ℕ → Elem m) (l k N : ℕ) → Gen (field_of m laws) s C l N → conv (field_of m laws) C s N ≢ (field_of m laws).zer → Gen (field_of m laws) s E k (suc N) → suc N - l ≤ k

abbrev pub RecursByGen : Type 0
RecursByGen = (m : FieldMeaning) (laws : FieldLaws m) (s : ℕ → Elem m) (l N : ℕ) → Recurs (field_of m laws) s N l ↔ ((C : ℕ → Elem m) × Gen (field_of m laws) s C l N)

abbrev pub MonicFromGen : Type 0
MonicFromGen = (m : FieldMeaning) (laws : FieldLaws m) (s C : ℕ → Elem m) (l N : ℕ) → Gen (field_of m laws) s C l N → (j : ℕ) → j + l < N → (field_of m laws).◌⊕◌ (sum (field_of m laws) l (λ i. (field_of m laws).◌⊗◌ (C (l - i)) (s (i + j)))) (s (l + j)) ≡ (field_of m laws).zer

abbrev pub FirstWords : Type 0
FirstWords = (m : FieldMeaning) (laws : FieldLaws m) (s t C : ℕ → Elem m) (l N : ℕ) → ((j : ℕ) → j < N → s j ≡ t j) → (Recurs (field_of m laws) s N l ↔ Recurs (field_of m laws) t N l) × (Gen (field_of m laws) s C l N ↔ Gen (field_of m laws) t C l N)

pub record Room (s c b spare : List ℕ) : Type 0 where
  pub polynomial : length s < length c
  pub previous : length s < length b
  pub copy : length s < length spare

pub record ShortestBy (m : FieldMeaning) (laws : FieldLaws m) (s c : List ℕ) (l : ℕ) : Type 0 where
  pub least : Least (Recurs (field_of m laws) (read m laws s) (length s)) l
  pub connection : Gen (field_of m laws) (read m laws s) (read m laws c) l (length s)
  pub elements : Elems m c
  pub within : l ≤ length s

abbrev pub Shortest : FieldMeaning → List ℕ → List ℕ → ℕ → Type 0
Shortest m s c l = (laws : FieldLaws m) → ShortestBy m laws s c l
