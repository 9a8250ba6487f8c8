-- What the loop of Berlekamp and Massey keeps, word after word.
--   shift k f                  x^k times the power series f
--   corrected C d B k b        C - (d / b) x^k B: the polynomial that takes the discrepancy d of C away by that of B
--   Loop s C l N B h k b       C, of length l, is a shortest one for s 0 .. s (N - 1), and B, of length h, failed k places before by b
--   HeldBy m laws s c b l n k w  this holds of lists of words: c and b are elements, and so is w, by which b failed
--   Held m s c b l n k w          so it does under every proof of the laws
-- Used by: the loop and its turns. What it ends with is in Recurrence.
use Rattle.std.specs.Prelude.{◌≡◌, ℕ, zero, suc, ◌+◌, ◌-◌, ◌<◌, ◌≤◌, T, ◌≢◌, List}
use Rattle.field.specs.Meaning.{FieldMeaning, FieldLaws}
use Rattle.algebra.specs.Field.{Field}
use Rattle.algebra.specs.Elements.{Elems, field_of, el, read}
use Rattle.linear.specs.Recurrence.{conv, Gen}

module _ {K : Type 0} (F : Field K) where
  open F use {zer, ◌⊕◌, ◌⊗◌, neg, inv}

  infixl 65 ◌⊕◌
  infixl 70 ◌⊗◌
  abbrev pub shift : ℕ → (ℕ → K) → ℕ → K
  shift zero f i = f i
  shift (suc k) f zero = zer
  shift (suc k) f (suc i) = shift k f i

  abbrev pub corrected : (ℕ → K) → K → (ℕ → K) → ℕ → K → ℕ → K
  corrected C d B k b i = C i ⊕ neg (d ⊗ inv b) ⊗ shift k B i

  pub record Loop (s C : ℕ → K) (l N : ℕ) (B : ℕ → K) (h k : ℕ) (b : K) : Type 0 where
    pub gen : Gen F s C l N
    pub least : (E : ℕ → K) (t : ℕ) → Gen F s E t N → l ≤ t
    pub size : l ≤ N
    pub sizes : k + h + l ≡ suc N
    pub ahead : 0 < k
    pub deg_B : (i : ℕ) → h < i → B i ≡ zer
    pub unit : b ≢ zer
    pub old : 0 < l → (j : ℕ) → h ≤ j → j + k < N → conv F B s j ≡ zer
    pub fails : 0 < l → (j : ℕ) → j + k ≡ N → conv F B s j ≡ b

pub record HeldBy (m : FieldMeaning) (laws : FieldLaws m) (s c b : List ℕ) (l n k w : ℕ) : Type 0 where
  pub elems_c : Elems m c
  pub elems_b : Elems m b
  pub elem_w : T (m.elem w)
  pub kept : Loop (field_of m laws) (read m laws s) (read m laws c) l n (read m laws b) (suc n - (l + k)) k (el m laws w)

abbrev pub Held : FieldMeaning → List ℕ → List ℕ → List ℕ → ℕ → ℕ → ℕ → ℕ → Type 0
Held m s c b l n k w = (laws : FieldLaws m) → HeldBy m laws s c b l n k w
