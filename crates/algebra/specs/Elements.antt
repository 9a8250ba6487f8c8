-- The elements of a field of words, as a carrier of their own: the one bridge from words to mathematics.
--   Elem m            a word of the field m, with the fact that it is an element
--   elem_path m       two elements with one word are equal
--   field_of m laws   the field of the elements
--   el m laws w       the element that the word w stands for, zero if it stands for none
--   Elems m xs        every word of the list is an element
--   read m laws xs k  the element of the word at place k of a list, zero past its end
-- Used by: every theorem about a field of the trait, at the carrier Elem.
use Rattle.std.specs.Prelude.{◌≡◌, ℕ, zero, suc, ◌<◌, Bool, true, false, T, ◌≢◌, List, [], ◌∷◌, length, slice_index}
use Rattle.std.proofs.Common.{ap}
use mathlib.Core.HLevel.{Σ_prop_path, Σ_prop_discrete}
use Rattle.std.proofs.Math.Decide.{ℕ_discrete}
use Rattle.std.proofs.Math.Dec.{T_prop}
use Rattle.field.specs.Meaning.{FieldMeaning, FieldLaws}
use Rattle.algebra.specs.Field.{Field}

abbrev pub Elem : FieldMeaning → Type 0
Elem m = (w : ℕ) × T (m.elem w)

pub elem_path : (m : FieldMeaning) {x y : Elem m} → x.0 ≡ y.0 → x ≡ y
elem_path m = Σ_prop_path (λ w. T_prop (m.elem w))

abbrev pub Elems : FieldMeaning → List ℕ → Type 0
Elems m xs = (k : ℕ) → k < length xs → T (m.elem (slice_index xs k))

module _ (m : FieldMeaning) (laws : FieldLaws m) where
  unfoldable pub inverse_by : (x : Elem m) → Dec (x.0 ≡ m.zero) → Elem m
  inverse_by x (yes e) = x
  inverse_by x (no d) = let y = laws.inverse x.0 x.1 d in (y.0, y.2)

  pub inverse_is : (x : Elem m) (y : Dec (x.0 ≡ m.zero)) → x.0 ≢ m.zero → m.mul x.0 (inverse_by x y).0 ≡ m.one
  unfolding inverse_by
  inverse_is x (yes e) d = absurd (d e)
  inverse_is x (no e) d = (laws.inverse x.0 x.1 e).3

  abbrev pub field_of : Field (Elem m)
  field_of = record {
    zer = (m.zero, laws.zero_in);
    one = (m.one, laws.one_in);
    ◌⊕◌ = λ x y. (m.add x.0 y.0, laws.add_in x.0 y.0 x.1 y.1);
    ◌⊗◌ = λ x y. (m.mul x.0 y.0, laws.mul_in x.0 y.0 x.1 y.1);
    neg = λ x. (m.neg x.0, laws.neg_in x.0 x.1);
    inv = λ x. inverse_by x (ℕ_discrete x.0 m.zero);
    add_assoc = λ a b c. elem_path m (laws.add_assoc a.0 b.0 c.0 a.1 b.1 c.1);
    add_comm = λ a b. elem_path m (laws.add_comm a.0 b.0 a.1 b.1);
    add_zero = λ a. elem_path m (laws.add_zero a.0 a.1);
    add_neg = λ a. elem_path m (laws.add_neg a.0 a.1);
    mul_assoc = λ a b c. elem_path m (laws.mul_assoc a.0 b.0 c.0 a.1 b.1 c.1);
    mul_comm = λ a b. elem_path m (laws.mul_comm a.0 b.0 a.1 b.1);
    mul_one = λ a. elem_path m (laws.mul_one a.0 a.1);
    distrib = λ a b c. elem_path m (laws.mul_add a.0 b.0 c.0 a.1 b.1 c.1);
    mul_inv = λ a h. elem_path m (inverse_is a (ℕ_discrete a.0 m.zero) (λ e. h (elem_path m e)));
    one_ne = λ e. laws.one_ne_zero (ap (λ (x : Elem m). x.0) e);
    same = Σ_prop_discrete (λ w. T_prop (m.elem w)) ℕ_discrete;
  }

  unfoldable pub el_by : (w : ℕ) (b : Bool) → (T b → T (m.elem w)) → Elem m
  el_by w true f = (w, f tt)
  el_by w false f = (m.zero, laws.zero_in)

  unfoldable pub el : ℕ → Elem m
  el w = el_by w (m.elem w) (λ t. t)

  abbrev pub read : List ℕ → ℕ → Elem m
  read [] k = field_of.zer
  read (x ∷ xs) zero = el x
  read (x ∷ xs) (suc k) = read xs k
