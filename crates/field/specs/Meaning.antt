-- What a field is, over the words that stand for its elements.
--   FieldMeaning          which words are elements, the words of zero and one, and the sum, product, opposite and inverse of words
--   FieldLaws m           the laws of a field, each for all elements
--   FieldTotal m          what the operations answer where a word is no element: zero, and no inverse
--   total m               the operations of m on elements, carried to all words as FieldTotal asks
--   nonzero_element m w   w is an element other than zero
--   OneInverse            an element has one inverse
-- Used by: the trait Field, and whatever is proved for every field.
use Rattle.std.specs.Prelude.{◌≡◌, ℕ, Bool, false, cond, not, ◌&&◌, T, ◌≢◌, Some, None, Option, ◌==◌}

pub record FieldMeaning : Type 0 where
  pub elem : ℕ → Bool
  pub zero : ℕ
  pub one : ℕ
  pub add : ℕ → ℕ → ℕ
  pub mul : ℕ → ℕ → ℕ
  pub neg : ℕ → ℕ
  pub inv : ℕ → Option ℕ

pub record FieldLaws (m : FieldMeaning) : Type 0 where
  pub zero_in : T (m.elem m.zero)
  pub one_in : T (m.elem m.one)
  pub add_in : (a b : ℕ) → T (m.elem a) → T (m.elem b) → T (m.elem (m.add a b))
  pub mul_in : (a b : ℕ) → T (m.elem a) → T (m.elem b) → T (m.elem (m.mul a b))
  pub neg_in : (a : ℕ) → T (m.elem a) → T (m.elem (m.neg a))
  pub add_comm : (a b : ℕ) → T (m.elem a) → T (m.elem b) → m.add a b ≡ m.add b a
  pub add_assoc : (a b c : ℕ) → T (m.elem a) → T (m.elem b) → T (m.elem c) → m.add (m.add a b) c ≡ m.add a (m.add b c)
  pub add_zero : (a : ℕ) → T (m.elem a) → m.add a m.zero ≡ a
  pub add_neg : (a : ℕ) → T (m.elem a) → m.add a (m.neg a) ≡ m.zero
  pub mul_comm : (a b : ℕ) → T (m.elem a) → T (m.elem b) → m.mul a b ≡ m.mul b a
  pub mul_assoc : (a b c : ℕ) → T (m.elem a) → T (m.elem b) → T (m.elem c) → m.mul (m.mul a b) c ≡ m.mul a (m.mul b c)
  pub mul_one : (a : ℕ) → T (m.elem a) → m.mul a m.one ≡ a
  pub mul_add : (a b c : ℕ) → T (m.elem a) → T (m.elem b) → T (m.elem c) → m.mul a (m.add b c) ≡ m.add (m.mul a b) (m.mul a c)
  pub one_ne_zero : m.one ≢ m.zero
  pub inverse : (a : ℕ) → T (m.elem a) → a ≢ m.zero → (b : ℕ) × (m.inv a ≡ Some b) × T (m.elem b) × (m.mul a b ≡ m.one)

pub record FieldTotal (m : FieldMeaning) : Type 0 where
  pub add_out : (a b : ℕ) → (m.elem a && m.elem b) ≡ false → m.add a b ≡ m.zero
  pub mul_out : (a b : ℕ) → (m.elem a && m.elem b) ≡ false → m.mul a b ≡ m.zero
  pub neg_out : (a : ℕ) → m.elem a ≡ false → m.neg a ≡ m.zero
  pub inv_out : (a : ℕ) → m.elem a ≡ false → m.inv a ≡ None
  pub inv_zero : m.inv m.zero ≡ None

abbrev pub total : FieldMeaning → FieldMeaning
total m = record {
  elem = m.elem;
  zero = m.zero;
  one = m.one;
  add = λ a b. cond (m.elem a && m.elem b) (m.add a b) m.zero;
  mul = λ a b. cond (m.elem a && m.elem b) (m.mul a b) m.zero;
  neg = λ a. cond (m.elem a) (m.neg a) m.zero;
  inv = λ a. cond (m.elem a && not (a == m.zero)) (m.inv a) None;
}

abbrev pub nonzero_element : FieldMeaning → ℕ → Bool
nonzero_element m w = m.elem w && not (w == m.zero)

abbrev pub OneInverse : Type 0
OneInverse = (m : FieldMeaning) → FieldLaws m → (a b c : ℕ) → T (m.elem a) → T (m.elem b) → T (m.elem c) → m.mul a b ≡ m.one → m.mul a c ≡ m.one → b ≡ c
