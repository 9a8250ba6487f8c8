-- A field as mathematics has it: any carrier, total operations, laws without premises, and equality that can be decided.
--   Field K    the operations and laws on the carrier K
-- Used by: every definition and theorem below and in the crates above. Elements makes one of the words of a lawful field.
use Rattle.std.specs.Prelude.{◌≡◌, ◌≢◌}

pub record Field (K : Type 0) : Type 0 where
  pub zer : K
  pub one : K
  pub ◌⊕◌ : K → K → K
  pub ◌⊗◌ : K → K → K
  pub neg : K → K
  pub inv : K → K
  pub add_assoc : (a b c : K) → ◌⊕◌ (◌⊕◌ a b) c ≡ ◌⊕◌ a (◌⊕◌ b c)
  pub add_comm : (a b : K) → ◌⊕◌ a b ≡ ◌⊕◌ b a
  pub add_zero : (a : K) → ◌⊕◌ a zer ≡ a
  pub add_neg : (a : K) → ◌⊕◌ a (neg a) ≡ zer
  pub mul_assoc : (a b c : K) → ◌⊗◌ (◌⊗◌ a b) c ≡ ◌⊗◌ a (◌⊗◌ b c)
  pub mul_comm : (a b : K) → ◌⊗◌ a b ≡ ◌⊗◌ b a
  pub mul_one : (a : K) → ◌⊗◌ a one ≡ a
  pub distrib : (a b c : K) → ◌⊗◌ a (◌⊕◌ b c) ≡ ◌⊕◌ (◌⊗◌ a b) (◌⊗◌ a c)
  pub mul_inv : (a : K) → a ≢ zer → ◌⊗◌ a (inv a) ≡ one
  pub one_ne : one ≢ zer
  pub same : (a b : K) → Dec (a ≡ b)
