-- The laws of the field and the order that the first line names: they hold, and the laws of a field have one proof.
use Rattle.std.proofs.Common.{◌≡◌, ℕ, Bool, true, false, cond, T, [], Some, None, Option, ◌==◌, sym, refl, ap, ◌∙◌, subst, arith}
use mathlib.Core.HLevel.{hedberg, is_prop→PathP, ¬_prop}
use native.Mathlib.Nat.{ℕ_set}
use native.Mathlib.Decide.{ℕ_discrete}
use Rattle.std.proofs.Math.Dec.{T_prop}
use Rattle.field.specs.Meaning.{FieldMeaning, FieldLaws, total}
use Rattle.field.specs.Bytes.{bytes}
use Rattle.field.specs.Residues.{residues}
use Rattle.field.specs.ByteLaws.{byte_laws}
use Rattle.field.specs.ResidueLaws.{residue_laws}
use Rattle.order.specs.declared.rearrangement.Rearrangement.{Rearrangement}
use Rattle.order.specs.Laws.{Comparison, OrderLaws}
use Rattle.order.specs.Orders.{drl, lex}
use Rattle.order.specs.OrderLaws.{drl_laws, lex_laws}
use Rattle.order.specs.Renumberings.{renumbers}
use Rattle.order.specs.Rearrangements.{reversal}
use Rattle.order.specs.Moves.{renumbered_laws, reverses}
use Rattle.runs.specs.Question.{AllYes}
use Rattle.shaping.specs.Questions.{field_by, reversed, order_by, residue_asks, field_asks}

-- numbers that may be missing are a set

option_known : (x y : Option ℕ) → Dec (x ≡ y)
option_known None None = yes refl
option_known None (Some b) = no (λ e. let z : ◌≡◌ {A = ℕ} 0 1 = ap (λ (o : Option ℕ). elim o [ Some x ↦ 1 | None ↦ 0 ]) e in omega arith)
option_known (Some a) None = no (λ e. let z : ◌≡◌ {A = ℕ} 1 0 = ap (λ (o : Option ℕ). elim o [ Some x ↦ 1 | None ↦ 0 ]) e in omega arith)
option_known (Some a) (Some b) = go (ℕ_discrete a b)
  where
    go : Dec (a ≡ b) → Dec (Some a ≡ Some b)
    go (yes e) = yes (ap (λ (x : ℕ). Some x) e)
    go (no d) = no (λ e. d (ap (λ (o : Option ℕ). elim o [ Some x ↦ x | None ↦ a ]) e))

-- the laws of a field have one proof

module _ (m : FieldMeaning) where
  abbrev Inverse : ℕ → Type 0
  Inverse x = (b : ℕ) × (m.inv x ≡ Some b) × T (m.elem b) × (m.mul x b ≡ m.one)

  inverse_once : (x : ℕ) (u v : Inverse x) → u ≡ v
  inverse_once x u v = λ i. (
    p i,
    is_prop→PathP (λ i. m.inv x ≡ Some (p i)) (λ i. hedberg option_known _ _) u.1 v.1 i,
    is_prop→PathP (λ i. T (m.elem (p i))) (λ i. T_prop _) u.2 v.2 i,
    is_prop→PathP (λ i. m.mul x (p i) ≡ m.one) (λ i. ℕ_set _ _) u.3 v.3 i,
  )
    where
      p : u.0 ≡ v.0
      p = ap (λ (o : Option ℕ). elim o [ Some x ↦ x | None ↦ u.0 ]) (sym u.1 ∙ v.1)

  pub laws_once : (a b : FieldLaws m) → a ≡ b
  laws_once a b = λ i. record {
    zero_in = T_prop _ a.zero_in b.zero_in i;
    one_in = T_prop _ a.one_in b.one_in i;
    add_in = λ x y p q. T_prop _ (a.add_in x y p q) (b.add_in x y p q) i;
    mul_in = λ x y p q. T_prop _ (a.mul_in x y p q) (b.mul_in x y p q) i;
    neg_in = λ x p. T_prop _ (a.neg_in x p) (b.neg_in x p) i;
    add_comm = λ x y p q. ℕ_set _ _ (a.add_comm x y p q) (b.add_comm x y p q) i;
    add_assoc = λ x y z p q r. ℕ_set _ _ (a.add_assoc x y z p q r) (b.add_assoc x y z p q r) i;
    add_zero = λ x p. ℕ_set _ _ (a.add_zero x p) (b.add_zero x p) i;
    add_neg = λ x p. ℕ_set _ _ (a.add_neg x p) (b.add_neg x p) i;
    mul_comm = λ x y p q. ℕ_set _ _ (a.mul_comm x y p q) (b.mul_comm x y p q) i;
    mul_assoc = λ x y z p q r. ℕ_set _ _ (a.mul_assoc x y z p q r) (b.mul_assoc x y z p q r) i;
    mul_one = λ x p. ℕ_set _ _ (a.mul_one x p) (b.mul_one x p) i;
    mul_add = λ x y z p q r. ℕ_set _ _ (a.mul_add x y z p q r) (b.mul_add x y z p q r) i;
    one_ne_zero = ¬_prop a.one_ne_zero b.one_ne_zero i;
    inverse = λ x p d. inverse_once x (a.inverse x p d) (b.inverse x p d) i;
  }

-- a field that passed its questions has the laws

pub field_laws : (c : ℕ) → AllYes (field_asks c) → FieldLaws (field_by c)
field_laws c = go (c == 0)
  where
    go : (b : Bool) → AllYes (cond b [] (residue_asks c)) → FieldLaws (cond b (total bytes) (total (residues c)))
    go true y = byte_laws
    go false y = residue_laws c y.1.0

-- an order of the four, the variables reversed or not, has the laws

reversed_laws : (cmp : Comparison) (n : ℕ) → OrderLaws cmp → OrderLaws (reversed cmp n)
reversed_laws cmp n O = go (reversal n) refl
  where
    go : (r : Option Rearrangement) → reversal n ≡ r → OrderLaws (elim r [ Some s ↦ renumbers cmp s | None ↦ cmp ])
    go (Some s) e = renumbered_laws s (subst T (sym (reverses n s e)) tt) cmp O
    go None e = O

pub order_laws : (o n : ℕ) → OrderLaws (order_by o n)
order_laws o n = go (o == 1) (o == 2) (o == 3)
  where
    go : (a b c : Bool) → OrderLaws (cond a drl (cond b lex (cond c (reversed drl n) (reversed lex n))))
    go true b c = drl_laws
    go false true c = lex_laws
    go false false true = reversed_laws drl n drl_laws
    go false false false = reversed_laws lex n lex_laws
