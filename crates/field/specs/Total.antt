-- From a field's laws on its elements to the same laws of the operations made total.
use Rattle.std.specs.Prelude.{◌≡◌, ℕ, Bool, true, false, cond, not, ◌&&◌, T, ◌≢◌, None, ◌==◌, refl}
use Rattle.std.proofs.Common.{sym, ap, ap₂, ◌∙◌, eqb→eq}
use Rattle.std.proofs.Math.Path.{subst⁻¹}
use Rattle.std.proofs.Math.Dec.{eqb_refl}
use Rattle.field.specs.Meaning.{FieldMeaning, FieldLaws, FieldTotal, total, OneInverse}

-- ---- the two ways of a test

pub cond_yes : {A : Type 0} (x : Bool) (u v : A) → T x → cond x u v ≡ u
cond_yes true u v t = refl
cond_yes false u v t = absurd t

pub cond_no : {A : Type 0} (x : Bool) (u v : A) → x ≡ false → cond x u v ≡ v
cond_no x u v e = ap (λ (t : Bool). cond t u v) e

pub both : (x y : Bool) → T x → T y → T (x && y)
both true y s t = t
both false y s t = absurd s

differs : (a b : ℕ) (x : Bool) → (a == b) ≡ x → a ≢ b → T (not x)
differs a b true e d = absurd (d (eqb→eq a b (subst⁻¹ T e tt)))
differs a b false e d = tt

pub not_equal : (a b : ℕ) → a ≢ b → T (not (a == b))
not_equal a b d = differs a b (a == b) refl d

never_both : (x y : Bool) → T y → (x && not y) ≡ false
never_both true true t = refl
never_both false y t = refl
never_both true false t = absurd t

-- ---- the laws

module _ (m : FieldMeaning) (l : FieldLaws m) where
  abbrev In : ℕ → Type 0
  In a = T (m.elem a)

  pub add= : (a b : ℕ) → In a → In b → (total m).add a b ≡ m.add a b
  add= a b ha hb = cond_yes (m.elem a && m.elem b) (m.add a b) m.zero (both _ _ ha hb)

  pub mul= : (a b : ℕ) → In a → In b → (total m).mul a b ≡ m.mul a b
  mul= a b ha hb = cond_yes (m.elem a && m.elem b) (m.mul a b) m.zero (both _ _ ha hb)

  pub neg= : (a : ℕ) → In a → (total m).neg a ≡ m.neg a
  neg= a ha = cond_yes (m.elem a) (m.neg a) m.zero ha

  pub inv= : (a : ℕ) → In a → a ≢ m.zero → (total m).inv a ≡ m.inv a
  inv= a ha d = cond_yes (m.elem a && not (a == m.zero)) (m.inv a) None (both _ _ ha (not_equal a m.zero d))

  pub total_laws : FieldLaws (total m)
  total_laws = record {
    zero_in = l.zero_in;
    one_in = l.one_in;
    add_in = λ a b ha hb. subst⁻¹ In (add= a b ha hb) (l.add_in a b ha hb);
    mul_in = λ a b ha hb. subst⁻¹ In (mul= a b ha hb) (l.mul_in a b ha hb);
    neg_in = λ a ha. subst⁻¹ In (neg= a ha) (l.neg_in a ha);
    add_comm = λ a b ha hb. add= a b ha hb ∙ l.add_comm a b ha hb ∙ sym (add= b a hb ha);
    add_assoc = λ a b c ha hb hc.
        ap (λ (x : ℕ). (total m).add x c) (add= a b ha hb) ∙ add= (m.add a b) c (l.add_in a b ha hb) hc ∙ l.add_assoc a b c ha hb hc
        ∙ sym (ap ((total m).add a) (add= b c hb hc) ∙ add= a (m.add b c) ha (l.add_in b c hb hc));
    add_zero = λ a ha. add= a m.zero ha l.zero_in ∙ l.add_zero a ha;
    add_neg = λ a ha. ap ((total m).add a) (neg= a ha) ∙ add= a (m.neg a) ha (l.neg_in a ha) ∙ l.add_neg a ha;
    mul_comm = λ a b ha hb. mul= a b ha hb ∙ l.mul_comm a b ha hb ∙ sym (mul= b a hb ha);
    mul_assoc = λ a b c ha hb hc.
        ap (λ (x : ℕ). (total m).mul x c) (mul= a b ha hb) ∙ mul= (m.mul a b) c (l.mul_in a b ha hb) hc ∙ l.mul_assoc a b c ha hb hc
        ∙ sym (ap ((total m).mul a) (mul= b c hb hc) ∙ mul= a (m.mul b c) ha (l.mul_in b c hb hc));
    mul_one = λ a ha. mul= a m.one ha l.one_in ∙ l.mul_one a ha;
    mul_add = λ a b c ha hb hc.
        ap ((total m).mul a) (add= b c hb hc) ∙ mul= a (m.add b c) ha (l.add_in b c hb hc) ∙ l.mul_add a b c ha hb hc
        ∙ sym (ap₂ (total m).add (mul= a b ha hb) (mul= a c ha hc) ∙ add= (m.mul a b) (m.mul a c) (l.mul_in a b ha hb) (l.mul_in a c ha hc));
    one_ne_zero = l.one_ne_zero;
    inverse = λ a ha d. let i = l.inverse a ha d in (i.0, inv= a ha d ∙ i.1, i.2, mul= a i.0 ha i.2 ∙ i.3);
  }

pub total_everywhere : (m : FieldMeaning) → FieldTotal (total m)
total_everywhere m = record {
  add_out = λ a b e. cond_no (m.elem a && m.elem b) _ _ e;
  mul_out = λ a b e. cond_no (m.elem a && m.elem b) _ _ e;
  neg_out = λ a e. cond_no (m.elem a) _ _ e;
  inv_out = λ a e. cond_no (m.elem a && not (a == m.zero)) (m.inv a) None (ap (λ (x : Bool). x && not (a == m.zero)) e);
  inv_zero = cond_no (m.elem m.zero && not (m.zero == m.zero)) (m.inv m.zero) None (never_both _ _ (eqb_refl m.zero));
}

-- b = b (a c) = (b a) c = c
pub one_inverse : OneInverse
one_inverse m l a b c ha hb hc p q =
    sym (l.mul_one b hb) ∙ ap (m.mul b) (sym q) ∙ sym (l.mul_assoc b a c hb ha hc)
    ∙ ap (λ (x : ℕ). m.mul x c) (l.mul_comm b a hb ha ∙ p) ∙ l.mul_comm m.one c l.one_in hc ∙ l.mul_one c hc
