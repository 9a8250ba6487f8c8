-- The laws of the residues modulo a listed prime.
use Rattle.std.specs.Prelude.{◌≡◌, ℕ, zero, suc, ◌+◌, ◌-◌, ◌*◌, ◌%◌, ◌<◌, ◌≤◌, Bool, true, false, cond, T, ◌≢◌, Some, None, Option, ◌==◌, nat_lt, refl}
use Rattle.std.proofs.Common.{sym, ap, ◌∙◌, subst, ⊎_elim, pos_of_ne-zero, mod-lt, mod-eq_of_lt, add_comm, mul_comm, arith, ltb→lt, lt→ltb}
use Rattle.std.proofs.Math.Nat as nat
use Rattle.std.proofs.Math.Nat.{mod_self, add-mod-mod}
use Rattle.std.proofs.lemmas.Bool.{cases_lt, eqb-true, eqb-false}
use Rattle.field.specs.Meaning.{FieldLaws, total}
use Rattle.field.specs.Primes.{listed}
use Rattle.field.specs.Residues.{residues, inverse_below}
use Rattle.field.specs.Total.{total_laws, inv=, one_inverse}
use Rattle.field.specs.Primality.{tested}
use Rattle.field.specs.ResidueInverse.{inverses, mul_mod}

neg_law : (p a : ℕ) → 0 < p → a < p → (a + (p - a) % p) % p ≡ 0
neg_law p a h k = let e : a + (p - a) ≡ p = omega arith in add-mod-mod a (p - a) p ∙ ap (λ x. x % p) e ∙ mod_self p

assoc_add : (p a b c : ℕ) → ((a + b) % p + c) % p ≡ (a + (b + c) % p) % p
assoc_add p a b c = let e : a + b + c ≡ a + (b + c) = omega arith in nat.mod-add-mod (a + b) p c ∙ ap (λ x. x % p) e ∙ sym (add-mod-mod a (b + c) p)

assoc_mul : (p a b c : ℕ) → ((a * b) % p * c) % p ≡ (a * ((b * c) % p)) % p
assoc_mul p a b c =
    ap (λ x. x % p) (mul_comm ((a * b) % p) c) ∙ mul_mod c (a * b) p ∙ ap (λ x. x % p) (mul_comm c (a * b) ∙ nat.mul_assoc a b c) ∙ sym (mul_mod a (b * c) p)

over_add : (p a b c : ℕ) → (a * ((b + c) % p)) % p ≡ ((a * b) % p + (a * c) % p) % p
over_add p a b c = mul_mod a (b + c) p ∙ ap (λ x. x % p) (nat.mul-add a b c) ∙ nat.add-mod (a * b) (a * c) p

-- what the search finds
Found : ℕ → ℕ → ℕ → Option ℕ → Type 0
Found n p a (Some b) = (b < n) × ((a * b) % p ≡ 1)
Found n p a None = (b : ℕ) → b < n → (a * b) % p ≢ 1

found_step : (n p a : ℕ) (x : Bool) (r : Option ℕ) → (a * n % p == 1) ≡ x → Found n p a r → Found (suc n) p a (cond x (Some n) r)
unfolding Found
found_step n p a true r e h = (omega arith, eqb-true (a * n % p) 1 e)
found_step n p a false (Some b) e h = (omega (arith, h.0), h.1)
found_step n p a false None e h = λ b l q.
    ⊎_elim (λ (k : b < n). h b k q) (λ (k : n ≤ b). let s : b ≡ n = omega arith in eqb-false (a * n % p) 1 e (subst (λ (x : ℕ). (a * x) % p ≡ 1) s q)) (cases_lt b n)

found : (n p a : ℕ) → Found n p a (inverse_below n p a)
unfolding inverse_below Found
found zero p a = λ b l q. omega arith
found (suc n) p a = found_step n p a (a * n % p == 1) (inverse_below n p a) refl (found n p a)

-- the search finds the inverse, since there is one
inverted : (p : ℕ) → T (listed p) → (a : ℕ) → 0 < a → a < p → (r : Option ℕ) → Found p p a r → (b : ℕ) × (r ≡ Some b) × T (nat_lt b p) × ((a * b) % p ≡ 1)
unfolding Found
inverted p t a pos l (Some b) f = (b, refl, lt→ltb b p f.0, f.1)
inverted p t a pos l None f = let i = inverses p t a pos l in absurd (f i.0 i.1 i.2)

on_elements : (p : ℕ) → T (listed p) → FieldLaws (residues p)
on_elements p t =
    let two : 1 < p = (tested p t).above in
    let pos : 0 < p = omega arith in
    record {
      zero_in = lt→ltb 0 p pos;
      one_in = lt→ltb 1 p two;
      add_in = λ a b _ _. lt→ltb _ p (mod-lt (a + b) pos);
      mul_in = λ a b _ _. lt→ltb _ p (mod-lt (a * b) pos);
      neg_in = λ a _. lt→ltb _ p (mod-lt (p - a) pos);
      add_comm = λ a b _ _. ap (λ x. x % p) (add_comm a b);
      add_assoc = λ a b c _ _ _. assoc_add p a b c;
      add_zero = λ a h. let k : a < p = ltb→lt a p h in let e : a + 0 ≡ a = omega arith in ap (λ x. x % p) e ∙ mod-eq_of_lt k;
      add_neg = λ a h. neg_law p a pos (ltb→lt a p h);
      mul_comm = λ a b _ _. ap (λ x. x % p) (mul_comm a b);
      mul_assoc = λ a b c _ _ _. assoc_mul p a b c;
      mul_one = λ a h. let k : a < p = ltb→lt a p h in let e : a * 1 ≡ a = omega arith in ap (λ x. x % p) e ∙ mod-eq_of_lt k;
      mul_add = λ a b c _ _ _. over_add p a b c;
      one_ne_zero = λ e. let q : ◌≡◌ {A = ℕ} 1 0 = e in omega arith;
      inverse = λ a h d. inverted p t a (pos_of_ne-zero d) (ltb→lt a p h) (inverse_below p p a) (found p p a);
    }

pub residue_laws : (p : ℕ) → T (listed p) → FieldLaws (total (residues p))
residue_laws p t = total_laws (residues p) (on_elements p t)

-- what multiplies a to 1 is the inverse that the definition finds
pub residue_inverse : (p : ℕ) → T (listed p) → (a r : ℕ) → 0 < a → a < p → r < p → (a * r) % p ≡ 1 → (total (residues p)).inv a ≡ Some r
residue_inverse p t a r pos l lr e =
    let m = residues p in
    let laws = on_elements p t in
    let d : a ≢ 0 = omega arith in
    let i = laws.inverse a (lt→ltb a p l) d in
    inv= m laws a (lt→ltb a p l) d ∙ i.1 ∙ ap Some (one_inverse m laws a i.0 r (lt→ltb a p l) i.2 (lt→ltb r p lr) i.3 e)
