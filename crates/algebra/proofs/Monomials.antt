-- Monomials: laws of the product, the test of equality, induction over variables, exponents and divisibility.
use Rattle.std.proofs.Common.{◌≡◌, ℕ, zero, suc, pred, ◌+◌, ◌<◌, ◌≤◌, Bool, true, false, ◌&&◌, eqb, leb, ◌≢◌, ◌⊎◌, List, length, get_or, sym, refl, ap, ◌∙◌, subst, ap₂, inl, inr, arith}
use mathlib.Core.Bool.{false≢true}
use native.Mathlib.Decide.{ℕ_discrete, dec_lt}
use Rattle.std.proofs.lemmas.Bool.{eq-eqb, eqb-true, leb-true, le-leb, and_parts}
use Rattle.algebra.specs.Lists.{any}
use Rattle.algebra.specs.Monomial.{Mono, one, times, equal, var, power, exponent, divides, lower, Among}
use Rattle.algebra.proofs.Lists as lists

pub assoc : (n : ℕ) (a b c : Mono n) → times n (times n a b) c ≡ times n a (times n b c)
assoc zero a b c = refl
assoc (suc n) a b c = ap₂ (λ (x : ℕ) (y : Mono n). (x, y)) (omega arith) (assoc n a.1 b.1 c.1)

pub comm : (n : ℕ) (a b : Mono n) → times n a b ≡ times n b a
comm zero a b = refl
comm (suc n) a b = ap₂ (λ (x : ℕ) (y : Mono n). (x, y)) (omega arith) (comm n a.1 b.1)

pub unit_left : (n : ℕ) (a : Mono n) → times n (one n) a ≡ a
unit_left zero a = refl
unit_left (suc n) a = ap₂ (λ (x : ℕ) (y : Mono n). (x, y)) (omega arith) (unit_left n a.1)

-- two factors in front change places
pub exchange : (n : ℕ) (a b c : Mono n) → times n a (times n b c) ≡ times n b (times n a c)
exchange n a b c = sym (assoc n a b c) ∙ ap (λ (m : Mono n). times n m c) (comm n a b) ∙ assoc n b a c

pub equal_refl : (n : ℕ) (a : Mono n) → equal n a a ≡ true
equal_refl zero a = refl
equal_refl (suc n) a = ap₂ ◌&&◌ (eq-eqb a.0 a.0 refl) (equal_refl n a.1)

pub equal_eq : (n : ℕ) (a b : Mono n) → equal n a b ≡ true → a ≡ b
equal_eq zero a b e = refl
equal_eq (suc n) a b e = let p = and_parts (eqb a.0 b.0) _ e in ap₂ (λ (x : ℕ) (y : Mono n). (x, y)) (eqb-true a.0 b.0 p.0) (equal_eq n a.1 b.1 p.1)

pub equal_not : (n : ℕ) (a b : Mono n) → a ≢ b → equal n a b ≡ false
equal_not n a b d = go (equal n a b) refl
  where
    go : (c : Bool) → equal n a b ≡ c → c ≡ false
    go true h = absurd (d (equal_eq n a b h))
    go false h = refl

pub equal_sym : (n : ℕ) (a b : Mono n) → equal n a b ≡ false → equal n b a ≡ false
equal_sym n a b e = equal_not n b a (λ z. false≢true (sym e ∙ subst (λ (x : Mono n). equal n a x ≡ true) (sym z) (equal_refl n a)))

-- every monomial is made of variables
pub mono_ind : (n : ℕ) (P : Mono n → Type 0) → P (one n) → ((k : ℕ) → k < n → (m : Mono n) → P m → P (times n (var n k) m)) → (m : Mono n) → P m
mono_ind zero P z s m = z
mono_ind (suc n) P z s m = go (mono_ind n (λ t. P (0, t)) z (λ k h t p. s (suc k) (omega arith) (0, t) p) m.1) m.0
  where
    go : P (0, m.1) → (a : ℕ) → P (a, m.1)
    go b zero = b
    go b (suc a) = subst P (ap₂ (λ (x : ℕ) (y : Mono n). (x, y)) (omega arith) (unit_left n m.1)) (s 0 (omega arith) (a, m.1) (go b a))

-- every monomial but 1 is a variable times another
pub mono_split : (n : ℕ) (m : Mono n) → (m ≡ one n) ⊎ ((k : ℕ) × (t : Mono n) × (k < n) × (m ≡ times n (var n k) t))
mono_split n = mono_ind n (λ m. (m ≡ one n) ⊎ ((k : ℕ) × (t : Mono n) × (k < n) × (m ≡ times n (var n k) t))) (inl refl) (λ k h t ih. inr (k, t, h, refl))

pub ext : (n : ℕ) (a b : Mono n) → ((k : ℕ) → k < n → exponent n a k ≡ exponent n b k) → a ≡ b
ext zero a b h = refl
ext (suc n) a b h = ap₂ (λ (x : ℕ) (y : Mono n). (x, y)) (h 0 (omega arith)) (ext n a.1 b.1 (λ k l. h (suc k) (omega arith)))

pub exp_times : (n : ℕ) (a b : Mono n) (k : ℕ) → exponent n (times n a b) k ≡ exponent n a k + exponent n b k
exp_times zero a b k = omega arith
exp_times (suc n) a b zero = refl
exp_times (suc n) a b (suc k) = exp_times n a.1 b.1 k

pub exp_past : (n : ℕ) (a : Mono n) (k : ℕ) → n ≤ k → exponent n a k ≡ 0
exp_past zero a k l = refl
exp_past (suc n) a zero l = absurd (omega arith)
exp_past (suc n) a (suc k) l = exp_past n a.1 k (omega arith)

pub exp_one : (n k : ℕ) → exponent n (one n) k ≡ 0
exp_one zero k = refl
exp_one (suc n) zero = refl
exp_one (suc n) (suc k) = exp_one n k

pub exp_var : (n k : ℕ) → k < n → exponent n (var n k) k ≡ 1
exp_var zero k l = absurd (omega arith)
exp_var (suc n) zero l = refl
exp_var (suc n) (suc k) l = exp_var n k (omega arith)

pub exp_var_off : (n k j : ℕ) → k ≢ j → exponent n (var n k) j ≡ 0
exp_var_off zero k j d = refl
exp_var_off (suc n) zero zero d = absurd (d refl)
exp_var_off (suc n) zero (suc j) d = exp_one n j
exp_var_off (suc n) (suc k) zero d = refl
exp_var_off (suc n) (suc k) (suc j) d = exp_var_off n k j (omega arith)

pub exp_power : (n k : ℕ) → k < n → (e : ℕ) → exponent n (power n k e) k ≡ e
exp_power n k l zero = exp_one n k
exp_power n k l (suc e) = exp_times n (var n k) (power n k e) k ∙ ap₂ ◌+◌ (exp_var n k l) (exp_power n k l e) ∙ omega arith

pub exp_power_off : (n k j : ℕ) → k ≢ j → (e : ℕ) → exponent n (power n k e) j ≡ 0
exp_power_off n k j d zero = exp_one n j
exp_power_off n k j d (suc e) = exp_times n (var n k) (power n k e) j ∙ ap₂ ◌+◌ (exp_var_off n k j d) (exp_power_off n k j d e) ∙ omega arith

-- x_k m has the exponents of m but at k
pub exp_raise : (n k : ℕ) → k < n → (m : Mono n) → exponent n (times n (var n k) m) k ≡ suc (exponent n m k)
exp_raise n k l m = exp_times n (var n k) m k ∙ ap (λ (x : ℕ). x + exponent n m k) (exp_var n k l) ∙ omega arith

pub exp_raise_off : (n k j : ℕ) → k ≢ j → (m : Mono n) → exponent n (times n (var n k) m) j ≡ exponent n m j
exp_raise_off n k j d m = exp_times n (var n k) m j ∙ ap (λ (x : ℕ). x + exponent n m j) (exp_var_off n k j d) ∙ omega arith

pub exp_lower : (n k : ℕ) (m : Mono n) → exponent n (lower n k m) k ≡ pred (exponent n m k)
exp_lower zero k m = refl
exp_lower (suc n) zero m = refl
exp_lower (suc n) (suc k) m = exp_lower n k m.1

pub exp_lower_off : (n k j : ℕ) → k ≢ j → (m : Mono n) → exponent n (lower n k m) j ≡ exponent n m j
exp_lower_off zero k j d m = refl
exp_lower_off (suc n) zero zero d m = absurd (d refl)
exp_lower_off (suc n) zero (suc j) d m = refl
exp_lower_off (suc n) (suc k) zero d m = refl
exp_lower_off (suc n) (suc k) (suc j) d m = exp_lower_off n k j (omega arith) m.1

pub raise_lower : (n k : ℕ) → k < n → (m : Mono n) → 1 ≤ exponent n m k → times n (var n k) (lower n k m) ≡ m
raise_lower n k l m h = ext n _ _ (λ j q. go j (ℕ_discrete k j))
  where
    go : (j : ℕ) → Dec (k ≡ j) → exponent n (times n (var n k) (lower n k m)) j ≡ exponent n m j
    go j (yes e) = subst (λ (j : ℕ). exponent n (times n (var n k) (lower n k m)) j ≡ exponent n m j) e (exp_raise n k l (lower n k m) ∙ ap suc (exp_lower n k m) ∙ omega arith)
    go j (no d) = exp_raise_off n k j d (lower n k m) ∙ exp_lower_off n k j d m

pub lower_raise : (n k : ℕ) → k < n → (m : Mono n) → lower n k (times n (var n k) m) ≡ m
lower_raise n k l m = ext n _ _ (λ j q. go j (ℕ_discrete k j))
  where
    go : (j : ℕ) → Dec (k ≡ j) → exponent n (lower n k (times n (var n k) m)) j ≡ exponent n m j
    go j (yes e) = subst (λ (j : ℕ). exponent n (lower n k (times n (var n k) m)) j ≡ exponent n m j) e (exp_lower n k _ ∙ ap pred (exp_raise n k l m) ∙ omega arith)
    go j (no d) = exp_lower_off n k j d _ ∙ exp_raise_off n k j d m

pub divides_to : (n : ℕ) (a b : Mono n) → divides n a b ≡ true → (k : ℕ) → k < n → exponent n a k ≤ exponent n b k
divides_to zero a b e k l = absurd (omega arith)
divides_to (suc n) a b e zero l = leb-true a.0 b.0 (and_parts _ _ e).0
divides_to (suc n) a b e (suc k) l = divides_to n a.1 b.1 (and_parts (leb a.0 b.0) _ e).1 k (omega arith)

pub divides_from : (n : ℕ) (a b : Mono n) → ((k : ℕ) → k < n → exponent n a k ≤ exponent n b k) → divides n a b ≡ true
divides_from zero a b h = refl
divides_from (suc n) a b h = ap₂ ◌&&◌ (le-leb a.0 b.0 (h 0 (omega arith))) (divides_from n a.1 b.1 (λ k l. h (suc k) (omega arith)))

pub divides_self : (n : ℕ) (a : Mono n) → divides n a a ≡ true
divides_self n a = divides_from n a a (λ k l. omega arith)

pub divides_trans : (n : ℕ) (a b c : Mono n) → divides n a b ≡ true → divides n b c ≡ true → divides n a c ≡ true
divides_trans n a b c p q = divides_from n a c (λ k l. omega (arith, divides_to n a b p k l, divides_to n b c q k l))

pub divides_raise : (n k : ℕ) → k < n → (a : Mono n) → divides n a (times n (var n k) a) ≡ true
divides_raise n k l a = divides_from n _ _ (λ j q. omega (arith, exp_times n (var n k) a j))

-- a divides b and is not b: it divides b / x_k for some k
pub strict : (n : ℕ) (a b : Mono n) → divides n a b ≡ true → (a ≡ b) ⊎ ((k : ℕ) × (k < n) × (exponent n a k < exponent n b k))
strict zero a b e = inl refl
strict (suc n) a b e = go (dec_lt a.0 b.0) (strict n a.1 b.1 (and_parts (leb a.0 b.0) _ e).1)
  where
    low : a.0 ≤ b.0
    low = leb-true a.0 b.0 (and_parts _ _ e).0

    go : Dec (a.0 < b.0) → (a.1 ≡ b.1) ⊎ ((k : ℕ) × (k < n) × (exponent n a.1 k < exponent n b.1 k)) → (a ≡ b) ⊎ ((k : ℕ) × (k < suc n) × (exponent (suc n) a k < exponent (suc n) b k))
    go (yes l) x = inr (0, omega arith, l)
    go (no l) (inl x) = inl (ap₂ (λ (x : ℕ) (y : Mono n). (x, y)) (omega (arith, low)) x)
    go (no l) (inr x) = inr (suc x.0, omega (arith, x.1), x.2)

-- membership in a list, by the test of equality and by place
module _ (n : ℕ) where
  abbrev pub Has : Mono n → List (Mono n) → Type 0
  Has t l = any (equal n t) l ≡ true

  pub has_among : (t : Mono n) (l : List (Mono n)) → Has t l → Among n t l
  has_among t l h = let x = lists.any_index (equal n t) (one n) l h in (x.0, x.1, sym (equal_eq n t _ x.2))

  pub has_at : (l : List (Mono n)) (i : ℕ) → i < length l → Has (get_or l i (one n)) l
  has_at l i q = lists.any_at _ (one n) l i q (equal_refl n _)

  pub among_has : (t : Mono n) (l : List (Mono n)) → Among n t l → Has t l
  among_has t l x = subst (λ (m : Mono n). Has m l) x.2 (has_at l x.0 x.1)
