-- Inverses modulo a number that no smaller number divides.
use Rattle.std.specs.Prelude.{◌≡◌, ℕ, zero, suc, ◌+◌, ◌-◌, ◌*◌, ◌/◌, ◌%◌, ◌<◌, ◌≤◌, T}
use Rattle.std.proofs.Common.{sym, ap, ◌∙◌, ⊎_elim, mul_comm, mul_assoc, mul-add, add-mul, mod-lt, mod-eq_of_lt, arith}
use Rattle.std.proofs.Math.Path.{subst⁻¹}
use Rattle.std.proofs.Math.Nat.{div-add-mod, add-mul-mod_self_left}
use Rattle.std.proofs.lemmas.Bool.{cases_eq}
use Rattle.field.specs.Primes.{listed}
use Rattle.field.specs.Primality.{Tested, tested, no_divisor}

-- a * (x % p) and a * x leave the same
pub mul_mod : (a x p : ℕ) → (a * (x % p)) % p ≡ (a * x) % p
mul_mod a x p =
    let e : p * (x / p) + x % p ≡ x = div-add-mod x p in
    let f : a * (p * (x / p)) ≡ p * (a * (x / p)) = sym (mul_assoc a p (x / p)) ∙ ap (λ y. y * (x / p)) (mul_comm a p) ∙ mul_assoc p a (x / p) in
    let g : a * (x % p) + p * (a * (x / p)) ≡ a * x = sym (omega (arith, ap (λ y. a * y) e, mul-add a (p * (x / p)) (x % p))) in
    sym (add-mul-mod_self_left (a * (x % p)) p (a * (x / p))) ∙ ap (λ y. y % p) g

-- (p - r) * (p - s) and r * s leave the same
pub minus_minus : (p u v r s : ℕ) → u + r ≡ p → v + s ≡ p → (u * v) % p ≡ (r * s) % p
minus_minus p u v r s e f =
    let a1 : p * p ≡ u * p + r * p = ap (λ y. y * p) (sym e) ∙ add-mul u r p in
    let a2 : u * p ≡ u * v + u * s = ap (λ y. u * y) (sym f) ∙ mul-add u v s in
    let a3 : p * s ≡ u * s + r * s = ap (λ y. y * s) (sym e) ∙ add-mul u r s in
    let a4 : p * (r + s) ≡ p * r + p * s = mul-add p r s in
    let a5 : p * r ≡ r * p = mul_comm p r in
    let g : u * v + p * (r + s) ≡ r * s + p * p = omega arith in
    sym (add-mul-mod_self_left (u * v) p (r + s)) ∙ ap (λ y. y % p) g ∙ add-mul-mod_self_left (r * s) p p

-- the step: from an inverse s of p % a to one of a
pub step : (p a s : ℕ) → 0 < p → s ≤ p → ((p % a) * s) % p ≡ 1 → (a * (((p / a) * (p - s)) % p)) % p ≡ 1
step p a s ppos low h =
    let e1 : a * (p / a) + p % a ≡ p = div-add-mod p a in
    let e2 : (p - s) + s ≡ p = omega arith in
    mul_mod a ((p / a) * (p - s)) p ∙ ap (λ y. y % p) (sym (mul_assoc a (p / a) (p - s))) ∙ minus_minus p (a * (p / a)) (p - s) (p % a) s e1 e2 ∙ h

inv_below : (p : ℕ) → Tested p → (n a : ℕ) → a < n → 0 < a → a < p → (b : ℕ) × (b < p) × ((a * b) % p ≡ 1)
inv_below p t zero a h pos under = absurd (omega arith)
inv_below p t (suc n) a h pos under =
    ⊎_elim
    (λ (e : a ≡ 1). (1, t.above, subst⁻¹ (λ (x : ℕ). (x * 1) % p ≡ 1) e (mod-eq_of_lt t.above)))
    (λ (ne : a ≡ 1 → ⊥).
    let r : ℕ = p % a in
    let q : ℕ = p / a in
    let rpos : 0 < p % a = no_divisor p t a (omega arith) under in
    let rlt : p % a < a = mod-lt p pos in
    let rec = inv_below p t n (p % a) (omega arith) rpos (omega arith) in
    let s : ℕ = rec.0 in
    let slt : rec.0 < p = rec.1 in
    let e1 : a * (p / a) + p % a ≡ p = div-add-mod p a in
    let e2 : (p - rec.0) + rec.0 ≡ p = omega arith in
    let x : ℕ = (p / a) * (p - rec.0) in
    let ppos : 0 < p = omega arith in (
      ((p / a) * (p - rec.0)) % p,
      mod-lt ((p / a) * (p - rec.0)) ppos,
      mul_mod a ((p / a) * (p - rec.0)) p ∙ ap (λ y. y % p) (sym (mul_assoc a (p / a) (p - rec.0))) ∙ minus_minus p (a * (p / a)) (p - rec.0) (p % a) rec.0 e1 e2 ∙ rec.2,
    ))
    (cases_eq a 1)

pub inverses : (p : ℕ) → T (listed p) → (a : ℕ) → 0 < a → a < p → (b : ℕ) × (b < p) × ((a * b) % p ≡ 1)
inverses p l a pos under = inv_below p (tested p l) (suc a) a (omega arith) pos under
