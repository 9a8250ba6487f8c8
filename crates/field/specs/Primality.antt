-- A listed number has no divisor but 1 and itself: one computed test.
use Rattle.std.specs.Prelude.{◌≡◌, ℕ, zero, suc, ◌+◌, ◌*◌, ◌/◌, ◌%◌, ◌^◌, ◌<◌, ◌≤◌, Bool, true, false, ◌&&◌, ◌||◌, T, List, [], ◌∷◌, ◌==◌, nat_lt}
use Rattle.std.proofs.Common.{◌∙◌, subst, ⊎_elim, pow-suc, mul_comm, arith, ltb→lt, eqb→eq}
use Rattle.std.proofs.Math.Path.{subst⁻¹}
use Rattle.std.proofs.Math.Nat.{div-add-mod, mul-mod_right}
use Rattle.std.proofs.lemmas.Bool.{cases_lt, cases_eq}
use Rattle.std.proofs.lemmas.Nat.{mul-le}
use Rattle.field.specs.Primes.{among, primes, listed}

-- none of the 2 ^ k numbers lo, lo + 1, .. whose square is at most p divides p
pub clear : ℕ → ℕ → ℕ → Bool
clear zero lo p = nat_lt p (lo * lo) || nat_lt 0 (p % lo)
clear (suc k) lo p = nat_lt p (lo * lo) || (clear k lo p && clear k (lo + 2 ^ k) p)

and_left : (a b : Bool) → T (a && b) → T a
and_left true b t = tt
and_left false b t = absurd t

and_right : (a b : Bool) → T (a && b) → T b
and_right true b t = t
and_right false b t = absurd t

either : (a b : Bool) {P : Type 0} → (T a → P) → (T b → P) → T (a || b) → P
either true b f g t = f tt
either false b f g t = g t

clear_at : (k lo p d : ℕ) → T (clear k lo p) → lo ≤ d → d < lo + 2 ^ k → d * d ≤ p → 0 < p % d
unfolding clear
clear_at zero lo p d t low high under =
    let e : d ≡ lo = omega arith in
    let m = mul-le lo lo d d low low in
    subst⁻¹ (λ (x : ℕ). 0 < p % x) e (either (nat_lt p (lo * lo)) (nat_lt 0 (p % lo)) (λ h. let q = ltb→lt p (lo * lo) h in absurd (omega arith)) (λ h. ltb→lt 0 (p % lo) h) t)
clear_at (suc k) lo p d t low high under =
    let m = mul-le lo lo d d low low in
    either (nat_lt p (lo * lo)) (clear k lo p && clear k (lo + 2 ^ k) p)
    (λ h. let q = ltb→lt p (lo * lo) h in absurd (omega arith))
    (λ u. ⊎_elim
    (λ (h : d < lo + 2 ^ k). clear_at k lo p d (and_left _ _ u) low h under)
    (λ (h : lo + 2 ^ k ≤ d). let w = pow-suc 2 k in clear_at k (lo + 2 ^ k) p d (and_right _ _ u) h (omega arith) under)
    (cases_lt d (lo + 2 ^ k)))
    t

pub record Tested (p : ℕ) : Type 0 where
  pub above : 1 < p
  pub below : p < 2147483648
  pub test : T (clear 16 2 p)

passes : (p : ℕ) → T (nat_lt 1 p) → T (nat_lt p 2147483648) → T (clear 16 2 p) → Tested p
passes p a b t = record { above = ltb→lt 1 p a; below = ltb→lt p 2147483648 b; test = t }

abbrev Each : List ℕ → Type 0
Each [] = Unit {0}
Each (p ∷ ps) = Tested p × Each ps

t2 : T (clear 16 2 2)
unfolding clear
t2 = tt

t3 : T (clear 16 2 3)
unfolding clear
t3 = tt

t5 : T (clear 16 2 5)
unfolding clear
t5 = tt

t7 : T (clear 16 2 7)
unfolding clear
t7 = tt

t23 : T (clear 16 2 23)
unfolding clear
t23 = tt

t251 : T (clear 16 2 251)
unfolding clear
t251 = tt

t257 : T (clear 16 2 257)
unfolding clear
t257 = tt

t32003 : T (clear 16 2 32003)
unfolding clear
t32003 = tt

t65521 : T (clear 16 2 65521)
unfolding clear
t65521 = tt

t2147483647 : T (clear 16 2 2147483647)
unfolding clear
t2147483647 = tt

computed : Each primes
computed = (passes 2 tt tt t2, (passes 3 tt tt t3, (passes 5 tt tt t5, (passes 7 tt tt t7, (passes 23 tt tt t23, (passes 251 tt tt t251, (passes 257 tt tt t257, (passes 32003 tt tt t32003, (passes 65521 tt tt t65521, (passes 2147483647 tt tt t2147483647, tt))))))))))

at_each : (p : ℕ) (ps : List ℕ) → Each ps → T (among p ps) → Tested p
at_each p [] t h = absurd h
at_each p (q ∷ ps) t h =
    either (p == q) (among p ps)
    (λ e. subst⁻¹ Tested (eqb→eq p q e) t.0)
    (λ m. at_each p ps t.1 m) h

pub tested : (p : ℕ) → T (listed p) → Tested p
unfolding listed
tested p t = at_each p primes computed t

small : (p : ℕ) → Tested p → (d : ℕ) → 1 < d → d * d ≤ p → 0 < p % d
small p t d low under =
    let high : d < 65538 = ⊎_elim (λ (k : d < 65538). k) (λ (k : 65538 ≤ d). let m = mul-le 65538 65538 d d k k in let b = t.below in absurd (omega arith)) (cases_lt d 65538) in
    clear_at 16 2 p d t.test low high under

-- no number between 1 and p divides p
pub no_divisor : (p : ℕ) → Tested p → (d : ℕ) → 1 < d → d < p → 0 < p % d
no_divisor p t d low under =
    ⊎_elim
    (λ (h : p < d * d).
    ⊎_elim
    (λ (z : p % d ≡ 0).
    let c : ℕ = p / d in
    let e : d * c + p % d ≡ p = div-add-mod p d in
    let e2 : d * c ≡ p = omega arith in
    let c2 : 1 < c = ⊎_elim (λ (k : 1 < c). k) (λ (k : c ≤ 1). let m = mul-le d c d 1 (omega arith) k in absurd (omega arith)) (cases_lt 1 c) in
    let c3 : c ≤ d = ⊎_elim (λ (k : d < c). let m = mul-le d d d c (omega arith) (omega arith) in absurd (omega arith)) (λ (k : c ≤ d). k) (cases_lt d c) in
    let c4 : c * c ≤ p = let m = mul-le c c d c c3 (omega arith) in omega arith in
    let s = small p t c c2 c4 in
    let r : (c * d) % c ≡ 0 = mul-mod_right c d in
    let u : p % c ≡ 0 = subst (λ (x : ℕ). x % c ≡ 0) (mul_comm c d ∙ e2) r in
    absurd (omega arith))
    (λ (n : p % d ≡ 0 → ⊥). omega arith)
    (cases_eq (p % d) 0))
    (λ (h : d * d ≤ p). small p t d low h)
    (cases_lt p (d * d))
