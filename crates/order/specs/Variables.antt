-- Every monomial is a product of variables: an induction, and the degree that it goes by.
use Rattle.std.specs.Prelude.{◌≡◌, ℕ, zero, suc, ◌+◌, ◌<◌, ◌⊎◌, refl}
use Rattle.std.proofs.Common.{sym, ◌∙◌, ap, ap₂, subst, inl, inr, arith}
use Rattle.std.proofs.Math.Decide.{ℕ_discrete, dec_lt}
use Rattle.order.specs.declared.monomial.Monomial.{Monomial}
use Rattle.order.specs.Monomials.{variables, exponent, one, variable, over, raise, total, degree}
use Rattle.order.specs.Exponents.{same_exponents, exponent_one, exponent_raise, raise_over, unit, unit_at, unit_off}

total_same : (n : ℕ) (f g : ℕ → ℕ) → ((j : ℕ) → j < n → g j ≡ f j) → total n g ≡ total n f
total_same zero f g h = refl
total_same (suc n) f g h = ap₂ ◌+◌ (total_same n f g (λ j l. h j (omega arith))) (h n (omega arith))

total_raise : (n k : ℕ) → k < n → (f g : ℕ → ℕ) → ((j : ℕ) → g j ≡ unit k j + f j) → total n g ≡ 1 + total n f
total_raise zero k l f g h = absurd (omega arith)
total_raise (suc n) k l f g h = go (ℕ_discrete k n) (λ q. total_raise n k q f g h)
  where
    go : Dec (k ≡ n) → (k < n → total n g ≡ 1 + total n f) → total n g + g n ≡ 1 + (total n f + f n)
    go (yes e) ih =
        let here : unit k n ≡ 1 = sym (ap (unit k) e) ∙ unit_at k in
        let before : total n g ≡ total n f = total_same n f g (λ j q. omega (arith, h j, unit_off k j (omega arith))) in
        omega (arith, h n)
    go (no d) ih = omega (arith, h n, unit_off k n d, ih (omega arith))

pub degree_raise : (k : ℕ) → k < variables → (m : Monomial) → degree (raise k m) ≡ 1 + degree m
unfolding degree
degree_raise k l m = total_raise variables k l (exponent m) (exponent (raise k m)) (exponent_raise k l m)

find_variable : (n : ℕ) (m : Monomial) → ((k : ℕ) → k < n → exponent m k ≡ 0) ⊎ ((k : ℕ) × (k < n) × (0 < exponent m k))
find_variable zero m = inl (λ k l. absurd (omega arith))
find_variable (suc n) m = go (dec_lt 0 (exponent m n)) (find_variable n m)
  where
    none : exponent m n ≡ 0 → ((k : ℕ) → k < n → exponent m k ≡ 0) → (k : ℕ) → k < suc n → exponent m k ≡ 0
    none e h k l = elim (ℕ_discrete k n) [ yes d ↦ ap (exponent m) d ∙ e | no d ↦ h k (omega arith) ]

    go : Dec (0 < exponent m n) → ((k : ℕ) → k < n → exponent m k ≡ 0) ⊎ ((k : ℕ) × (k < n) × (0 < exponent m k)) → ((k : ℕ) → k < suc n → exponent m k ≡ 0) ⊎ ((k : ℕ) × (k < suc n) × (0 < exponent m k))
    go (yes p) x = inr (n, omega arith, p)
    go (no p) (inl h) = inl (none (omega arith) h)
    go (no p) (inr t) = inr (t.0, omega (arith, t.1), t.2)

pub some_variable : (m : Monomial) → (m ≡ one) ⊎ ((k : ℕ) × (k < variables) × (0 < exponent m k))
some_variable m = go (find_variable variables m)
  where
    go : ((k : ℕ) → k < variables → exponent m k ≡ 0) ⊎ ((k : ℕ) × (k < variables) × (0 < exponent m k)) → (m ≡ one) ⊎ ((k : ℕ) × (k < variables) × (0 < exponent m k))
    go (inl h) = inl (same_exponents m one (λ k l. h k l ∙ sym (exponent_one k)))
    go (inr t) = inr t

module _ (P : Monomial → Type 0) (base : P one) (step : (k : ℕ) → k < variables → (m : Monomial) → P m → P (raise k m)) where
  below : (n : ℕ) (m : Monomial) → degree m < n → P m
  below zero m h = absurd (omega arith)
  below (suc n) m h = go (some_variable m) (below n)
    where
      go : (m ≡ one) ⊎ ((k : ℕ) × (k < variables) × (0 < exponent m k)) → ((m : Monomial) → degree m < n → P m) → P m
      go (inl e) ih = subst P (sym e) base
      go (inr t) ih =
          let rest = over m (variable t.0) in
          let whole = raise_over t.0 t.1 m t.2 in
          subst P whole (step t.0 t.1 rest (ih rest (omega (arith, degree_raise t.0 t.1 rest, ap degree whole))))

  pub by_variables : (m : Monomial) → P m
  by_variables m = below (suc (degree m)) m (omega arith)
