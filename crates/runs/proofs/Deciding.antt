-- What can be decided: the parts that the questions of the calls are made of.
use Rattle.std.proofs.Common.{◌≡◌, ℕ, suc, ◌<◌, Bool, true, false, T, ◌⊎◌, List, [], ◌∷◌, length, Ordering, Less, Equal, Greater, sym, refl, ap, ◌∙◌, subst, inl, inr, arith}
use mathlib.Core.Bool.{false≢true}
use Rattle.std.specs.List.{AllByRecursion}
use Rattle.algebra.specs.Lists.{any}
use Rattle.algebra.specs.Monomial.{Mono, equal, exponent, power, Among}
use Rattle.algebra.proofs.Monomials as monos
use Rattle.runs.specs.Job.{Stage, opened, closed}
use Rattle.runs.proofs.Questions.{first_no}

pub below_known : (P : ℕ → Type 0) (c : ℕ) → ((i : ℕ) → i < c → Dec (P i)) → Dec ((i : ℕ) → i < c → P i)
below_known P c d = go (first_no P c d)
  where
    go : ((i : ℕ) → i < c → P i) ⊎ ((i : ℕ) × (i < c) × (P i → ⊥) × ((j : ℕ) → j < i → P j)) → Dec ((i : ℕ) → i < c → P i)
    go (inl h) = yes h
    go (inr x) = no (λ h. x.2 (h x.0 x.1))

pub both_known : {A B : Type 0} → Dec A → Dec B → Dec (A × B)
both_known (yes a) (yes b) = yes (a, b)
both_known (yes a) (no b) = no (λ x. b x.1)
both_known (no a) b = no (λ x. a x.0)

pub not_known : {A : Type 0} → Dec A → Dec (A → ⊥)
not_known (yes a) = no (λ f. f a)
not_known (no a) = yes a

pub if_known : {A B : Type 0} → Dec A → Dec B → Dec (A → B)
if_known (yes a) (yes b) = yes (λ x. b)
if_known (yes a) (no b) = no (λ f. b (f a))
if_known (no a) b = yes (λ x. absurd (a x))

-- some one below c has a property that can be decided
pub some_known : (P : ℕ → Type 0) (c : ℕ) → ((i : ℕ) → i < c → Dec (P i)) → Dec ((i : ℕ) × (i < c) × P i)
some_known P c d = go (first_no (λ i. P i → ⊥) c (λ i l. not_known (d i l)))
  where
    found : (i : ℕ) → i < c → ((P i → ⊥) → ⊥) → Dec (P i) → (i : ℕ) × (i < c) × P i
    found i l n (yes y) = (i, l, y)
    found i l n (no y) = absurd (n y)

    go : ((i : ℕ) → i < c → P i → ⊥) ⊎ ((i : ℕ) × (i < c) × ((P i → ⊥) → ⊥) × ((j : ℕ) → j < i → P j → ⊥)) → Dec ((i : ℕ) × (i < c) × P i)
    go (inl h) = no (λ x. h x.0 x.1 x.2)
    go (inr x) = yes (found x.0 x.1 x.2 (d x.0 x.1))

pub test_known : (b : Bool) → Dec (T b)
test_known true = yes tt
test_known false = no (λ x. x)

pub true_known : (b : Bool) → Dec (b ≡ true)
true_known true = yes refl
true_known false = no false≢true

pub opened_known : (s : Stage) → Dec (s ≡ opened)
opened_known opened = yes refl
opened_known closed = no (λ e. let z : ◌≡◌ {A = ℕ} 0 1 = cc in omega arith)

pub closed_known : (s : Stage) → Dec (s ≡ closed)
closed_known closed = yes refl
closed_known opened = no (λ e. let z : ◌≡◌ {A = ℕ} 0 1 = cc in omega arith)

pub not_both_stages : (s : Stage) → s ≡ opened → s ≡ closed → ⊥
not_both_stages s e e' = let z : ◌≡◌ {A = ℕ} 0 1 = cc in omega arith

pub less_known : (o : Ordering) → Dec (o ≡ Less)
less_known Less = yes refl
less_known Equal = no (λ e. let z : ◌≡◌ {A = ℕ} 0 1 = cc in omega arith)
less_known Greater = no (λ e. let z : ◌≡◌ {A = ℕ} 0 1 = cc in omega arith)

pub nil_known : {A : Type 0} (l : List A) → Dec (l ≡ [])
nil_known [] = yes refl
nil_known (a ∷ l) = no (λ e. let z : suc (length l) ≡ 0 = ap length e in omega arith)

pub all_known : {A : Type 0} (P : A → Type 0) → ((a : A) → Dec (P a)) → (l : List A) → Dec (AllByRecursion P l)
all_known P d [] = yes tt
all_known P d (a ∷ l) = both_known (d a) (all_known P d l)

-- monomials

pub monomial_known : (n : ℕ) (a b : Mono n) → Dec (a ≡ b)
monomial_known n a b = go (true_known (equal n a b))
  where
    go : Dec (equal n a b ≡ true) → Dec (a ≡ b)
    go (yes e) = yes (monos.equal_eq n a b e)
    go (no d) = no (λ p. d (subst (λ (x : Mono n). equal n a x ≡ true) p (monos.equal_refl n a)))

pub power_known : (n k : ℕ) → k < n → (m : Mono n) → Dec ((e : ℕ) × (m ≡ power n k e))
power_known n k l m = go (monomial_known n m (power n k (exponent n m k)))
  where
    go : Dec (m ≡ power n k (exponent n m k)) → Dec ((e : ℕ) × (m ≡ power n k e))
    go (yes e) = yes (exponent n m k, e)
    go (no d) = no (λ x. d (x.1 ∙ ap (power n k) (sym (ap (λ (y : Mono n). exponent n y k) x.1 ∙ monos.exp_power n k l x.0))))

pub among_known : (n : ℕ) (m : Mono n) (l : List (Mono n)) → Dec (Among n m l)
among_known n m l = go (true_known (any (equal n m) l))
  where
    go : Dec (any (equal n m) l ≡ true) → Dec (Among n m l)
    go (yes e) = yes (monos.has_among n m l e)
    go (no d) = no (λ x. d (monos.among_has n m l x))
