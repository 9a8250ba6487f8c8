-- Evaluation at commuting linear maps: a variable acts by its map, whatever the rest of the monomial, so that the evaluation
-- turns products with x_k into T_k and kills an ideal whose generators it kills.
use Rattle.std.proofs.Common.{◌≡◌, ℕ, zero, suc, ◌+◌, ◌<◌, sym, refl, ap, ◌∙◌, subst, ap₂, zero-add, arith}
use mathlib.Core.Path.{fun_ext}
use Rattle.std.proofs.ByRecursion.{All-weaker}
use Rattle.algebra.specs.Field.{Field}
use Rattle.algebra.specs.Vector.{sum, LinearMap, krylov}
use Rattle.algebra.specs.Monomial.{Mono, one, times, var, power}
use Rattle.algebra.specs.Polynomial.{Poly, ev, combination}
use Rattle.algebra.specs.Evaluation.{act, Commute, evaluate, Evaluates}
use Rattle.algebra.proofs.Sums as sums
use Rattle.algebra.proofs.Maps as maps
use Rattle.algebra.proofs.Monomials.{assoc, comm, unit_left, mono_ind}
use Rattle.algebra.proofs.Polynomials as polys
use Rattle.algebra.proofs.Ideals as ideals

module _ {K : Type 0} (F : Field K) where
  pub act_one : (n : ℕ) (T : ℕ → (ℕ → K) → ℕ → K) (v : ℕ → K) → act F n T (one n) v ≡ v
  act_one zero T v = refl
  act_one (suc n) T v = act_one n (λ k. T (suc k)) v

  pub act_var : (n : ℕ) (T : ℕ → (ℕ → K) → ℕ → K) → Commute n T → (k : ℕ) → k < n → (m : Mono n) (v : ℕ → K) → act F n T (times n (var n k) m) v ≡ T k (act F n T m v)
  act_var zero T e k h m v = absurd (omega arith)
  act_var (suc n) T e zero h m v =
      ap₂ (λ (a : ℕ) (y : Mono n). krylov F (T 0) (act F n (λ k. T (suc k)) y v) a) (let z : 1 + m.0 ≡ suc m.0 = omega arith in z) (unit_left n m.1)
  act_var (suc n) T e (suc k) h m v =
      ap (krylov F (T 0) (act F n (λ k. T (suc k)) (times n (var n k) m.1) v)) (zero-add m.0)
      ∙ ap (λ (u : ℕ → K). krylov F (T 0) u m.0) (act_var n (λ k. T (suc k)) (λ i j p q v. e (suc i) (suc j) (omega arith) (omega arith) v) k (omega arith) m.1 v)
      ∙ maps.krylov_commute F (T 0) (T (suc k)) (e 0 (suc k) (omega arith) h) (act F n (λ k. T (suc k)) m.1 v) m.0

  -- what each map keeps of a vector and a monomial, with its variable put to the monomial, holds of what a monomial does; the maps need not commute
  pub act_ind : (n : ℕ) (T : ℕ → (ℕ → K) → ℕ → K) (P : (ℕ → K) → Mono n → Type 0) → ((k : ℕ) → k < n → (v : ℕ → K) (m : Mono n) → P v m → P (T k v) (times n (var n k) m)) → (v : ℕ → K) → P v (one n) → (m : Mono n) → P (act F n T m v) m
  act_ind zero T P s v z m = z
  act_ind (suc n) T P s v z m = go (act_ind n (λ k. T (suc k)) (λ u t. P u (0, t)) (λ k h u t p. s (suc k) (omega arith) u (0, t) p) v z m.1) m.0
    where
      u : ℕ → K
      u = act F n (λ k. T (suc k)) m.1 v

      go : P u (0, m.1) → (a : ℕ) → P (krylov F (T 0) u a) (a, m.1)
      go b zero = b
      go b (suc a) = subst (P (krylov F (T 0) u (suc a))) (ap₂ (λ (x : ℕ) (y : Mono n). (x, y)) (omega arith) (unit_left n m.1)) (s 0 (omega arith) _ (a, m.1) (go b a))

  -- what the monomials in one variable do
  module _ (n : ℕ) (T : ℕ → (ℕ → K) → ℕ → K) (C : Commute n T) (e : ℕ → K) where
    pub act_power : (k : ℕ) → k < n → (j : ℕ) → act F n T (power n k j) e ≡ krylov F (T k) e j
    act_power k l zero = act_one n T e
    act_power k l (suc j) = act_var n T C k l (power n k j) e ∙ ap (T k) (act_power k l j)

    pub act_single : (i : ℕ) → i < n → act F n T (var n i) e ≡ T i e
    act_single i p =
        ap (λ (m : Mono n). act F n T m e) (sym (comm n (var n i) (one n) ∙ unit_left n (var n i)))
        ∙ act_var n T C i p (one n) e
        ∙ ap (T i) (act_one n T e)

    pub evaluate_alone : (k : ℕ) → k < n → (m : ℕ) (c : ℕ → K) (j : ℕ) → evaluate F n T e (combination m (power n k) c) j ≡ sum F m (λ l. F.◌⊗◌ (c l) (krylov F (T k) e l j))
    evaluate_alone k p m c j =
        polys.ev_combination F (power n k) m c (λ a. act F n T a e j)
        ∙ sums.sum_ext F m _ _ (λ l q. ap (λ (u : ℕ → K). F.◌⊗◌ (c l) (u j)) (act_power k p l))

  module _ (n D : ℕ) (T : ℕ → (ℕ → K) → ℕ → K) (lin : (k : ℕ) → LinearMap F D (T k)) (C : Commute n T) (e : ℕ → K) where
    through : (p : Poly K n) (k : ℕ) → k < n → (f : Mono n → Mono n) (j : ℕ) → ev F p (λ m. act F n T (times n (var n k) (f m)) e j) ≡ T k (λ i. ev F p (λ m. act F n T (f m) e i)) j
    through p k h f j =
        ap (ev F p) (fun_ext (λ m. ap (λ (v : ℕ → K). v j) (act_var n T C k h (f m) e)))
        ∙ polys.ev_through F p (maps.coordinate F (lin k) j) (λ m. act F n T (f m) e)

    all_shifts : (l : Poly K n) → evaluate F n T e l ≡ (λ j. F.zer) → (m : Mono n) (j : ℕ) → ev F l (λ b. act F n T (times n m b) e j) ≡ F.zer
    all_shifts l h = mono_ind n (λ m. (j : ℕ) → ev F l (λ b. act F n T (times n m b) e j) ≡ F.zer)
        (λ j. ap (ev F l) (fun_ext (λ b. ap (λ (x : Mono n). act F n T x e j) (unit_left n b))) ∙ ap (λ (v : ℕ → K). v j) h)
        (λ k less m ih j.
        ap (ev F l) (fun_ext (λ b. ap (λ (x : Mono n). act F n T x e j) (assoc n (var n k) m b)))
        ∙ through l k less (times n m) j
        ∙ ap (λ (v : ℕ → K). T k v j) (fun_ext ih)
        ∙ sums.functional_zero F (maps.coordinate F (lin k) j))

    pub evaluates : Evaluates F n T e
    evaluates = record {
      depends = λ p q a. fun_ext (λ j. polys.same-value F n p q a (λ m. act F n T m e j));
      sums = λ p q j. polys.ev_append F p q (λ m. act F n T m e j);
      scales = λ c p j. polys.ev_term F n c (one n) p (λ m. act F n T m e j) ∙ ap (λ (f : Mono n → Mono n). F.◌⊗◌ c (ev F p (λ m. act F n T (f m) e j))) (fun_ext (unit_left n));
      shifts = λ k less p. fun_ext (λ j. polys.ev_variable F n (var n k) p (λ m. act F n T m e j) ∙ through p k less (λ m. m) j);
      kills = λ L h f i. fun_ext (λ j. ideals.ideal_kill F n L f (λ m. act F n T m e j) (All-weaker (λ l. evaluate F n T e l ≡ (λ j. F.zer)) _ (λ l z m. all_shifts l z m j) L h) i);
    }
