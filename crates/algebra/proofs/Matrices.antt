-- The multiplication matrices of polynomials that passed the questions are those of a system, so that what agreement tells
-- holds of them.
use Rattle.std.proofs.Common.{◌≡◌, ℕ, zero, suc, ◌<◌, Bool, true, false, ◌⊎◌, List, [], ◌∷◌, length, get_or, sym, refl, ap, ◌∙◌, subst, inl, inr, arith}
use native.Mathlib.Decide.{dec_lt}
use Rattle.std.proofs.ByRecursion.{All-from_get_or}
use Rattle.std.proofs.lemmas.Bool.{cases_Bool}
use Rattle.algebra.specs.Field.{Field}
use Rattle.algebra.specs.Vector.{basis}
use Rattle.algebra.specs.Lists.{any}
use Rattle.algebra.specs.Monomial.{Mono, times, equal, var}
use Rattle.algebra.specs.Monomial as spec
use Rattle.algebra.specs.Polynomial.{Poly, ◌≈◌, combination}
use Rattle.algebra.specs.Order.{Small, Ordered}
use Rattle.algebra.specs.NormalForm.{arith_of}
use Rattle.algebra.specs.Basis.{leads, stairs, dim, stair, table, lead_at, Passed}
use Rattle.algebra.specs.Matrices.{matrices, Congruences, Agreement}
use Rattle.algebra.proofs.Sums as sums
use Rattle.algebra.proofs.Monomials as monos
use Rattle.algebra.proofs.Columns as columns
use Rattle.algebra.proofs.Sorting as sorting
use Rattle.algebra.proofs.Staircase as stairway
use Rattle.algebra.proofs.Rules as rules
use Rattle.algebra.proofs.NormalForms as forms
use Rattle.algebra.proofs.Agreement as agreement
use Rattle.algebra.proofs.Agreement.{System}

module _ {K : Type 0} (F : Field K) (n : ℕ) (before : Mono n → Mono n → Bool) (O : Ordered n before) (L : List (Poly K n)) (Q : Passed F n before L) where
  abbrev S : List (Mono n)
  S = stairs n before L

  abbrev D : ℕ
  D = dim n before L

  abbrev s : ℕ → Mono n
  s = stair n before L

  abbrev X : ℕ → Mono n → Mono n
  X k m = times n (var n k) m

  abbrev A : ℕ → ℕ → ℕ → K
  A = matrices F n before L

  one_small : Small n (spec.one n)
  one_small j q = omega (arith, monos.exp_one n j)

  -- 1 comes first
  one_least : (m : Mono n) → Small n m → (m ≡ spec.one n) ⊎ (before (spec.one n) m ≡ true)
  one_least = monos.mono_ind n (λ m. Small n m → (m ≡ spec.one n) ⊎ (before (spec.one n) m ≡ true))
      (λ h. inl refl)
      (λ k l m ih h. let g : Small n m = λ j q. omega (arith, h j q, monos.exp_times n (var n k) m j) in inr (go k l m h g (ih g)))
    where
      go : (k : ℕ) → k < n → (m : Mono n) → Small n (X k m) → Small n m → (m ≡ spec.one n) ⊎ (before (spec.one n) m ≡ true) → before (spec.one n) (X k m) ≡ true
      go k l m h g (inl e) = subst (λ (a : Mono n). before a (X k m) ≡ true) e (O.above k l m h)
      go k l m h g (inr e) = O.chain (spec.one n) m (X k m) one_small g h e (O.above k l m h)

  one_free : rules.is_free F n before O L Q (spec.one n) ≡ true
  one_free = rules.free_yes F n before O L Q (spec.one n) (λ p l d. Q.not_one p l (monos.ext n _ _ (λ k q. omega (arith, monos.divides_to n (lead_at n L p) (spec.one n) d k q, monos.exp_one n k))))

  first_is : (0 < D) × (s 0 ≡ spec.one n)
  first_is = let x = monos.has_among n (spec.one n) S (rules.stairs_from F n before O L Q (spec.one n) one_free) in (omega (arith, x.1), go x.0 x.1 x.2)
    where
      go : (r : ℕ) → r < D → s r ≡ spec.one n → s 0 ≡ spec.one n
      go zero l e = e
      go (suc r) l e = pick (one_least (s 0) small)
        where
          small : Small n (s 0)
          small = rules.s_small F n before O L Q 0 (omega arith)

          low-one : before (s 0) (spec.one n) ≡ true
          low-one = subst (λ (m : Mono n). before (s 0) m ≡ true) e (sorting.rising_at n before S (stairway.stairs-rising n (leads n L) Q.bounded before O) 0 (suc r) (omega arith) l)

          pick : (s 0 ≡ spec.one n) ⊎ (before (spec.one n) (s 0) ≡ true) → s 0 ≡ spec.one n
          pick (inl y) = y
          pick (inr y) = absurd (O.not_both (s 0) (spec.one n) small one_small low-one y)

  inner : (k i r : ℕ) → r < D → s r ≡ X k (s i) → (j : ℕ) → A k j i ≡ basis F r j
  inner k i r l e j = go (dec_lt j D)
    where
      go : Dec (j < D) → A k j i ≡ basis F r j
      go (yes q) = rules.form_unit F n before O L Q (table (arith_of F) n before L) r l (X k (s i)) e j q
      go (no q) = forms.form_past F n before O L Q (X k (s i)) j (omega arith) ∙ sym (sums.basis_other F r j (omega arith))

  good : (k i : ℕ) → k < n → i < D → columns.Good F n L D s (λ j. A k j i) (X k (s i))
  good k i kn l = go (cases_Bool (any (equal n (X k (s i))) S))
    where
      go : (any (equal n (X k (s i))) S ≡ true) ⊎ (any (equal n (X k (s i))) S ≡ false) → columns.Good F n L D s (λ j. A k j i) (X k (s i))
      go (inl y) =
          let x = monos.has_among n (X k (s i)) S y in
          columns.good_ext F n L D s (basis F x.0) _ _ (λ j q. sym (inner k i x.0 x.1 x.2 j)) (subst (columns.Good F n L D s (basis F x.0)) x.2 (columns.good_inner F n L D s x.0 x.1))
      go (inr y) =
          subst (λ (c : List K). columns.Good F n L D s (λ j. get_or c j F.zer) (X k (s i))) (sym (rules.form_out F n before O L Q (table (arith_of F) n before L) _ y))
          (forms.all_right F n before O L Q _ (record { k = k; i = i; kn = kn; within = l; is = refl; out = y })).good

  -- each polynomial is a border monomial minus its column
  monic_at : (p : ℕ) → p < length L → (k : ℕ) × (i : ℕ) × (k < n) × (i < D) × (◌≈◌ F n (get_or L p []) ((F.one, X k (s i)) ∷ combination D s (λ j. F.neg (A k j i))))
  monic_at p l =
      let e = forms.lead_edge F n before O L Q p l in (
        e.k,
        e.i,
        e.kn,
        e.within,
        rules.poly_is F n before O L Q p l (X e.k (s e.i)) e.is (λ j. A e.k j e.i)
            (λ j q. ap (λ (t : Mono n). get_or (Rattle.algebra.specs.Basis.normal_form (arith_of F) n before L t) j F.zer) (sym e.is) ∙ (forms.normal_forms F n before O L Q).leading p l j q),
      )

  pub is_system : System F n D s L A
  is_system = record {
    some = first_is.0;
    first = first_is.1;
    distinct = rules.distinct F n before O L Q;
    divides = λ i k m l kn e. monos.has_among n m S (rules.stairs_from F n before O L Q m (stairway.free_down n (leads n L) m (s i) (subst (λ (x : Mono n). spec.divides n m x ≡ true) (sym e) (monos.divides_raise n k kn m)) (rules.s_free F n before O L Q i l)));
    outside = λ k i j q. forms.form_past F n before O L Q (X k (s i)) j q;
    inner = λ k i r kn l q e j. inner k i r q e j;
    good = good;
    monic = All-from_get_or _ L [] monic_at;
  }

  pub congruences : Congruences F n before L
  congruences = record { times_variable = agreement.times_variable F n D s L A is_system; polynomial = agreement.polynomial F n D s L A is_system }

  pub agreement_holds : Agreement F n before L
  agreement_holds = record { decided = agreement.agree F n D s L A is_system; exactly = agreement.agree_exactly F n D s L A is_system; members = agreement.member_iff F n D s L A is_system; only = agreement.only F n D s L A is_system }
