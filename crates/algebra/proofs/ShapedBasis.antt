-- One shaped basis: members in x_k alone and their degrees; modulo the basis every polynomial is one in x_k alone; and two shaped
-- bases of one ideal are equal.
use Rattle.std.proofs.Common.{◌≡◌, ℕ, zero, suc, ◌<◌, ◌≤◌, ◌≢◌, List, [], ◌∷◌, length, get_or, sym, refl, ap, ◌∙◌, subst, ap₂, inr, arith}
use mathlib.Core.Path.{fun_ext}
use native.Mathlib.Decide.{ℕ_discrete, dec_lt}
use Rattle.algebra.specs.Field.{Field}
use Rattle.algebra.specs.Vector.{basis, apply}
use Rattle.algebra.specs.Monomial.{Mono, times, var, power}
use Rattle.algebra.specs.Polynomial.{Poly, ev}
use Rattle.algebra.specs.Ideal.{Member, Congruent, SameIdeal}
use Rattle.algebra.specs.Shape.{alone, monic, solved, shaped, AloneMember}
use Rattle.algebra.proofs.Laws as field
use Rattle.algebra.proofs.Sums as sums
use Rattle.algebra.proofs.Dual.{put, put_here, put_off}
use Rattle.algebra.proofs.Span as span
use Rattle.algebra.proofs.Monomials as monos
use Rattle.algebra.proofs.Polynomials as polys
use Rattle.algebra.proofs.Ideals as ideals
use Rattle.algebra.proofs.Congruence as congruence
use Rattle.algebra.proofs.Columns as columns
use Rattle.algebra.proofs.Companion as companion

-- members in x_k alone
module _ {K : Type 0} (F : Field K) (n k : ℕ) (L : List (Poly K n)) where
  open F use {one, ◌⊗◌, neg}

  infixl 70 ◌⊗◌
  -- where only zero is a member of degree below d, every member has a degree from d on
  pub degree_from : (d : ℕ) → columns.Free F n L d (power n k) → (m : ℕ) → AloneMember F n L k m → d ≤ m
  degree_from d free m x = go (dec_lt m d)
    where
      padded : m < d → Member F n L (alone F n k d (span.upto F (suc m) x.0))
      padded l =
          ideals.from_in F n L (alone F n k d (span.upto F (suc m) x.0))
          (ideals.in-resp F n L
          (λ w.
          polys.ev_combination F (power n k) d (span.upto F (suc m) x.0) w
          ∙ sums.sum_cut F (suc m) d _ l (λ i a b. ap (λ z. z ⊗ w (power n k i)) (span.upto_off F (suc m) x.0 i a) ∙ field.zero_mul F _)
          ∙ sums.sum_ext F (suc m) _ _ (λ i a. ap (λ z. z ⊗ w (power n k i)) (span.upto_in F (suc m) x.0 i a))
          ∙ sym (polys.ev_combination F (power n k) (suc m) x.0 w))
          (ideals.to_in F n L (alone F n k (suc m) x.0) x.2))

      go : Dec (m < d) → d ≤ m
      go (yes l) = absurd (x.1 (sym (span.upto_in F (suc m) x.0 m (omega arith)) ∙ free _ (padded l) m l))
      go (no l) = omega arith

  -- a monic member
  pub monic_alone : (D : ℕ) (g : ℕ → K) → Member F n L (monic F n k D g) → AloneMember F n L k D
  monic_alone D g m = (put D g one, (λ e. F.one_ne (sym (put_here D g one) ∙ e)), subst (Member F n L) is m)
    where
      is : monic F n k D g ≡ alone F n k (suc D) (put D g one)
      is = ap₂ (λ (x : K) (y : Poly K n). (x, power n k D) ∷ y) (sym (put_here D g one)) (polys.combination_ext F (power n k) D g (put D g one) (λ i p. sym (put_off D g one i (omega arith))))

  abbrev Good : ℕ → (ℕ → K) → Mono n → Type 0
  Good D = columns.Good F n L D (power n k)

  good_monic : (D : ℕ) (g : ℕ → K) → Member F n L (monic F n k D g) → Good D (λ j. neg (g j)) (power n k D)
  good_monic D g m = columns.good_member F n L D (power n k) (λ j. neg (g j)) (power n k D) (subst (λ (c : ℕ → K). Member F n L ((one, power n k D) ∷ alone F n k D c)) (fun_ext (λ j. sym (field.neg_neg F (g j)))) m)

  good_solved : (D i : ℕ) (h : ℕ → K) → Member F n L (solved F n k D i h) → Good D h (var n i)
  good_solved D i h m = columns.good_member F n L D (power n k) h (var n i) m

-- modulo a shaped basis
module _ {K : Type 0} (F : Field K) (n k D : ℕ) (kn : k < n) (rows : ℕ → ℕ → K) where
  open F use {neg}

  abbrev G : List (Poly K n)
  G = shaped F n k D rows n

  find : (m i : ℕ) → i < m → (p : ℕ) × (p < length (shaped F n k D rows m)) × (get_or (shaped F n k D rows m) p [] ≡ companion.generator F n k D rows i)
  find zero i l = absurd (omega arith)
  find (suc m) i l = go (ℕ_discrete i m) (find m i)
    where
      go : Dec (i ≡ m) → (i < m → (p : ℕ) × (p < length (shaped F n k D rows m)) × (get_or (shaped F n k D rows m) p [] ≡ companion.generator F n k D rows i)) → (p : ℕ) × (p < length (shaped F n k D rows (suc m))) × (get_or (shaped F n k D rows (suc m)) p [] ≡ companion.generator F n k D rows i)
      go (yes e) ih = (0, omega arith, ap (companion.generator F n k D rows) (sym e))
      go (no d) ih = let x = ih (omega arith) in (suc x.0, omega (arith, x.1), x.2)

  row_in : (i : ℕ) → i < n → (f : Poly K n) → companion.generator F n k D rows i ≡ f → Member F n G f
  row_in i l f e = let x = find n i l in ideals.generator_member F n G x.0 x.1 f (λ m. ap (λ (p : Poly K n). Rattle.algebra.specs.Polynomial.coeff F n p m) (x.2 ∙ e))

  pub monic_in : Member F n G (monic F n k D (rows k))
  monic_in = row_in k kn _ (companion.generator_k F n k D rows)

  pub solved_in : (i : ℕ) → i < n → i ≢ k → Member F n G (solved F n k D i (rows i))
  solved_in i l d = row_in i l _ (companion.generator_other F n k D rows i d)

  abbrev Good' : (ℕ → K) → Mono n → Type 0
  Good' = columns.Good F n G D (power n k)

  -- x_k times x_k^l
  column : (l : ℕ) → Dec (suc l ≡ D) → ℕ → K
  column l (yes e) j = neg (rows k j)
  column l (no d) j = basis F (suc l) j

  column_good : (l : ℕ) (x : Dec (suc l ≡ D)) → l < D → Good' (column l x) (power n k (suc l))
  unfolding column
  column_good l (yes e) p = subst (λ (d : ℕ). Good' (λ j. neg (rows k j)) (power n k d)) (sym e) (good_monic F n k G D (rows k) monic_in)
  column_good l (no d) p = columns.good_inner F n G D (power n k) (suc l) (omega arith)

  by_k : ℕ → ℕ → K
  by_k j l = column l (ℕ_discrete (suc l) D) j

  times_k : (c : ℕ → K) (m : Mono n) → Good' c m → Good' (apply F D by_k c) (times n (var n k) m)
  unfolding by_k
  times_k c m g = columns.good_times F n G D (power n k) (var n k) by_k c m (λ l p. inr (column_good l (ℕ_discrete (suc l) D) p)) g

  -- x_i times x_k^l
  by_i : ℕ → ℕ → ℕ → K
  by_i i zero = rows i
  by_i i (suc l) = apply F D by_k (by_i i l)

  by_good : (i : ℕ) → i < n → i ≢ k → (l : ℕ) → Good' (by_i i l) (times n (power n k l) (var n i))
  unfolding by_i
  by_good i p d zero = subst (Good' (rows i)) (sym (monos.unit_left n (var n i))) (good_solved F n k G D i (rows i) (solved_in i p d))
  by_good i p d (suc l) = subst (Good' (by_i i (suc l))) (sym (monos.assoc n (var n k) (power n k l) (var n i))) (times_k (by_i i l) _ (by_good i p d l))

  times_i : (i : ℕ) → i < n → i ≢ k → (c : ℕ → K) (m : Mono n) → Good' c m → Good' (apply F D (λ j l. by_i i l j) c) (times n (var n i) m)
  times_i i p d c m g = columns.good_times F n G D (power n k) (var n i) (λ j l. by_i i l j) c m (λ l q. inr (subst (Good' (by_i i l)) (monos.comm n (power n k l) (var n i)) (by_good i p d l))) g

  module _ (some : 0 < D) where
    all_good : (m : Mono n) → (c : ℕ → K) × Good' c m
    all_good = monos.mono_ind n (λ m. (c : ℕ → K) × Good' c m)
        (basis F 0, columns.good_inner F n G D (power n k) 0 some)
        (λ i p m x. go i p m x (ℕ_discrete i k))
      where
        go : (i : ℕ) → i < n → (m : Mono n) → (c : ℕ → K) × Good' c m → Dec (i ≡ k) → (c : ℕ → K) × Good' c (times n (var n i) m)
        go i p m x (yes e) = (apply F D by_k x.0, subst (λ (q : ℕ). Good' (apply F D by_k x.0) (times n (var n q) m)) (sym e) (times_k x.0 m x.1))
        go i p m x (no d) = (apply F D (λ j l. by_i i l j) x.0, times_i i p d x.0 m x.1)

    -- the coefficients of f as a polynomial in x_k alone
    pub reduced : Poly K n → ℕ → K
    reduced f j = ev F f (λ m. (all_good m).0 j)

    pub reduced_good : (f : Poly K n) → Congruent F n G f (alone F n k D (reduced f))
    unfolding reduced
    reduced_good f =
        congruence.from_mod F n G _ _
        (congruence.mod_resp F n G (λ w. refl)
        (λ w. sym (polys.ev_through F f (polys.combination_functional F (power n k) D w) (λ m. (all_good m).0)))
        (congruence.mod_sym F n G (congruence.mod_ev F n G f (λ m. (all_good m).1))))

-- two shaped bases of one ideal
module _ {K : Type 0} (F : Field K) (n k : ℕ) (kn : k < n) where
  open F use {neg}

  within_degree : (D D' : ℕ) (a b : ℕ → ℕ → K) → ((f : Poly K n) → Member F n (shaped F n k D' b n) f → Member F n (shaped F n k D a n) f) → D ≤ D'
  within_degree D D' a b h = degree_from F n k _ D (companion.shaped_free F n k D kn a) D' (monic_alone F n k _ D' (b k) (h (monic F n k D' (b k)) (monic_in F n k D' kn b)))

  rows_equal : (D : ℕ) (a b : ℕ → ℕ → K) → ((f : Poly K n) → Member F n (shaped F n k D b n) f → Member F n (shaped F n k D a n) f) → (i l : ℕ) → i < n → l < D → a i l ≡ b i l
  rows_equal D a b h i l p q = go (ℕ_discrete i k)
    where
      G : List (Poly K n)
      G = shaped F n k D a n

      once : (x y : ℕ → K) (m : Mono n) → columns.Good F n G D (power n k) x m → columns.Good F n G D (power n k) y m → x l ≡ y l
      once x y m g h = field.equal_of_minus F _ _ (companion.shaped_free F n k D kn a _ (columns.same_member F n G D (power n k) x y g h) l q)

      go : Dec (i ≡ k) → a i l ≡ b i l
      go (yes z) =
          rw z
          (sym (field.neg_neg F (a k l))
          ∙ ap neg (once (λ j. neg (a k j)) (λ j. neg (b k j)) (power n k D) (good_monic F n k G D (a k) (monic_in F n k D kn a)) (good_monic F n k G D (b k) (h (monic F n k D (b k)) (monic_in F n k D kn b))))
          ∙ field.neg_neg F (b k l))
      go (no d) = once (a i) (b i) (var n i) (good_solved F n k G D i (a i) (solved_in F n k D kn a i p d)) (good_solved F n k G D i (b i) (h (solved F n k D i (b i)) (solved_in F n k D kn b i p d)))

  pub shapes_equal : (D D' : ℕ) (a b : ℕ → ℕ → K) → SameIdeal F n (shaped F n k D a n) (shaped F n k D' b n) → (D ≡ D') × ((i l : ℕ) → i < n → l < D → a i l ≡ b i l)
  shapes_equal D D' a b same = (is, rows_equal D a b (subst (λ (d : ℕ). (f : Poly K n) → Member F n (shaped F n k d b n) f → Member F n (shaped F n k D a n) f) (sym is) (λ f. (same f).1)))
    where
      is : D ≡ D'
      is = omega (arith, within_degree D D' a b (λ f. (same f).1), within_degree D' D b a (λ f. (same f).0))
