-- Vectors congruent to monomials: unit vectors to the monomials of a family, the opposite of a rest to its leading monomial,
-- and a matrix at a vector to a variable times what the vector stands for.
use Rattle.std.proofs.Common.{◌≡◌, ℕ, ◌<◌, ◌⊎◌, List, ◌∷◌, sym, refl, ap, ◌∙◌, subst, ap₂, inl, inr}
use mathlib.Core.Path.{fun_ext}
use Rattle.algebra.specs.Field.{Field}
use Rattle.algebra.specs.Vector.{sum, basis, apply}
use Rattle.algebra.specs.Monomial.{Mono, times}
use Rattle.algebra.specs.Polynomial.{Poly, ev, combination}
use Rattle.algebra.specs.Ideal.{Member, Congruent}
use Rattle.algebra.proofs.Laws as field
use Rattle.algebra.proofs.Sums as sums
use Rattle.algebra.proofs.Maps as maps
use Rattle.algebra.proofs.Polynomials as polys
use Rattle.algebra.proofs.Ideals as ideals
use Rattle.algebra.proofs.Congruence as congruence

module _ {K : Type 0} (F : Field K) (n : ℕ) (L : List (Poly K n)) (D : ℕ) (s : ℕ → Mono n) where
  open F use {zer, one, ◌⊕◌, ◌⊗◌, neg, add_comm, add_zero, mul_comm, distrib}

  infixl 65 ◌⊕◌
  infixl 70 ◌⊗◌
  -- the combination of s 0 .. s (D - 1) by c is congruent to m
  abbrev pub Good : (ℕ → K) → Mono n → Type 0
  Good c m = congruence.Mod F n L (ev F (combination D s c)) (λ w. w m)

  pub good_ext : (a b : ℕ → K) (m : Mono n) → ((i : ℕ) → i < D → a i ≡ b i) → Good a m → Good b m
  good_ext a b m e g = subst (λ (p : Poly K n). congruence.Mod F n L (ev F p) (λ w. w m)) (polys.combination_ext F s D a b e) g

  ev_basis : (r : ℕ) → r < D → (w : Mono n → K) → ev F (combination D s (basis F r)) w ≡ w (s r)
  ev_basis r p w = polys.ev_combination F s D (basis F r) w ∙ ap (sum F D) (fun_ext (λ i. mul_comm _ _)) ∙ sums.sum_basis F D r (λ i. w (s i)) p

  -- a monomial of the family
  pub good_inner : (r : ℕ) → r < D → Good (basis F r) (s r)
  good_inner r p = congruence.mod_resp F n L (ev_basis r p) (λ w. refl) (congruence.mod_refl F n L)

  -- a monomial that leads a member whose rest is a combination
  pub good_member : (c : ℕ → K) (m : Mono n) → Member F n L ((one, m) ∷ combination D s (λ j. neg (c j))) → Good c m
  good_member c m i =
      ideals.in-resp F n L
      (λ w.
      sym
      (ap (λ x. neg one ⊗ x)
      (ap₂ (λ x y. x ⊕ y) (field.one_mul F _)
      (ap (λ (f : ℕ → K). ev F (combination D s f) w) (fun_ext (λ j. field.neg_is F (c j))) ∙ (polys.combination_functional F s D w).scale (neg one) c))
      ∙ distrib _ _ _
      ∙ ap (λ x. neg one ⊗ w m ⊕ x) (field.minus_minus F _)
      ∙ add_comm _ _))
      (ideals.in-scale F n L (neg one) (ideals.to_in F n L ((one, m) ∷ combination D s (λ j. neg (c j))) i))

  dead : {a : K} → a ≡ zer → (b : K) → a ⊗ b ≡ zer
  dead e b = ap (λ y. y ⊗ b) e ∙ field.zero_mul F b

  -- x times a vector, where the columns that it uses are good
  pub sound : (x : Mono n) (A : ℕ → ℕ → K) (v : ℕ → K) → ((i : ℕ) → i < D → (v i ≡ zer) ⊎ Good (λ j. A j i) (times n x (s i)))
      → congruence.Mod F n L (ev F (combination D s (apply F D A v))) (λ w. ev F (combination D s v) (λ b. w (times n x b)))
  sound x A v h =
      congruence.mod_resp F n L
      (λ w. maps.apply_columns F D A v (polys.combination_functional F s D w))
      (λ w. polys.ev_combination F s D v (λ b. w (times n x b)))
      (congruence.mod_sum F n L D (λ i p. go i (h i p)))
    where
      go : (i : ℕ) → (v i ≡ zer) ⊎ Good (λ j. A j i) (times n x (s i)) → congruence.Mod F n L (λ w. v i ⊗ ev F (combination D s (λ j. A j i)) w) (λ w. v i ⊗ w (times n x (s i)))
      go i (inl e) = congruence.mod_resp F n L (λ w. dead e (ev F (combination D s (λ j. A j i)) w)) (λ w. dead e (w (times n x (s i)))) (congruence.mod_zero F n L)
      go i (inr g) = congruence.mod_scale F n L (v i) g

  pub good_times : (x : Mono n) (A : ℕ → ℕ → K) (c : ℕ → K) (m : Mono n) → ((i : ℕ) → i < D → (c i ≡ zer) ⊎ Good (λ j. A j i) (times n x (s i))) → Good c m → Good (apply F D A c) (times n x m)
  good_times x A c m h g = congruence.mod_trans F n L (sound x A c h) (congruence.mod_shift F n L x g)

  -- only zero combines the family to a member
  abbrev pub Free : Type 0
  Free = (v : ℕ → K) → Member F n L (combination D s v) → (i : ℕ) → i < D → v i ≡ zer

  -- two vectors congruent to one functional differ by a member
  pub same_member : (a b : ℕ → K) {φ : (Mono n → K) → K} → congruence.Mod F n L (ev F (combination D s a)) φ → congruence.Mod F n L (ev F (combination D s b)) φ → Member F n L (combination D s (λ i. a i ⊕ neg one ⊗ b i))
  same_member a b g h = ideals.from_in F n L _ (ideals.in-resp F n L (polys.combination_minus F s D a b) (congruence.mod_trans F n L g (congruence.mod_sym F n L h)))

  -- a polynomial congruent to the combination zero is a member
  pub member_zero : (p : Poly K n) (v : ℕ → K) → ((i : ℕ) → i < D → v i ≡ zer) → Congruent F n L p (combination D s v) → Member F n L p
  member_zero p v z c =
      ideals.from_in F n L p
      (ideals.in-resp F n L
      (λ w. sym (ap (λ x. ev F p w ⊕ neg one ⊗ x) (polys.combination_zero F s D v z w) ∙ ap (λ x. ev F p w ⊕ x) (field.mul_zero F _) ∙ add_zero _))
      (congruence.to_mod F n L p (combination D s v) c))

  -- the combination of a member is one
  pub member_combination : (p : Poly K n) (v : ℕ → K) → Congruent F n L p (combination D s v) → Member F n L p → Member F n L (combination D s v)
  member_combination p v c m =
      ideals.from_in F n L _
      (ideals.in-resp F n L
      (λ w. sym (ap (λ x. ev F p w ⊕ neg one ⊗ x) (polys.ev_minus F n p (combination D s v) w) ∙ ap (λ x. ev F p w ⊕ x) (distrib _ _ _ ∙ ap (λ x. neg one ⊗ ev F p w ⊕ x) (field.minus_minus F _)) ∙ field.add_neg_one F _ _))
      (ideals.in-add F n L (ideals.to_in F n L p m) (ideals.in-scale F n L (neg one) (ideals.to_in F n L _ c))))
