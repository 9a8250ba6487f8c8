-- Congruence modulo an ideal, of functionals: it is kept by sums, multiples and products with a monomial.
use Rattle.std.proofs.Common.{◌≡◌, ℕ, zero, suc, ◌<◌, List, [], ◌∷◌, sym, ap, ◌∙◌, ap₂, arith}
use Rattle.algebra.specs.Field.{Field}
use Rattle.algebra.specs.Vector.{sum}
use Rattle.algebra.specs.Monomial.{Mono, times}
use Rattle.algebra.specs.Polynomial.{Poly, ev}
use Rattle.algebra.specs.Ideal.{Congruent}
use Rattle.algebra.proofs.Laws as field
use Rattle.algebra.proofs.Polynomials as polys
use Rattle.algebra.proofs.Ideals as ideals

module _ {K : Type 0} (F : Field K) (n : ℕ) (L : List (Poly K n)) where
  open F use {zer, one, ◌⊕◌, ◌⊗◌, neg, add_comm, distrib}

  infixl 65 ◌⊕◌
  infixl 70 ◌⊗◌
  -- the functionals φ and ψ differ by a member
  abbrev pub Mod : ((Mono n → K) → K) → ((Mono n → K) → K) → Type 0
  Mod φ ψ = ideals.In F n L (λ w. φ w ⊕ neg one ⊗ ψ w)

  pub to_mod : (f g : Poly K n) → Congruent F n L f g → Mod (ev F f) (ev F g)
  to_mod f g c = ideals.in-resp F n L (λ w. sym (polys.ev_minus F n f g w)) (ideals.to_in F n L _ c)

  pub from_mod : (f g : Poly K n) → Mod (ev F f) (ev F g) → Congruent F n L f g
  from_mod f g c = ideals.from_in F n L _ (ideals.in-resp F n L (polys.ev_minus F n f g) c)

  pub mod_resp : {φ ψ φ' ψ' : (Mono n → K) → K} → ((w : Mono n → K) → φ' w ≡ φ w) → ((w : Mono n → K) → ψ' w ≡ ψ w) → Mod φ ψ → Mod φ' ψ'
  mod_resp e d = ideals.in-resp F n L (λ w. ap₂ (λ x y. x ⊕ neg one ⊗ y) (e w) (d w))

  pub mod_refl : {φ : (Mono n → K) → K} → Mod φ φ
  mod_refl {φ} = ideals.in-resp F n L (λ w. field.minus_self F (φ w)) (ideals.in-zero F n L)

  pub mod_trans : {φ ψ χ : (Mono n → K) → K} → Mod φ ψ → Mod ψ χ → Mod φ χ
  mod_trans a b = ideals.in-resp F n L (λ w. sym (field.telescope F _ _ _)) (ideals.in-add F n L a b)

  pub mod_sym : {φ ψ : (Mono n → K) → K} → Mod φ ψ → Mod ψ φ
  mod_sym {φ} {ψ} a = ideals.in-resp F n L (λ w. sym (distrib (neg one) (φ w) (neg one ⊗ ψ w) ∙ ap (λ x. neg one ⊗ φ w ⊕ x) (field.minus_minus F (ψ w)) ∙ add_comm _ _)) (ideals.in-scale F n L (neg one) a)

  pub mod_shift : {φ ψ : (Mono n → K) → K} (a : Mono n) → Mod φ ψ → Mod (λ w. φ (λ b. w (times n a b))) (λ w. ψ (λ b. w (times n a b)))
  mod_shift a m = ideals.in-resp F n L (λ w. sym (field.one_mul F _)) (ideals.in-term F n L one a m)

  pub mod_zero : Mod (λ w. zer) (λ w. zer)
  mod_zero = mod_refl {φ = λ w. zer}

  pub mod_add : {φ ψ φ' ψ' : (Mono n → K) → K} → Mod φ ψ → Mod φ' ψ' → Mod (λ w. φ w ⊕ φ' w) (λ w. ψ w ⊕ ψ' w)
  mod_add {φ} {ψ} {φ'} {ψ'} a b = ideals.in-resp F n L (λ w. ap (λ x. φ w ⊕ φ' w ⊕ x) (distrib _ _ _) ∙ field.add_swap F _ _ _ _) (ideals.in-add F n L a b)

  pub mod_scale : {φ ψ : (Mono n → K) → K} (c : K) → Mod φ ψ → Mod (λ w. c ⊗ φ w) (λ w. c ⊗ ψ w)
  mod_scale {φ} c a = ideals.in-resp F n L (λ w. ap (λ x. c ⊗ φ w ⊕ x) (field.mul_left_comm F _ _ _) ∙ sym (distrib _ _ _)) (ideals.in-scale F n L c a)

  pub mod_sum : (d : ℕ) {φ ψ : ℕ → (Mono n → K) → K} → ((i : ℕ) → i < d → Mod (φ i) (ψ i)) → Mod (λ w. sum F d (λ i. φ i w)) (λ w. sum F d (λ i. ψ i w))
  mod_sum zero h = mod_zero
  mod_sum (suc d) h = mod_add (mod_sum d (λ i p. h i (omega arith))) (h d (omega arith))

  pub mod_ev : {A : Type 0} (p : List (K × A)) {φ ψ : A → (Mono n → K) → K} → ((a : A) → Mod (φ a) (ψ a)) → Mod (λ w. ev F p (λ a. φ a w)) (λ w. ev F p (λ a. ψ a w))
  mod_ev [] h = mod_zero
  mod_ev (t ∷ p) h = mod_add (mod_scale t.0 (h t.1)) (mod_ev p h)
