-- Ideals: membership by functionals, closure of the members, and functionals that kill the generators.
use Rattle.std.proofs.Common.{◌≡◌, ℕ, zero, suc, ◌<◌, List, [], ◌∷◌, ◌++◌, length, get_or, sym, refl, ap, ◌∙◌, ap₂, arith}
use mathlib.Core.Path.{fun_ext}
use Rattle.std.specs.List.{AllByRecursion}
use Rattle.algebra.specs.Field.{Field}
use Rattle.algebra.specs.Monomial.{Mono, times}
use Rattle.algebra.specs.Monomial as spec
use Rattle.algebra.specs.Polynomial.{Poly, ev, indicator, ◌≈◌, term_mul, mul}
use Rattle.algebra.specs.Ideal.{multiplied, Member}
use Rattle.algebra.proofs.Laws as field
use Rattle.algebra.proofs.Sums as sums
use Rattle.algebra.proofs.Monomials.{assoc, unit_left}
use Rattle.algebra.proofs.Polynomials as polys

module _ {K : Type 0} (F : Field K) where
  open F use {zer, one, ◌⊕◌, ◌⊗◌, add_zero, distrib}

  infixl 65 ◌⊕◌
  infixl 70 ◌⊗◌
  module _ (n : ℕ) where
    multiplied_cons : (l : Poly K n) (L : List (Poly K n)) (q : ℕ → Poly K n) (w : Mono n → K) → ev F (multiplied F n q (l ∷ L)) w ≡ ev F (q 0) (λ a. ev F l (λ b. w (times n a b))) ⊕ ev F (multiplied F n (λ i. q (suc i)) L) w
    multiplied_cons l L q w =
        polys.ev_append F (mul F n (q 0) l) (multiplied F n (λ i. q (suc i)) L) w
        ∙ ap (λ x. x ⊕ ev F (multiplied F n (λ i. q (suc i)) L) w) (polys.ev_mul F n (q 0) l w)

    kill : (L : List (Poly K n)) (w : Mono n → K) → AllByRecursion (λ l. (m : Mono n) → ev F l (λ b. w (times n m b)) ≡ zer) L → (q : ℕ → Poly K n) → ev F (multiplied F n q L) w ≡ zer
    kill [] w h q = refl
    kill (l ∷ L) w h q =
        multiplied_cons l L q w
        ∙ ap₂ (λ x y. x ⊕ y) (ap (ev F (q 0)) (fun_ext h.0) ∙ sums.functional_zero F (polys.ev_functional F (q 0))) (kill L w h.1 (λ i. q (suc i)))
        ∙ add_zero zer

    pub ideal_kill : (L : List (Poly K n)) (f : Poly K n) (w : Mono n → K) → AllByRecursion (λ l. (m : Mono n) → ev F l (λ b. w (times n m b)) ≡ zer) L → Member F n L f → ev F f w ≡ zer
    ideal_kill L f w h i = polys.same-value F n f (multiplied F n i.0 L) i.1 w ∙ kill L w h i.0

    -- the functional φ is the value of a member
    abbrev pub In : List (Poly K n) → ((Mono n → K) → K) → Type 0
    In L φ = (q : ℕ → Poly K n) × ((w : Mono n → K) → φ w ≡ ev F (multiplied F n q L) w)

    module _ (L : List (Poly K n)) where
      pub to_in : (f : Poly K n) → Member F n L f → In L (ev F f)
      to_in f i = (i.0, polys.same-value F n f (multiplied F n i.0 L) i.1)

      pub from_in : (f : Poly K n) → In L (ev F f) → Member F n L f
      from_in f i = (i.0, λ m. i.1 (indicator F n m))

      pub in-resp : {φ ψ : (Mono n → K) → K} → ((w : Mono n → K) → ψ w ≡ φ w) → In L φ → In L ψ
      in-resp e i = (i.0, λ w. e w ∙ i.1 w)

    multiplied_zero : (L : List (Poly K n)) (w : Mono n → K) → zer ≡ ev F (multiplied F n (λ i. []) L) w
    multiplied_zero [] w = refl
    multiplied_zero (l ∷ L) w = multiplied_zero L w

    multiplied_add : (L : List (Poly K n)) (q r : ℕ → Poly K n) (w : Mono n → K) → ev F (multiplied F n q L) w ⊕ ev F (multiplied F n r L) w ≡ ev F (multiplied F n (λ i. q i ++ r i) L) w
    multiplied_add [] q r w = add_zero zer
    multiplied_add (l ∷ L) q r w =
        ap₂ (λ x y. x ⊕ y) (multiplied_cons l L q w) (multiplied_cons l L r w)
        ∙ field.add_swap F _ _ _ _
        ∙ ap₂ (λ x y. x ⊕ y) (sym (polys.ev_append F (q 0) (r 0) _)) (multiplied_add L (λ i. q (suc i)) (λ i. r (suc i)) w)
        ∙ sym (multiplied_cons l L (λ i. q i ++ r i) w)

    multiplied_term : (L : List (Poly K n)) (c : K) (a : Mono n) (q : ℕ → Poly K n) (w : Mono n → K) → c ⊗ ev F (multiplied F n q L) (λ b. w (times n a b)) ≡ ev F (multiplied F n (λ i. term_mul F n c a (q i)) L) w
    multiplied_term [] c a q w = field.mul_zero F c
    multiplied_term (l ∷ L) c a q w =
        ap (λ x. c ⊗ x) (multiplied_cons l L q (λ b. w (times n a b)))
        ∙ distrib c _ _
        ∙ ap₂ (λ x y. x ⊕ y)
        (ap (λ (h : Mono n → Mono n → Mono n). c ⊗ ev F (q 0) (λ x. ev F l (λ y. w (h x y)))) (fun_ext (λ x. fun_ext (λ y. sym (assoc n a x y)))) ∙ sym (polys.ev_term F n c a (q 0) _))
        (multiplied_term L c a (λ i. q (suc i)) w)
        ∙ sym (multiplied_cons l L (λ i. term_mul F n c a (q i)) w)

    module _ (L : List (Poly K n)) where
      pub in-zero : In L (λ w. zer)
      in-zero = ((λ i. []), multiplied_zero L)

      pub in-add : {φ ψ : (Mono n → K) → K} → In L φ → In L ψ → In L (λ w. φ w ⊕ ψ w)
      in-add i j = ((λ k. i.0 k ++ j.0 k), λ w. ap₂ (λ x y. x ⊕ y) (i.1 w) (j.1 w) ∙ multiplied_add L i.0 j.0 w)

      -- c x^a times a member
      pub in-term : {φ : (Mono n → K) → K} (c : K) (a : Mono n) → In L φ → In L (λ w. c ⊗ φ (λ b. w (times n a b)))
      in-term c a i = ((λ k. term_mul F n c a (i.0 k)), λ w. ap (λ x. c ⊗ x) (i.1 (λ b. w (times n a b))) ∙ multiplied_term L c a i.0 w)

      pub in-scale : {φ : (Mono n → K) → K} (c : K) → In L φ → In L (λ w. c ⊗ φ w)
      in-scale {φ} c i = in-resp L (λ w. ap (λ (h : Mono n → Mono n). c ⊗ φ (λ b. w (h b))) (fun_ext (λ b. sym (unit_left n b)))) (in-term c (spec.one n) i)

    -- each generator is a member
    pub in_gen : (L : List (Poly K n)) (i : ℕ) → i < length L → In L (ev F (get_or L i []))
    in_gen [] i h = absurd (omega arith)
    in_gen (l ∷ L) zero h = (pick, λ w. sym (multiplied_cons l L pick w ∙ ap (λ x. ev F (pick 0) (λ a. ev F l (λ b. w (times n a b))) ⊕ x) (sym (multiplied_zero L w)) ∙ simp (add_zero, field.one_mul F, unit_left n)))
      where
        pick : ℕ → Poly K n
        pick zero = (one, spec.one n) ∷ []
        pick (suc i) = []
    in_gen (l ∷ L) (suc i) h = go (in_gen L i (omega arith))
      where
        later : (ℕ → Poly K n) → ℕ → Poly K n
        later q zero = []
        later q (suc i) = q i

        go : In L (ev F (get_or L i [])) → In (l ∷ L) (ev F (get_or L i []))
        go m = (later m.0, m.1)

    pub generator_member : (L : List (Poly K n)) (i : ℕ) → i < length L → (f : Poly K n) → ◌≈◌ F n (get_or L i []) f → Member F n L f
    generator_member L i h f e = from_in L f (in-resp L (λ w. sym (polys.same-value F n (get_or L i []) f e w)) (in_gen L i h))

    module _ (L : List (Poly K n)) where
      pub in-ev : {A : Type 0} (p : List (K × A)) {φ : A → (Mono n → K) → K} → ((a : A) → In L (φ a)) → In L (λ w. ev F p (λ a. φ a w))
      in-ev [] h = in-zero L
      in-ev (t ∷ p) h = in-add L (in-scale L t.0 (h t.1)) (in-ev p h)

      in_shift : {φ : (Mono n → K) → K} (a : Mono n) → In L φ → In L (λ w. φ (λ b. w (times n a b)))
      in_shift a i = in-resp L (λ w. sym (field.one_mul F _)) (in-term L F.one a i)

      -- r f is a member where f is
      pub ideal-mul : (r f : Poly K n) → Member F n L f → Member F n L (mul F n r f)
      ideal-mul r f i = from_in L (mul F n r f) (in-resp L (polys.ev_mul F n r f) (in-ev r (λ a. in_shift a (to_in L f i))))

      in-multiplied : (N : List (Poly K n)) → AllByRecursion (Member F n L) N → (q : ℕ → Poly K n) → In L (ev F (multiplied F n q N))
      in-multiplied [] h q = in-zero L
      in-multiplied (f ∷ N) h q =
          in-resp L (polys.ev_append F (mul F n (q 0) f) (multiplied F n (λ i. q (suc i)) N))
          (in-add L (to_in L _ (ideal-mul (q 0) f h.0)) (in-multiplied N h.1 (λ i. q (suc i))))

      -- generators that are members generate members
      pub ideal-within : (N : List (Poly K n)) → AllByRecursion (Member F n L) N → (f : Poly K n) → Member F n N f → Member F n L f
      ideal-within N h f i = let j = to_in N f i in from_in L f (in-resp L j.1 (in-multiplied N h j.0))
