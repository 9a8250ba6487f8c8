-- How numbers compare, and comparisons one after the other.
use Rattle.std.specs.Prelude.{◌≡◌, ℕ, ◌+◌, ◌<◌, ◌⊎◌, refl}
use Rattle.std.specs.declared.cmp.Ordering.TheVariants.{Less, Equal, Greater}
use Rattle.std.specs.declared.cmp.Ordering.{Ordering}
use Rattle.std.proofs.Common.{sym, ◌∙◌, ap, ap₂, inl, inr, arith}
use Rattle.std.proofs.lemmas.Bool.Decides.{nat_tests}
use Rattle.std.specs.Cmp.{then_flip}
use Rattle.std.specs.Ordering.{ordering_reverse, ordering_then, nat_cmp}
use Rattle.order.specs.Orders.{number}

pub number_self : (x : ℕ) → number x x ≡ Equal
number_self x = grind (arith, nat_tests)

pub number_equal : (x y : ℕ) → number x y ≡ Equal → x ≡ y
number_equal x y h = grind (arith, nat_tests)

pub number_same : (x y : ℕ) → x ≡ y → number x y ≡ Equal
number_same x y h = grind (arith, nat_tests)

pub number_less : (x y : ℕ) → number x y ≡ Less → x < y
number_less x y h = grind (arith, nat_tests)

pub number_lt : (x y : ℕ) → x < y → number x y ≡ Less
number_lt x y h = grind (arith, nat_tests)

pub number_gt : (x y : ℕ) → y < x → number x y ≡ Greater
number_gt x y h = grind (arith, nat_tests)

pub number_cmp : (x y : ℕ) → number x y ≡ nat_cmp x y
number_cmp x y = grind (arith, nat_tests)

pub number_exchanged : (x y : ℕ) → number y x ≡ ordering_reverse (number x y)
number_exchanged x y = grind (arith, nat_tests)

pub number_shifted : (d x y : ℕ) → number (d + x) (d + y) ≡ number x y
number_shifted d x y = grind (arith, nat_tests)

pub then_equal : (a b : Ordering) → ordering_then a b ≡ Equal → (a ≡ Equal) × (b ≡ Equal)
then_equal Less b h = (h, absurd (grind arith))
then_equal Equal b h = (refl, h)
then_equal Greater b h = (h, absurd (grind arith))

pub then_less : (a b : Ordering) → ordering_then a b ≡ Less → (a ≡ Less) ⊎ ((a ≡ Equal) × (b ≡ Less))
then_less Less b h = inl refl
then_less Equal b h = inr (refl, h)
then_less Greater b h = absurd (grind arith)

-- ---- a comparison in which ties are alike, and two of them one after the other

pub record Ranking {A : Type 0} (c : A → A → Ordering) : Type 0 where
  pub self : (x : A) → c x x ≡ Equal
  pub exchanged : (x y : A) → c y x ≡ ordering_reverse (c x y)
  pub tied : (x y z : A) → c x y ≡ Equal → c x z ≡ c y z
  pub transitive : (x y z : A) → c x y ≡ Less → c y z ≡ Less → c x z ≡ Less

pub ranked_number : {A : Type 0} (f : A → ℕ) → Ranking (λ x y. number (f x) (f y))
ranked_number f = record {
  self = λ x. number_self (f x);
  exchanged = λ x y. number_exchanged (f x) (f y);
  tied = λ x y z h. ap (λ n. number n (f z)) (number_equal (f x) (f y) h);
  transitive = λ x y z h g. number_lt (f x) (f z) (omega (arith, number_less (f x) (f y) h, number_less (f y) (f z) g));
}

pub ranked_never : {A : Type 0} → Ranking {A = A} (λ x y. Equal)
ranked_never = record { self = λ x. refl; exchanged = λ x y. refl; tied = λ x y z h. refl; transitive = λ x y z h g. h }

module _ {A : Type 0} {c d : A → A → Ordering} (C : Ranking c) (D : Ranking d) where
  tied_right : (x y z : A) → c y z ≡ Equal → c x z ≡ c x y
  tied_right x y z h = C.exchanged z x ∙ ap ordering_reverse (sym (C.tied y z x h)) ∙ sym (C.exchanged y x)

  pub ranked_then : Ranking (λ x y. ordering_then (c x y) (d x y))
  ranked_then = record {
    self = λ x. ap₂ ordering_then (C.self x) (D.self x);
    exchanged = λ x y. ap₂ ordering_then (C.exchanged x y) (D.exchanged x y) ∙ then_flip (c x y) (d x y);
    tied = λ x y z h. let t = then_equal (c x y) (d x y) h in ap₂ ordering_then (C.tied x y z t.0) (D.tied x y z t.1);
    transitive = λ x y z h g. go x y z (then_less (c x y) (d x y) h) (then_less (c y z) (d y z) g);
  }
    where
      go : (x y z : A) → (c x y ≡ Less) ⊎ ((c x y ≡ Equal) × (d x y ≡ Less)) → (c y z ≡ Less) ⊎ ((c y z ≡ Equal) × (d y z ≡ Less)) → ordering_then (c x z) (d x z) ≡ Less
      go x y z (inl h) (inl g) = ap (λ o. ordering_then o (d x z)) (C.transitive x y z h g)
      go x y z (inl h) (inr g) = ap (λ o. ordering_then o (d x z)) (tied_right x y z g.0 ∙ h)
      go x y z (inr h) (inl g) = ap (λ o. ordering_then o (d x z)) (C.tied x y z h.0 ∙ g)
      go x y z (inr h) (inr g) = ap₂ ordering_then (C.tied x y z h.0 ∙ g.0) (D.transitive x y z h.1 g.1)
