-- The comparison at the highest and at the lowest place where two runs of numbers differ.
use Rattle.std.specs.Prelude.{◌≡◌, ℕ, zero, suc, ◌+◌, ◌-◌, ◌<◌, ◌≢◌, ◌⊎◌, refl}
use Rattle.std.specs.declared.cmp.Ordering.TheVariants.{Less, Equal, Greater}
use Rattle.std.specs.declared.cmp.Ordering.{Ordering}
use Rattle.std.proofs.Common.{sym, ◌∙◌, ap, ap₂, subst, inl, inr, add-one, arith}
use Rattle.std.proofs.Math.Decide.{ℕ_discrete}
use Rattle.std.specs.Ordering.{ordering_then}
use Rattle.order.specs.Orders.{number, highest, lowest}
use Rattle.order.specs.Numbers.{number_same, number_equal, number_less, number_lt, then_equal, then_less, Ranking, ranked_number, ranked_never, ranked_then}

module _ {A : Type 0} (f : A → ℕ → ℕ) where
  pub ranked_highest : (n : ℕ) → Ranking (λ x y. highest n (f x) (f y))
  unfolding highest
  ranked_highest zero = ranked_never
  ranked_highest (suc n) = ranked_then (ranked_number (λ x. f x n)) (ranked_highest n)

  pub ranked_lowest : (n : ℕ) → Ranking (λ x y. lowest n (f x) (f y))
  unfolding lowest
  ranked_lowest zero = ranked_never
  ranked_lowest (suc n) = ranked_then (ranked_lowest n) (ranked_number (λ x. f x n))

-- ---- no difference

pub highest_equal : (n : ℕ) (f g : ℕ → ℕ) → highest n f g ≡ Equal → (k : ℕ) → k < n → f k ≡ g k
unfolding highest
highest_equal zero f g h k l = absurd (omega arith)
highest_equal (suc n) f g h k l = go (ℕ_discrete k n) (then_equal _ _ h) (highest_equal n f g)
  where
    go : Dec (k ≡ n) → (number (f n) (g n) ≡ Equal) × (highest n f g ≡ Equal) → (highest n f g ≡ Equal → (k : ℕ) → k < n → f k ≡ g k) → f k ≡ g k
    go (yes e) t ih = ap f e ∙ number_equal (f n) (g n) t.0 ∙ sym (ap g e)
    go (no d) t ih = ih t.1 k (omega arith)

pub lowest_equal : (n : ℕ) (f g : ℕ → ℕ) → lowest n f g ≡ Equal → (k : ℕ) → k < n → f k ≡ g k
unfolding lowest
lowest_equal zero f g h k l = absurd (omega arith)
lowest_equal (suc n) f g h k l = go (ℕ_discrete k n) (then_equal _ _ h) (lowest_equal n f g)
  where
    go : Dec (k ≡ n) → (lowest n f g ≡ Equal) × (number (f n) (g n) ≡ Equal) → (lowest n f g ≡ Equal → (k : ℕ) → k < n → f k ≡ g k) → f k ≡ g k
    go (yes e) t ih = ap f e ∙ number_equal (f n) (g n) t.1 ∙ sym (ap g e)
    go (no d) t ih = ih t.0 k (omega arith)

-- ---- only the comparisons at each place count

pub highest_like : (n : ℕ) (f g f' g' : ℕ → ℕ) → ((k : ℕ) → k < n → number (f k) (g k) ≡ number (f' k) (g' k)) → highest n f g ≡ highest n f' g'
unfolding highest
highest_like zero f g f' g' h = refl
highest_like (suc n) f g f' g' h = ap₂ ordering_then (h n (omega arith)) (highest_like n f g f' g' (λ k l. h k (omega arith)))

pub lowest_like : (n : ℕ) (f g f' g' : ℕ → ℕ) → ((k : ℕ) → k < n → number (f k) (g k) ≡ number (f' k) (g' k)) → lowest n f g ≡ lowest n f' g'
unfolding lowest
lowest_like zero f g f' g' h = refl
lowest_like (suc n) f g f' g' h = ap₂ ordering_then (lowest_like n f g f' g' (λ k l. h k (omega arith))) (h n (omega arith))

-- ---- one place more, from the highest down and from the lowest up

then_settled : (o r : Ordering) → o ≢ Equal → ordering_then o r ≡ o
then_settled Less r d = refl
then_settled Equal r d = absurd (d refl)
then_settled Greater r d = refl

highest_top : (n : ℕ) (f g : ℕ → ℕ) → 0 < n → highest n f g ≡ ordering_then (number (f (n - 1)) (g (n - 1))) (highest (n - 1) f g)
unfolding highest
highest_top zero f g h = absurd (omega arith)
highest_top (suc n) f g h =
    ap (λ (k : ℕ). ordering_then (number (f k) (g k)) (highest k f g)) (let e : n ≡ suc n - 1 = omega arith in e)

-- at n - 1, the place that is read next, x and y stand
pub highest_settled : (n : ℕ) (f g : ℕ → ℕ) → 0 < n → (x y : ℕ) → x ≡ f (n - 1) → y ≡ g (n - 1) → (o : Ordering) → number x y ≡ o → o ≢ Equal → highest n f g ≡ o
highest_settled n f g h x y p q o e d =
    highest_top n f g h ∙ ap (λ r. ordering_then r (highest (n - 1) f g)) (ap₂ number (sym p) (sym q) ∙ e) ∙ then_settled o (highest (n - 1) f g) d

pub highest_alike : (n : ℕ) (f g : ℕ → ℕ) → 0 < n → f (n - 1) ≡ g (n - 1) → highest n f g ≡ highest (n - 1) f g
highest_alike n f g h e = highest_top n f g h ∙ ap (λ r. ordering_then r (highest (n - 1) f g)) (number_same (f (n - 1)) (g (n - 1)) e)

pub lowest_same : (n : ℕ) (f g : ℕ → ℕ) → ((k : ℕ) → k < n → f k ≡ g k) → lowest n f g ≡ Equal
unfolding lowest
lowest_same zero f g h = refl
lowest_same (suc n) f g h = ap₂ ordering_then (lowest_same n f g (λ k l. h k (omega arith))) (number_same (f n) (g n) (h n (omega arith)))

pub lowest_alike : (n : ℕ) (f g : ℕ → ℕ) → lowest n f g ≡ Equal → f n ≡ g n → lowest (n + 1) f g ≡ Equal
unfolding lowest
lowest_alike n f g h e = ap (λ (k : ℕ). lowest k f g) (add-one n) ∙ ap₂ ordering_then h (number_same (f n) (g n) e)

-- the first difference settles it
pub lowest_at : (n k : ℕ) (f g : ℕ → ℕ) → k < n → lowest k f g ≡ Equal → number (f k) (g k) ≢ Equal → lowest n f g ≡ number (f k) (g k)
unfolding lowest
lowest_at zero k f g l h d = absurd (omega arith)
lowest_at (suc n) k f g l h d = go (ℕ_discrete k n) (λ q. lowest_at n k f g q h d)
  where
    go : Dec (k ≡ n) → (k < n → lowest n f g ≡ number (f k) (g k)) → ordering_then (lowest n f g) (number (f n) (g n)) ≡ number (f k) (g k)
    go (yes q) ih = ap₂ ordering_then (sym (ap (λ (j : ℕ). lowest j f g) q) ∙ h) (sym (ap (λ (j : ℕ). number (f j) (g j)) q))
    go (no q) ih = ap (λ r. ordering_then r (number (f n) (g n))) (ih (omega arith)) ∙ then_settled (number (f k) (g k)) (number (f n) (g n)) d

-- at k, the place that is read next, x and y stand
pub lowest_settled : (n k : ℕ) (f g : ℕ → ℕ) → k < n → lowest k f g ≡ Equal → (x y : ℕ) → x ≡ f k → y ≡ g k → (o : Ordering) → number x y ≡ o → o ≢ Equal → lowest n f g ≡ o
lowest_settled n k f g l h x y p q o e d = let t = ap₂ number (sym p) (sym q) ∙ e in lowest_at n k f g l h (λ r. d (sym t ∙ r)) ∙ t

-- ---- less, in the words of a relation

pub less_settled : Less ≢ Equal
less_settled e = grind arith

pub greater_settled : Greater ≢ Equal
greater_settled e = grind arith

pub lowest_less_to : (n : ℕ) (f g : ℕ → ℕ) → lowest n f g ≡ Less → (k : ℕ) × (k < n) × (f k < g k) × ((j : ℕ) → j < k → f j ≡ g j)
unfolding lowest
lowest_less_to zero f g h = absurd (grind arith)
lowest_less_to (suc n) f g h = go (then_less _ _ h) (lowest_less_to n f g)
  where
    go : (lowest n f g ≡ Less) ⊎ ((lowest n f g ≡ Equal) × (number (f n) (g n) ≡ Less)) → (lowest n f g ≡ Less → (k : ℕ) × (k < n) × (f k < g k) × ((j : ℕ) → j < k → f j ≡ g j)) → (k : ℕ) × (k < suc n) × (f k < g k) × ((j : ℕ) → j < k → f j ≡ g j)
    go (inl e) ih = let t = ih e in (t.0, omega (arith, t.1), t.2, t.3)
    go (inr e) ih = (n, omega arith, number_less (f n) (g n) e.1, lowest_equal n f g e.0)

pub lowest_less_from : (n : ℕ) (f g : ℕ → ℕ) (k : ℕ) → k < n → f k < g k → ((j : ℕ) → j < k → f j ≡ g j) → lowest n f g ≡ Less
lowest_less_from n f g k l h e = lowest_settled n k f g l (lowest_same k f g e) (f k) (g k) refl refl Less (number_lt (f k) (g k) h) less_settled

pub highest_less_to : (n : ℕ) (f g : ℕ → ℕ) → highest n f g ≡ Less → (k : ℕ) × (k < n) × (f k < g k) × ((j : ℕ) → k < j → j < n → f j ≡ g j)
unfolding highest
highest_less_to zero f g h = absurd (grind arith)
highest_less_to (suc n) f g h = go (then_less _ _ h) (highest_less_to n f g)
  where
    upto : (k : ℕ) → f n ≡ g n → ((j : ℕ) → k < j → j < n → f j ≡ g j) → (j : ℕ) → k < j → j < suc n → f j ≡ g j
    upto k e t j p q = elim (ℕ_discrete j n) [ yes d ↦ ap f d ∙ e ∙ sym (ap g d) | no d ↦ t j p (omega arith) ]

    go : (number (f n) (g n) ≡ Less) ⊎ ((number (f n) (g n) ≡ Equal) × (highest n f g ≡ Less)) → (highest n f g ≡ Less → (k : ℕ) × (k < n) × (f k < g k) × ((j : ℕ) → k < j → j < n → f j ≡ g j)) → (k : ℕ) × (k < suc n) × (f k < g k) × ((j : ℕ) → k < j → j < suc n → f j ≡ g j)
    go (inl e) ih = (n, omega arith, number_less (f n) (g n) e, λ j p q. absurd (omega arith))
    go (inr e) ih = let t = ih e.1 in (t.0, omega (arith, t.1), t.2, upto t.0 (number_equal (f n) (g n) e.0) t.3)

pub highest_less_from : (n : ℕ) (f g : ℕ → ℕ) (k : ℕ) → k < n → f k < g k → ((j : ℕ) → k < j → j < n → f j ≡ g j) → highest n f g ≡ Less
unfolding highest
highest_less_from zero f g k l h e = absurd (omega arith)
highest_less_from (suc n) f g k l h e = go (ℕ_discrete k n) (λ q. highest_less_from n f g k q h (λ j p r. e j p (omega arith)))
  where
    go : Dec (k ≡ n) → (k < n → highest n f g ≡ Less) → ordering_then (number (f n) (g n)) (highest n f g) ≡ Less
    go (yes q) ih = ap (λ o. ordering_then o (highest n f g)) (number_lt (f n) (g n) (subst (λ (j : ℕ). f j < g j) q h))
    go (no q) ih = ap₂ ordering_then (number_same (f n) (g n) (e n (omega arith) (omega arith))) (ih (omega arith))
