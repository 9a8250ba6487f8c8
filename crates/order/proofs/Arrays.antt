-- Exponents in a list, the highest variable first or the lowest: the library's comparison of the lists is that of the orders.
use Rattle.std.specs.Prelude.{◌≡◌, ℕ, zero, suc, List, [], ◌∷◌, refl}
use Rattle.std.specs.declared.cmp.Ordering.TheVariants.{Less, Equal, Greater}
use Rattle.std.specs.declared.cmp.Ordering.{Ordering}
use Rattle.std.proofs.Common.{sym, ◌∙◌, ap, ap₂}
use Rattle.std.specs.Ordering.{ordering_then, nat_cmp}
use Rattle.std.specs.Cmp.Lexicographic.{slice_cmp}
use Rattle.order.specs.Orders.{highest, lowest}
use Rattle.order.specs.Numbers.{number_cmp}

abbrev pub down : ℕ → (ℕ → ℕ) → List ℕ
down zero f = []
down (suc n) f = f n ∷ down n f

-- the first n, before the rest
abbrev pub up : ℕ → (ℕ → ℕ) → List ℕ → List ℕ
up zero f xs = xs
up (suc n) f xs = up n f (f n ∷ xs)

pub down_highest : (n : ℕ) (f g : ℕ → ℕ) → slice_cmp nat_cmp (down n f) (down n g) ≡ highest n f g
unfolding highest
down_highest zero f g = refl
down_highest (suc n) f g = ap₂ ordering_then (sym (number_cmp (f n) (g n))) (down_highest n f g)

then_assoc : (p q r : Ordering) → ordering_then p (ordering_then q r) ≡ ordering_then (ordering_then p q) r
then_assoc Less q r = refl
then_assoc Equal q r = refl
then_assoc Greater q r = refl

up_before : (n : ℕ) (f g : ℕ → ℕ) (xs ys : List ℕ) → slice_cmp nat_cmp (up n f xs) (up n g ys) ≡ ordering_then (lowest n f g) (slice_cmp nat_cmp xs ys)
unfolding lowest
up_before zero f g xs ys = refl
up_before (suc n) f g xs ys =
    up_before n f g (f n ∷ xs) (g n ∷ ys)
    ∙ then_assoc (lowest n f g) (nat_cmp (f n) (g n)) (slice_cmp nat_cmp xs ys)
    ∙ ap (λ o. ordering_then (ordering_then (lowest n f g) o) (slice_cmp nat_cmp xs ys)) (sym (number_cmp (f n) (g n)))

then_end : (o : Ordering) → ordering_then o Equal ≡ o
then_end Less = refl
then_end Equal = refl
then_end Greater = refl

pub up_lowest : (n : ℕ) (f g : ℕ → ℕ) → slice_cmp nat_cmp (up n f []) (up n g []) ≡ lowest n f g
up_lowest n f g = up_before n f g [] [] ∙ then_end (lowest n f g)
