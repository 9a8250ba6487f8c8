-- A test of every number below n, as the library's `all` answers it over the range.
use Rattle.std.specs.Prelude.{◌≡◌, ℕ, zero, suc, ◌+◌, Bool, true, false, ◌&&◌, List, Option, MatchOption}
use Rattle.std.specs.declared.ops.Range.{Range}
use Rattle.std.proofs.Common.{sym, ◌∙◌, ap, add-one, arith}
use Rattle.std.proofs.Math.Bool.{and_assoc, and-true}
use Rattle.std.specs.Fn.{Called}
use Rattle.std.specs.Iterator.{YieldsThen}
use Rattle.std.specs.List.{FoldsTo, list_all, range_with_len}
use Rattle.std.proofs.iter.Yields.{nat_range_steps}
use Rattle.std.proofs.lemmas.Iterator.{YieldsList-from_range}
use Rattle.std.proofs.lemmas.Iterator.Search.{all_from_yields_List}
use denote.Param.Members.{Mut}
use Rattle.order.specs.Monomials.{every}

from : (n a : ℕ) (p : ℕ → Bool) → (every a p && list_all p (range_with_len a n)) ≡ every (a + n) p
from zero a p = and-true (every a p) ∙ ap (λ (k : ℕ). every k p) (let e : a ≡ a + 0 = omega arith in e)
from (suc n) a p =
    sym (and_assoc (every a p) (p a) (list_all p (range_with_len (a + 1) n)))
    ∙ ap (λ (k : ℕ). every k p && list_all p (range_with_len (a + 1) n)) (sym (add-one a))
    ∙ from n (a + 1) p ∙ ap (λ (k : ℕ). every k p) (let e : a + 1 + n ≡ a + suc n = omega arith in e)

over_range : (n : ℕ) (p : ℕ → Bool) → list_all p (range_with_len 0 n) ≡ every n p
over_range n p = from n 0 p ∙ ap (λ (k : ℕ). every k p) (let e : 0 + n ≡ n = omega arith in e)

pub all_below : {F : Type 0} {g : Mut F (ℕ × Unit {0}) Bool} {s : Range ℕ} (n : ℕ) (p : ℕ → Bool) (u : Range ℕ) (f : F) (r : Bool)
    → s ≡ record { start = 0; end = n }
    → (xs : List ℕ) × (o : Option ℕ) × (j : F) × YieldsThen nat_range_steps s xs o u × FoldsTo (λ i x q. Called g i (x, tt) true q) f xs j
    × MatchOption o (r ≡ true) (λ x. (r ≡ false) × ((h : F) × Called g j (x, tt) false h))
    → ((x : ℕ) (b : Bool) (q : F) → Called g f (x, tt) b q → (q ≡ f) × (b ≡ p x))
    → r ≡ every n p
all_below n p u f r e ran h = all_from_yields_List p u f r ran (YieldsList-from_range 0 n n e (omega arith)) h ∙ over_range n p
