-- Lists of monomials, read by index from 0.
--   listed l k          the monomial at index k of the list l
--   first n p           the least number below n of which p holds
--   or_else a b         the answer a, or b where a is none
--   unfalling cmp l     the least index whose monomial is not less than the one before it
use Rattle.std.specs.Prelude.{ℕ, zero, suc, ◌-◌, Bool, cond, not, ◌&&◌, List, length, Some, None, Option, nat_lt, slice_index_or}
use Rattle.std.specs.Ordering.{is_lt}
use Rattle.order.specs.declared.monomial.Monomial.{Monomial}
use Rattle.order.specs.Monomials.{one}
use Rattle.order.specs.Laws.{Comparison}

abbrev pub listed : List Monomial → ℕ → Monomial
listed l k = slice_index_or l k one

abbrev pub or_else : Option ℕ → Option ℕ → Option ℕ
or_else (Some k) o = Some k
or_else None o = o

abbrev pub first : ℕ → (ℕ → Bool) → Option ℕ
first zero p = None
first (suc n) p = or_else (first n p) (cond (p n) (Some n) None)

abbrev pub unfalling : Comparison → List Monomial → Option ℕ
unfalling cmp l = first (length l) (λ k. nat_lt 0 k && not (is_lt (cmp (listed l k) (listed l (k - 1)))))
