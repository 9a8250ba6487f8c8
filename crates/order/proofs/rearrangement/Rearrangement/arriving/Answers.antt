use Rattle.std.proofs.Common.{◌≡◌, ℕ, zero, suc, ◌+◌, ◌∙◌, ◌==◌, cond, ap, sym, add-one, refl, arith, rules, tests}
use Rattle.std.specs.List.{fold, range_with_len}
use Rattle.std.proofs.lemmas.Iterator.{YieldsList-from_range}
use Rattle.std.proofs.lemmas.Iterator.Consumers.{fold_from_yields_List}
use Rattle.order.specs.declared.monomial.Monomial.{Monomial}
use Rattle.order.specs.declared.rearrangement.Rearrangement.{Rearrangement}
use Rattle.order.specs.Monomials.{variables, exponent}
use Rattle.order.specs.Rearrangements.{arriving, place}
use Rattle.order.proofs.rearrangement.Rearrangement.arriving.Goals as goal

module _ (s : Rearrangement) (m : Monomial) (p : ℕ) where
  from : (n a : ℕ) → fold (λ e k. cond (place s k == p) (exponent m k) e) (arriving a s m p) (range_with_len a n) ≡ arriving (a + n) s m p
  unfolding arriving
  from zero a = ap (λ (k : ℕ). arriving k s m p) (let e : a ≡ a + 0 = omega arith in e)
  from (suc n) a =
      ap (λ (k : ℕ). fold (λ e k. cond (place s k == p) (exponent m k) e) (arriving k s m p) (range_with_len (a + 1) n)) (sym (add-one a))
      ∙ from n (a + 1) ∙ ap (λ (k : ℕ). arriving k s m p) (let e : a + 1 + n ≡ a + suc n = omega arith in e)

pub returns : goal.returns
unfolding arriving
returns c =
    let s = c.args.self in
    let m = c.args.m in
    let p = c.args.place in
    fold_from_yields_List _ (λ e k. cond (place s k == p) (exponent m k) e) 0 c.fold.result c.fold.ensures.ran (YieldsList-from_range 0 variables variables refl refl) (λ e k b q called. search (rules, tests))
    ∙ from s m p variables 0
