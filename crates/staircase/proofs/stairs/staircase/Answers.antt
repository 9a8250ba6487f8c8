use Rattle.std.proofs.Common.{◌≡◌, ℕ, ◌<◌, List, length, replicate, Ok, Err, Result, refl, ◌∙◌, arith}
use Rattle.std.specs.Prelude.{IsErrAnd, MatchResult}
use Rattle.std.proofs.lemmas.Result.{err_from_is_err_and}
use Rattle.order.specs.declared.monomial.Monomial.{Monomial}
use Rattle.order.specs.Monomials.{one, monomial}
use Rattle.order.specs.Laws.{Comparison}
use Rattle.staircase.specs.declared.stairs.StairsFault.{StairsFault}
use Rattle.staircase.specs.declared.stairs.StairsFault.TheVariants.{NoRoom, TooMany}
use Rattle.staircase.specs.Stairs.{stairs_of, StaircaseWritten}
use Rattle.staircase.proofs.stairs.staircase.Goals as goal

-- what the call over lent lists answered, from its answer with the fault mapped
module _ {D : Type 0} (post : StairsFault → D → Type 0) (s : Result ℕ D) where
  abbrev Mapped : Result ℕ StairsFault → Type 0
  Mapped r = MatchResult r (λ k. s ≡ Ok k) (λ e. IsErrAnd s (post e))

  written : (k : ℕ) (r : Result ℕ StairsFault) → Mapped r → s ≡ Ok k → r ≡ Ok k
  written k (Ok j) h e = let same : j ≡ k = cc in cc
  written k (Err f) h e = let p = err_from_is_err_and s h in absurd (cc)

  -- with room to work in, too many is the one refusal that is left
  too_many : (cmp : Comparison) (n : ℕ) (leads before after : List Monomial) (d : D) (r : Result ℕ StairsFault) → Mapped r → s ≡ Err d → StaircaseWritten cmp n leads before after r → (r ≡ Err NoRoom → ⊥) → length before < length (stairs_of cmp n leads)
  too_many cmp n leads before after d (Ok k) h e w never = absurd (cc)
  too_many cmp n leads before after d (Err NoRoom) h e w never = absurd (never refl)
  too_many cmp n leads before after d (Err TooMany) h e w never = w

pub returns-in_err-count : goal.returns-in_err-count
unfolding one monomial
returns-in_err-count g c Q =
    let p = err_from_is_err_and c.from_residual.result c.from_residual.ensures.1 in
    let lent : List Monomial = replicate g.row.CAP one in
    let e = c.staircase_into.ensures in
    let w = too_many _ c.map_err.result (g.O.Order.meaning c.args.order.now) c.args.n c.args.leads.now lent c.staircase_into.new.stairs c.in_err-count.field-0.0 c.staircase_into.result c.map_err.ensures.cases c.in_err-count.was (e.staircase Q) (λ h. let r = e.no_room.0 h in absurd (omega arith)) in
    rw p.1 (omega (arith, w))

pub returns : goal.returns
returns g c Q =
    let e = written _ c.map_err.result c.in_ok-count.count c.staircase_into.result c.map_err.ensures.cases c.in_ok-count.was in
    let w = rw e at c.staircase_into.ensures.staircase Q in
    c.front.ensures ∙ w.1
