use Rattle.std.proofs.Common.{◌≡◌, ℕ, ◌<◌, List, Option, Some, None, MatchOption, sym, subst, arith, rules}
use Rattle.order.specs.declared.monomial.Monomial.{Monomial}
use Rattle.tables.specs.declared.below.Below.{Below}
use Rattle.tables.specs.Columns.{BelowBy, StandsBelow, NothingBelow, LowestBelow}
use Rattle.tables.proofs.Searching.{first_mapped}
use Rattle.tables.proofs.below.lowest_below.Goals as goal

module _ (n : ℕ) (edges : List Monomial) (t : Monomial) where
  abbrev Stood : ℕ → Below → Type 0
  Stood k b = (b.variable ≡ k) × StandsBelow edges t k b.place

  lowest : (r : Option Below) → MatchOption r ((k : ℕ) → k < n → NothingBelow edges t k) (λ b. (i : ℕ) × (i < n) × Stood i b × ((k : ℕ) → k < i → NothingBelow edges t k)) → LowestBelow n edges t r
  lowest None h = h
  lowest (Some b) h = (subst (λ k. k < n) (sym h.2.0) h.1, subst (λ k. StandsBelow edges t k b.place) (sym h.2.0) h.2.1, λ j l. h.3 j (omega (arith, l, h.2.0)))

pub returns : goal.returns
returns c =
    let edges = c.args.edges.now in
    let t = c.args.t in
    lowest c.args.n edges t c.find_map.result
    (first_mapped c.args.n _ c.find_map.result (NothingBelow edges t) (Stood c.args.n edges t) c.find_map.ensures.runs (λ a r f' k. search rules) (λ x k. let w : BelowBy edges t x None = search rules in w) (λ x y k. let w : BelowBy edges t x (Some y) = search rules in w))
