use Rattle.std.proofs.Common.{suc, ◌+◌, [], get_or, sym, add-one, arith, rules}
use Rattle.algebra.proofs.Lists.{get_or_build, get_d_past}
use Rattle.polynomials.specs.Held.{entries, part}
use Rattle.polynomials.proofs.store.Polynomials.polynomial.Goals as goal

pub offset_bounds-self-self : goal.offset_bounds-self-self
offset_bounds-self-self c = let w = c.args.self.now.within c.args.i (omega arith) in search rules

pub slice_bounds-result-end : goal.slice_bounds-result-end
slice_bounds-result-end c = let w = c.args.self.now.within (c.args.i + 1) (omega arith) in omega arith

pub returns-then-i-self : goal.returns-then-i-self
unfolding entries
returns-then-i-self c =
    let s = c.args.self.now in
    rw add-one (sym (get_or_build s.count (λ i. part s.terms (get_or s.starts i 0) (get_or s.starts (suc i) 0)) [] c.args.i (omega arith)))

pub returns-else-i-self : goal.returns-else-i-self
unfolding entries
returns-else-i-self c =
    let s = c.args.self.now in
    sym (get_d_past s.count (λ i. part s.terms (get_or s.starts i 0) (get_or s.starts (suc i) 0)) [] c.args.i (omega arith))
