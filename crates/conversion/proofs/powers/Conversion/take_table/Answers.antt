use Rattle.std.proofs.Common.{◌≡◌, ℕ, ◌+◌, ◌-◌, ◌*◌, List, length, take, sym, ap, ◌∙◌, subst, arith}
use Rattle.std.proofs.lemmas.List.{length-take-le}
use Rattle.linear.specs.Elimination.{rows, Table}
use Rattle.conversion.proofs.Room.{it_fits}
use Rattle.conversion.proofs.Standing.{front_elems, front_reads}
use Rattle.conversion.proofs.Along.{independent_along}
use Rattle.conversion.proofs.Solving.{all_taken}
use Rattle.algebra.specs.Vector.{Independent}
use Rattle.algebra.specs.Elements.{Elems, field_of, read}
use Rattle.linear.specs.Hankel.{hankel}
use Rattle.conversion.specs.Powers.{Stands}
use Rattle.conversion.proofs.powers.Conversion.take_table.Goals as goal

pub returns : goal.returns
returns g c laws s =
    let m = g.F.Field.meaning c.args.self.now.matrices.field.now in
    let t = c.args.self.now.matrices.tables.now in
    let d = c.size-d.result in
    let seq = c.args.sequence.now in
    let table = c.eliminate.new.self.rows in
    let pivots = c.eliminate.new.self.pivots in
    let N : ℕ = d + d - 0 in
    let full : N ≡ d + d = omega arith in
    let xs : List ℕ = take N seq in
    let long : length xs ≡ d + d = length-take-le N seq (omega (arith, t.few)) ∙ full in
    subst (λ (x : ℕ). Stands m (x + x) seq s → Independent (field_of m laws) x x (hankel (field_of m laws) s) → Table m laws x x (rows m laws 1 (take (x + x) seq)) table pivots) c.size-d.ensures
    (λ st h.
    let els : Elems m xs = subst (λ (x : ℕ). Elems m (take x seq)) (sym full) (front_elems m laws (d + d) seq s (omega (arith, t.few)) st) in
    let free = independent_along (field_of m laws) d (hankel (field_of m laws) s) (rows m laws 1 xs) d (λ j i p q. sym (ap (read m laws xs) {x = j * 1 + i} {y = j + i} (omega arith) ∙ front_reads m laws (d + d) N seq s (omega arith) (omega (arith, t.few)) st (j + i) (omega arith))) h in
    let room = it_fits d d 1 (length xs) 48 (omega (arith, t.few)) (omega (arith, t.few)) (omega arith) (omega arith) in
    subst (λ (x : ℕ). Table m laws d d (rows m laws 1 (take x seq)) table pivots) full
    (all_taken m laws d (rows m laws 1 xs) table pivots c.eliminate.new.self.work c.eliminate.result free (c.eliminate.ensures.eliminated room laws els)))
