use Rattle.std.proofs.Common.{◌≡◌, ℕ, ◌+◌, ◌*◌, ◌<◌, get_or, take, ap, ◌∙◌, arith}
use Rattle.algebra.specs.Elements.{Elem, field_of, read}
use Rattle.linear.specs.Elimination.{rows}
use Rattle.linear.specs.Hankel.{hankel}
use Rattle.tables.specs.Holds.{stair_count}
use Rattle.conversion.specs.Powers.{map_of, unit, measure}
use Rattle.conversion.proofs.Standing.{front_reads}
use Rattle.conversion.proofs.Solving.{row_over}
use Rattle.conversion.proofs.work.Work.write.Goals as goal

pub returns : goal.returns
returns g c =
    let m = g.F.Field.meaning c.args.by.now.matrices.field.now in
    let t = c.args.by.now.matrices.tables.now in
    let d = stair_count t in
    let k = c.args.by.now.k in
    let r = c.args.by.now.r.now in
    let seq = c.args.self.now.sequence in
    let out = c.write_rows.new.out in
    record {
      refused_as_was = tt;
      rest_unchanged = c.write_rows.ensures.rest_unchanged;
      rows = λ laws ready whole free i h.
          let s = measure m laws t k r (unit m laws) in
          let b : ℕ → ℕ → Elem m = λ j. measure m laws t k r (map_of m laws t j (unit m laws)) in
          let same : (l j : ℕ) → l < d → j < d → rows m laws 1 (take (d + d) seq) l j ≡ hankel (field_of m laws) s l j = λ l j p q. ap (read m laws (take (d + d) seq)) {x = l * 1 + j} {y = l + j} (omega arith) ∙ front_reads m laws (d + d) (d + d) seq s (omega arith) (omega (arith, t.few)) whole (l + j) (omega arith) in
          row_over m laws d (rows m laws 1 (take (d + d) seq)) (hankel (field_of m laws) s) same c.args.self.now.connection (b i) i k (λ l. get_or out (i * d + l) 0)
          (c.write_rows.ensures.rows laws (rows m laws 1 (take (d + d) seq)) b (c.take_table.ensures laws s whole free) (c.in_ok-sides.ensures.measured laws) i h);
    }
