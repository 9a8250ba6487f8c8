use Rattle.std.proofs.Common.{◌≡◌, ℕ, length, take, sym, ◌∙◌, subst, arith, length-take-le, get_or-take}
use Rattle.linear.specs.Elimination.{Table}
use Rattle.conversion.specs.Powers.{Stands}
use Rattle.conversion.proofs.Room.{is_roomy}
use Rattle.conversion.proofs.Standing.{elem_by}
use Rattle.conversion.proofs.Solving.{solved_row}
use Rattle.conversion.proofs.powers.Conversion.write_row.Goals as goal

pub returns-then-i-self : goal.returns-then-i-self
returns-then-i-self g c laws v b G st = record { backwards = λ e l h. c.put_backwards.ensures l h; solves = λ ne. absurd (ne c.if-i-self.true) }

pub returns : goal.returns
returns g c laws v b G st =
    let m = g.F.Field.meaning c.args.self.now.matrices.field.now in
    let d = length c.args.out.now in
    let side = take d c.args.side.now in
    let long : length side ≡ d = length-take-le d c.args.side.now (omega arith) in
    let stand : Stands m d side b = λ j h. get_or-take d c.args.side.now j 0 h ∙ st c.if-i-self.false j h in
    record {
      backwards = λ e. absurd (c.if-i-self.false e);
      solves = λ ne. solved_row m laws d v b side c.solve.new.out c.solve.result long c.solve.auto.out stand
          (c.solve.ensures.solved (is_roomy (length side) d 48 (omega arith) (omega arith)) laws v
          (λ j h. elem_by m laws _ (b j) (stand j (omega arith))) (subst (λ (x : ℕ). Table m laws x d v c.args.echelon.now.rows c.args.echelon.now.pivots) (sym long) G));
    }
