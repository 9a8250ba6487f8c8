use Rattle.std.proofs.Common.{length, sym, refl, arith}
use borrow.Author.Tests.{both_ways}
use Rattle.linear.proofs.Room.{has_lent, of_solves, to_solves}
use Rattle.linear.proofs.Carry.{found, lost}
use Rattle.linear.proofs.elimination.solve.Goals as goal

pub returns-then-not-is_solvable-clause-solved : goal.returns-then-not-is_solvable-clause-solved
returns-then-not-is_solvable-clause-solved g c room laws v given G =
    both_ways _ (sym c.if-not-is_solvable.ensures) (to_solves _ _ _ _ c.args.pivots.now room G.echelon.pivot_in)

pub remainder-requires : goal.remainder-requires
remainder-requires g c =
    let can = of_solves (length c.args.vector.now) (length c.args.out.now) (length c.args.table.now) (length c.args.row.now) c.args.pivots.now (sym c.if-not-is_solvable.ensures) in
    record {
      narrow = omega (arith, can.0.narrow, can.0.coordinates);
      width = can.0.coordinates;
      room = omega arith;
      rows = can.0.enough;
      pivots = can.0.marked;
      wide = λ i h. c.tell_widths.ensures i (omega (arith, can.0.enough));
      within = can.1;
    }

pub returns-then-is_some-clause-solved : goal.returns-then-is_some-clause-solved
returns-then-is_some-clause-solved g c h laws v given G =
    let room = has_lent (length c.args.vector.now) (length c.args.out.now) (length c.args.table.now) (length c.args.pivots.now) (length c.args.row.now) h in
    lost _ laws _ _ v _ _ _ c.remainder.new.row refl G (omega (arith, room.narrow)) (λ i h. c.tell_widths.ensures i (omega (arith, room.enough))) (omega (arith, room.coordinates)) given c.remainder.ensures.left c.first_nonzero.result c.first_nonzero.ensures (cc)

pub returns-clause-solved : goal.returns-clause-solved
returns-clause-solved g c h laws v given G =
    let room = has_lent (length c.args.vector.now) (length c.args.out.now) (length c.args.table.now) (length c.args.pivots.now) (length c.args.row.now) h in
    found _ laws _ _ v _ _ _ c.remainder.new.row refl G (omega (arith, room.narrow)) (λ i h. c.tell_widths.ensures i (omega (arith, room.enough))) (omega (arith, room.coordinates)) given c.remainder.ensures.left c.first_nonzero.result c.first_nonzero.ensures (cc)
    c.opposites.new.out (omega arith) c.opposites.ensures
