-- The columns of the words so far stand at the place.
use Rattle.std.proofs.Common.{get_or, arith}
use Rattle.column.specs.Column.{Word}
use Rattle.column.proofs.Walks.{written_none, written_all, written_more}
use Rattle.column.proofs.line.put_columns.Goals as goal

pub loop-i-init : goal.loop-i-init
loop-i-init c = written_none c.args.out.now c.args.words.now c.args.at

pub loop-i-preserved : goal.loop-i-preserved
loop-i-preserved c =
    let word : Word (get_or c.args.words.now c.loop-i.i 0) = omega (arith, c.type_inv.words c.loop-i.i) in
    written_more c.loop-i.out c.put_column.new.out c.args.out.now c.args.words.now c.args.at c.loop-i.i
    (omega arith) c.loop-i-test.true word c.loop-i.invariant c.put_column.ensures

pub returns : goal.returns
returns c =
    written_all c.loop-i.out c.args.out.now c.args.words.now c.args.at c.loop-i.i c.loop-i-test.false c.loop-i.invariant
