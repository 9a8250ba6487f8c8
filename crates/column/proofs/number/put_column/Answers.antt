-- The eleven bytes that were lent are the column.
use Rattle.std.proofs.Common.{◌+◌, ◌-◌, ◌∙◌, arith}
use Rattle.column.specs.Column.{column}
use Rattle.column.proofs.Columns.{column_length}
use Rattle.column.proofs.Places.{put_from_part}
use Rattle.column.proofs.number.put_column.Goals as goal

pub returns : goal.returns
returns c =
    put_from_part c.args.out.now (column c.args.number) c.copy_from_slice.new.self c.args.at (c.args.at + 11 - c.args.at)
    (c.copy_from_slice.ensures.after ∙ c.column_of.ensures)
    (omega (arith, column_length c.args.number (omega arith)))
