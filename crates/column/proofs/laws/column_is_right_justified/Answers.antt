-- Both ways, from Justified.
use Rattle.column.proofs.Justified.{justified_column, column_from_justified}
use Rattle.column.proofs.laws.column_is_right_justified.Goals as goal

pub returns : goal.returns
returns c = λ bs w h. (justified_column bs w h, column_from_justified bs w h)
