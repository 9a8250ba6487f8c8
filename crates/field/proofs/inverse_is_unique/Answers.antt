use Rattle.field.specs.Total.{one_inverse}
use Rattle.field.proofs.inverse_is_unique.Goals as goal

pub returns : goal.returns
returns c = one_inverse
