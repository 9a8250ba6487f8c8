use Rattle.field.specs.Bytes.{power_254}
use Rattle.field.proofs.bytes.power.Goals as goal

pub returns : goal.returns
unfolding power_254
returns c = cc
