use Rattle.field.proofs.ByteDivision.{product_divides, byte_examples}
use Rattle.field.proofs.bytes.product_is_a_remainder.Goals as goal

pub returns : goal.returns
returns c = record { divides = product_divides; examples = byte_examples }
