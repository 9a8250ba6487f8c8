use Rattle.algebra.proofs.Records.{nested_keeps}
use Rattle.algebra.proofs.records_are_monomials.Goals as goal

pub returns : goal.returns
returns c = nested_keeps
