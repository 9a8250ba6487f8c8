use Rattle.std.proofs.Common.{arith}
use Rattle.std.proofs.lemmas.Bool.Decides.{nat_tests}
use Rattle.field.specs.Primes.{listed}
use Rattle.field.proofs.residue.make.is_listed.Goals as goal

pub returns : goal.returns
unfolding listed
returns c = let h = c.contains.ensures.value in grind (arith, nat_tests)
