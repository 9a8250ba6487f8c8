use Rattle.algebra.proofs.Staircase.{staircase-exactly}
use Rattle.algebra.proofs.staircase_holds_the_free_monomials.Goals as goal

pub returns : goal.returns
returns c = λ n before O leads Q. staircase-exactly n leads Q before O
