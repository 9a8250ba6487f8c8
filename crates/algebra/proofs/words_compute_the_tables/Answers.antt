use Rattle.algebra.proofs.Words.{words_agree}
use Rattle.algebra.proofs.words_compute_the_tables.Goals as goal

pub returns : goal.returns
returns c = words_agree
