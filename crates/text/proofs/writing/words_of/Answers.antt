use Rattle.text.proofs.Words.{words_front}
use Rattle.text.proofs.writing.words_of.Goals as goal

pub returns-clause-front : goal.returns-clause-front
returns-clause-front c n l = rw (c.from.ensures, c.from-2.ensures, c.from-3.ensures, c.from-4.ensures) (words_front n c.args.term.coefficient c.args.term.monomial l)
