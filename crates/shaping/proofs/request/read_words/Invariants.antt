use Rattle.std.proofs.Common.{◌≡◌, length}
use Rattle.shaping.proofs.Requests.{WordsWalked}
use Rattle.shaping.proofs.request.read_words.Given as goal

abbrev pub invariant-loop-word : goal.invariant-loop-word
invariant-loop-word l = (length l.line ≡ 1) × WordsWalked (length l.fn.words) l.word-index l.reader l.here l.words
