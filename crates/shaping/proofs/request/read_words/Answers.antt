use Rattle.std.proofs.Common.{ℕ, length, Ok, ◌∙◌, refl, subst, arith}
use Rattle.std.proofs.lemmas.Result.{err_from_is_err_and}
use Rattle.column.specs.Walk.{left}
use Rattle.runs.specs.Text.{line_asks}
use Rattle.text.specs.Asked.{Faulted}
use Rattle.text.specs.Steps.{LineRead}
use Rattle.text.proofs.Walking.{walk_broken}
use Rattle.shaping.proofs.Requests.{words_walked_none, words_walked_more, words_walked_all}
use Rattle.shaping.proofs.request.read_words.Goals as goal

pub loop-word-init : goal.loop-word-init
loop-word-init c = (refl, words_walked_none (length c.args.words.now) c.args.reader c.args.words.now)

pub returns-in_err-here : goal.returns-in_err-here
returns-in_err-here c =
    let p = err_from_is_err_and c.from_residual.result c.from_residual.ensures.1 in
    let q = c.loop-word.here in
    let e = subst (λ (x : ℕ). Faulted (line_asks q.place.line x (left q)) c.in_err-here.field-0.0) c.loop-word.invariant.0 c.in_err-here.ensures in
    rw (p.1, p.2) (walk_broken 1 (length c.args.words.now) c.args.reader c.loop-word.word-index q c.loop-word-test.true c.loop-word.invariant.1.lines _ _ _ e)

pub loop-word-preserved : goal.loop-word-preserved
loop-word-preserved c =
    let l = subst (λ (x : ℕ). LineRead x c.loop-word.here c.read_line.new.words (Ok c.in_ok-here.here)) c.loop-word.invariant.0 c.in_ok-here.ensures in (
      c.read_line.auto.words ∙ c.loop-word.invariant.0,
      words_walked_more (length c.args.words.now) c.args.reader c.loop-word.word-index c.loop-word.here c.in_ok-here.here c.loop-word.words c.loop-word-test.true c.loop-word.invariant.1 l.0 c.read_line.new.words _ (omega arith) l.1 refl,
    )

pub returns : goal.returns
returns c = words_walked_all (length c.args.words.now) c.args.reader c.loop-word.word-index c.loop-word.here c.loop-word.words (omega arith) (omega arith) c.loop-word.invariant.1
