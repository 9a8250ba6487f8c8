use Rattle.std.proofs.Common.{ℕ, suc, ◌+◌, [], ◌∷◌, length, Ok, ◌∙◌, subst, arith, length-take}
use Rattle.std.proofs.lemmas.Result.{err_from_is_err_and}
use Rattle.column.specs.Walk.{left}
use Rattle.runs.specs.Text.{line_asks}
use Rattle.text.specs.Asked.{Faulted}
use Rattle.text.specs.Steps.{LineRead}
use Rattle.text.proofs.Walking.{terms_walked_none, terms_walked_more, terms_walked_all, walk_broken}
use Rattle.text.proofs.layout.Layout.read_terms.Goals as goal

pub loop-term-init : goal.loop-term-init
loop-term-init c = (omega (arith, c.args.self.few, length-take {A = ℕ} (c.args.self.n + 1) (0 ∷ 0 ∷ 0 ∷ 0 ∷ 0 ∷ [])), terms_walked_none (suc c.args.self.n) (length c.args.terms.now) c.args.reader c.args.terms.now)

pub returns-in_err-here : goal.returns-in_err-here
returns-in_err-here c =
    let p = err_from_is_err_and c.from_residual.result c.from_residual.ensures.1 in
    let q = c.loop-term.here in
    let e = subst (λ (x : ℕ). Faulted (line_asks q.place.line x (left q)) c.in_err-here.field-0.0) c.loop-term.invariant.0 c.in_err-here.ensures in
    rw (p.1, p.2) (walk_broken (suc c.args.self.n) (length c.args.terms.now) c.args.reader c.loop-term.term-index q c.loop-term-test.true c.loop-term.invariant.1.lines _ _ _ e)

pub loop-term-preserved : goal.loop-term-preserved
loop-term-preserved c =
    let l = subst (λ (x : ℕ). LineRead x c.loop-term.here c.read_line.new.words (Ok c.in_ok-here.here)) c.loop-term.invariant.0 c.in_ok-here.ensures in (
      c.read_line.auto.words ∙ c.loop-term.invariant.0,
      terms_walked_more (suc c.args.self.n) (length c.args.terms.now) c.args.reader c.loop-term.term-index c.loop-term.here c.in_ok-here.here c.loop-term.terms c.loop-term-test.true c.loop-term.invariant.1 l.0 c.read_line.new.words c.term_of.result (omega arith) l.1 c.term_of.ensures,
    )

pub returns : goal.returns
returns c = terms_walked_all (suc c.args.self.n) (length c.args.terms.now) c.args.reader c.loop-term.term-index c.loop-term.here c.loop-term.terms c.loop-term-test.false c.loop-term.auto.term-index-end c.loop-term.invariant.1
