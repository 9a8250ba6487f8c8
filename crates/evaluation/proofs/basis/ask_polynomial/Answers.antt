use Rattle.std.proofs.Common.{◌≡◌, ℕ, ◌+◌, get_or, Some, sym, ap, ◌∙◌, subst}
use Rattle.std.proofs.lemmas.Result.{err_from_is_err_and}
use Rattle.column.specs.Walk.{left}
use Rattle.evaluation.specs.declared.fault.ProbeFault.TheVariants.{NoTerm}
use Rattle.evaluation.specs.Answer.{asks_lines}
use Rattle.evaluation.specs.Steps.{LinesPassed}
use Rattle.evaluation.proofs.Asking.{asked_there, count_unread, no_term, lines_unread, terms-asked-last, polynomial-passed}
use Rattle.evaluation.proofs.basis.ask_polynomial.Goals as goal

pub returns-in_err-first : goal.returns-in_err-first
returns-in_err-first g c =
    let p = err_from_is_err_and c.from_residual.result c.from_residual.ensures.1 in
    let r = c.args.reader in
    rw (p.1, p.2) (record { asked = count_unread c.read.new.words (g.F.Field.meaning c.args.field.now) r.n r.here r.here _ c.in_err-first.ensures.asked })

pub returns-then-count-eq0 : goal.returns-then-count-eq0
returns-then-count-eq0 g c =
    let r = c.args.reader in
    let line = ap (λ (l : ℕ). Some (NoTerm l)) (sym c.line.ensures) in
    record { asked = no_term c.read.new.words (g.F.Field.meaning c.args.field.now) r.n r.here c.in_ok-first.first.here c.in_ok-first.ensures.asked.1 c.if-count-eq0.true ∙ line }

pub returns-in_err-end : goal.returns-in_err-end
returns-in_err-end g c =
    let p = err_from_is_err_and c.from_residual-in_err-end.result c.from_residual-in_err-end.ensures.1 in
    let r = c.args.reader in
    let q = c.in_ok-first.first.here in
    let k = get_or c.read.new.words 0 0 in
    let e = subst (λ (n : ℕ). asks_lines (n + 1) k (left q) q.place.line ≡ Some c.in_err-end.field-0.0) c.in_ok-first.ensures.asked.0 c.in_err-end.ensures.asked in
    rw (p.1, p.2) (record { asked = lines_unread c.read.new.words (g.F.Field.meaning c.args.field.now) r.n r.here q c.in_ok-first.ensures.asked.1 _ c.if-count-eq0.false e })

pub returns-in_err-ask_terms : goal.returns-in_err-ask_terms
returns-in_err-ask_terms g c =
    let p = err_from_is_err_and c.from_residual-in_err-ask_terms.result c.from_residual-in_err-ask_terms.ensures.1 in
    let m = g.F.Field.meaning c.args.field.now in
    let r = c.args.reader in
    let q = c.in_ok-first.first in
    let k = get_or c.read.new.words 0 0 in
    let same = c.in_ok-first.ensures.asked.0 in
    let lines = subst (λ (n : ℕ). LinesPassed (n + 1) k q.here c.in_ok-end.end.here) same c.in_ok-end.ensures.asked.1 in
    let e = asked_there m r.n q.n k r.here.place.line _ (left q.here) _ _ same c.line-2.ensures c.lines.ensures c.in_err-ask_terms.ensures in
    rw (p.1, p.2) (record { asked = terms-asked-last c.read.new.words m r.n r.here q.here c.in_ok-first.ensures.asked.1 c.in_ok-end.end.here c.if-count-eq0.false lines _ e })

pub returns : goal.returns
returns g c =
    let m = g.F.Field.meaning c.args.field.now in
    let r = c.args.reader in
    let q = c.in_ok-first.first in
    let k = get_or c.read.new.words 0 0 in
    let same = c.in_ok-first.ensures.asked.0 in
    let lines = subst (λ (n : ℕ). LinesPassed (n + 1) k q.here c.in_ok-end.end.here) same c.in_ok-end.ensures.asked.1 in
    let e = asked_there m r.n q.n k r.here.place.line _ (left q.here) _ _ same c.line-2.ensures c.lines.ensures c.in_ok-ask_terms.ensures in
    record { asked = (c.in_ok-end.ensures.asked.0 ∙ same, polynomial-passed c.read.new.words m r.n r.here q.here c.in_ok-first.ensures.asked.1 c.in_ok-end.end.here c.if-count-eq0.false lines e) }
