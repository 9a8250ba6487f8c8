use Rattle.std.proofs.Common.{◌+◌, drop, arith}
use Rattle.evaluation.proofs.Padding.{terms_next, terms_over}
use Rattle.evaluation.proofs.terms.TermsIterator.next.Goals as goal

pub returns-in_err-self-clause-steps : goal.returns-in_err-self-clause-steps
returns-in_err-self-clause-steps c =
    let s = c.args.self.now in
    let none = terms_over (s.n + 1) s.left (drop s.lines.at s.lines.text.now) (omega (arith, c.in_err-self.ensures)) in
    rw c.from_residual.ensures (none, none)

pub returns-clause-steps : goal.returns-clause-steps
returns-clause-steps c =
    let s = c.args.self.now in
    let less = c.in_ok-self.ensures in
    terms_next (s.n + 1) s.left c.in_ok-self.field-0 (drop s.lines.at s.lines.text.now) _ c.first-words.result (omega arith) c.after-self.ensures.rest c.first-words.ensures
