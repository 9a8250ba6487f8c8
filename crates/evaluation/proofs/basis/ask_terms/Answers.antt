use Rattle.std.proofs.Common.{drop, refl}
use Rattle.evaluation.proofs.Asking.{terms_asked}
use Rattle.evaluation.proofs.basis.ask_terms.Goals as goal

pub returns-in-Some : goal.returns-in-Some
returns-in-Some g c =
    let ts = c.args.terms in
    terms_asked (g.F.Field.meaning c.args.field.now) ts.n ts.left c.args.line (drop ts.lines.at ts.lines.text.now) _ _ c.in-Some.ensures.first refl

pub returns-in-Some-first_bad_exponent : goal.returns-in-Some-first_bad_exponent
returns-in-Some-first_bad_exponent g c =
    let ts = c.args.terms in
    terms_asked (g.F.Field.meaning c.args.field.now) ts.n ts.left c.args.line (drop ts.lines.at ts.lines.text.now) _ _ c.in_default.ensures.first c.in-Some-first_bad_exponent.ensures.first

pub returns : goal.returns
returns g c =
    let ts = c.args.terms in
    terms_asked (g.F.Field.meaning c.args.field.now) ts.n ts.left c.args.line (drop ts.lines.at ts.lines.text.now) _ _ c.in_default.ensures.first c.in_default-first_bad_exponent.ensures.first
