use Rattle.std.proofs.Common.{sym, ◌∙◌, rules}
use Rattle.conversion.proofs.Asking.{none_outside, first_outside}
use Rattle.conversion.proofs.questions.ask_vector.Goals as goal

pub returns-in-Some : goal.returns-in-Some
returns-in-Some g c =
    let no = first_outside (g.F.Field.meaning c.args.matrices.now.field.now) c.args.r.now c.in-Some.i (sym c.first_no_element.ensures.first ∙ c.in-Some.is) in
    search rules

pub returns-then-room-matrices : goal.returns-then-room-matrices
returns-then-room-matrices g c =
    let yes = none_outside (g.F.Field.meaning c.args.matrices.now.field.now) c.args.r.now (sym c.first_no_element.ensures.first ∙ c.in_default.is) in
    search rules

pub returns : goal.returns
returns g c =
    let yes = none_outside (g.F.Field.meaning c.args.matrices.now.field.now) c.args.r.now (sym c.first_no_element.ensures.first ∙ c.in_default.is) in
    search rules
