use Rattle.std.proofs.Common.{◌≡◌, true, false, refl, rules, tests}
use Rattle.evaluation.specs.Answer.{one_to_four}
use Rattle.evaluation.specs.Basis.{next}
use Rattle.evaluation.proofs.Deciding.{order_refused, variables_refused, header_wrote}
use Rattle.evaluation.proofs.answer.answer_header.Goals as goal

pub returns-then-not-contains : goal.returns-then-not-contains
returns-then-not-contains g c =
    let h = c.args.header in
    let o : false ≡ one_to_four h.order = search (rules, tests) in
    record { wrote = (order_refused (g.F.Field.meaning c.args.field.now) h.order h.n h.count (next 4 h.rest.text.now) o, refl) }

pub returns-then-not-contains-2 : goal.returns-then-not-contains-2
returns-then-not-contains-2 g c =
    let h = c.args.header in
    let o : true ≡ one_to_four h.order = search (rules, tests) in
    let v : false ≡ one_to_four h.n = search (rules, tests) in
    record { wrote = (variables_refused (g.F.Field.meaning c.args.field.now) h.order h.n h.count (next 4 h.rest.text.now) o v, refl) }

pub returns : goal.returns
returns g c =
    let h = c.args.header in
    let o : true ≡ one_to_four h.order = search (rules, tests) in
    let v : true ≡ one_to_four h.n = search (rules, tests) in
    record { wrote = header_wrote (g.F.Field.meaning c.args.field.now) h.order h.n h.count (next 4 h.rest.text.now) c.answer_basis.result c.args.out.now c.answer_basis.new.out o v c.answer_basis.ensures.wrote }
