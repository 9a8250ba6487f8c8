use Rattle.std.proofs.Common.{[], ◌∷◌}
use Rattle.polynomials.specs.Held.{terms_of}
use Rattle.polynomials.specs.TermQuestions.{nonzero_ask, exponents_ask, falling_ask, monic_ask}
use Rattle.polynomials.proofs.Answering.{asked_break, asked_after}
use Rattle.polynomials.proofs.questions.ask_terms.Goals as goal

pub returns-in_err-ask_nonzero : goal.returns-in_err-ask_nonzero
returns-in_err-ask_nonzero g c line =
    let m = g.F.Field.meaning c.args.field.now in
    let cmp = g.O.Order.meaning c.args.order.now in
    let p = terms_of c.args.terms.now in
    asked_break line [] (nonzero_ask m line p ∷ []) (exponents_ask c.args.n line p ∷ falling_ask cmp line p ∷ monic_ask m line p ∷ []) c.from_residual.result c.in_err-ask_nonzero.field-0.0 c.from_residual.ensures.1 tt (c.in_err-ask_nonzero.ensures line)

pub returns-in_err-ask_exponents : goal.returns-in_err-ask_exponents
returns-in_err-ask_exponents g c line =
    let m = g.F.Field.meaning c.args.field.now in
    let cmp = g.O.Order.meaning c.args.order.now in
    let p = terms_of c.args.terms.now in
    asked_break line (nonzero_ask m line p ∷ []) (exponents_ask c.args.n line p ∷ []) (falling_ask cmp line p ∷ monic_ask m line p ∷ []) c.from_residual-in_err-ask_exponents.result c.in_err-ask_exponents.field-0.0 c.from_residual-in_err-ask_exponents.ensures.1
    (c.in_ok-ask_nonzero.ensures line)
    (c.in_err-ask_exponents.ensures line)

pub returns-in_err-ask_falling : goal.returns-in_err-ask_falling
returns-in_err-ask_falling g c line =
    let m = g.F.Field.meaning c.args.field.now in
    let cmp = g.O.Order.meaning c.args.order.now in
    let p = terms_of c.args.terms.now in
    asked_break line (nonzero_ask m line p ∷ exponents_ask c.args.n line p ∷ []) (falling_ask cmp line p ∷ []) (monic_ask m line p ∷ []) c.from_residual-in_err-ask_falling.result c.in_err-ask_falling.field-0.0 c.from_residual-in_err-ask_falling.ensures.1
    ((c.in_ok-ask_nonzero.ensures line).0, c.in_ok-ask_exponents.ensures line)
    (c.in_err-ask_falling.ensures line)

pub returns : goal.returns
returns g c line =
    let m = g.F.Field.meaning c.args.field.now in
    let cmp = g.O.Order.meaning c.args.order.now in
    let p = terms_of c.args.terms.now in
    asked_after line (nonzero_ask m line p ∷ exponents_ask c.args.n line p ∷ falling_ask cmp line p ∷ []) (monic_ask m line p ∷ []) c.ask_monic.result
    ((c.in_ok-ask_nonzero.ensures line).0, ((c.in_ok-ask_exponents.ensures line).0, c.in_ok-ask_falling.ensures line))
    (c.ask_monic.ensures line)
