use Rattle.std.proofs.Common.{ℕ, inl}
use Rattle.std.proofs.lemmas.Result.{err_from_is_err_and}
use Rattle.text.proofs.Entering.{header_numbers, header_codes}
use Rattle.shaping.proofs.Heading.{field_refused, over_bytes, over_residues}
use Rattle.shaping.proofs.answer.basis_of.Goals as goal

pub returns-then-code-eq0 : goal.returns-then-code-eq0
returns-then-code-eq0 c =
    let bs = c.args.text.now in
    let h : ℕ × ℕ × ℕ × ℕ = (c.in_ok-code.code, c.in_ok-code.order, c.in_ok-code.n, c.in_ok-code.field-0-3) in
    let codes = header_codes bs h c.in_ok-code.ensures.value in
    let numbers = header_numbers bs h c.in_ok-code.ensures.value in
    record { headed = over_bytes bs c.if-text-gt-LONGEST_TEXT.false c.in_ok-code.ensures.asked c.in_ok-code.order c.in_ok-code.n codes.1 numbers.0 c.basis_over.result c.in_ok-code.code codes.0 c.if-code-eq0.true c.basis_over.ensures.ordered }

pub returns-in_err-new : goal.returns-in_err-new
returns-in_err-new c =
    let bs = c.args.text.now in
    let p = err_from_is_err_and c.from_residual-in_err-new.result c.from_residual-in_err-new.ensures.1 in
    let h : ℕ × ℕ × ℕ × ℕ = (c.in_ok-code.code, c.in_ok-code.order, c.in_ok-code.n, c.in_ok-code.field-0-3) in
    let codes = header_codes bs h c.in_ok-code.ensures.value in
    rw (p.1, p.2) (record { headed = inl (field_refused bs c.if-text-gt-LONGEST_TEXT.false c.in_ok-code.ensures.asked c.in_ok-code.code codes.0 c.if-code-eq0.false c.in_err-new.field-0.0 c.in_err-new.ensures.made) })

pub returns : goal.returns
returns c =
    let bs = c.args.text.now in
    let h : ℕ × ℕ × ℕ × ℕ = (c.in_ok-code.code, c.in_ok-code.order, c.in_ok-code.n, c.in_ok-code.field-0-3) in
    let codes = header_codes bs h c.in_ok-code.ensures.value in
    let numbers = header_numbers bs h c.in_ok-code.ensures.value in
    record { headed = over_residues bs c.if-text-gt-LONGEST_TEXT.false c.in_ok-code.ensures.asked c.in_ok-code.order c.in_ok-code.n codes.1 numbers.0 c.basis_over-2.result c.in_ok-code.code c.in_ok-new.field-0.p codes.0 c.if-code-eq0.false c.in_ok-new.ensures.made c.basis_over-2.ensures.ordered }
