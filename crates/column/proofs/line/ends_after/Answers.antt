-- With room for the line, the first byte 10 is compared with the line's end; without, no line ends there.
use Rattle.std.proofs.Common.{ℕ, ◌+◌, ◌-◌, ◌*◌, eqb, length, drop, Some, position, sym, ap, ◌∙◌, arith, length-drop}
use Rattle.std.specs.Option.{option_eq}
use Rattle.std.proofs.lemmas.Bool.{leb-false}
use Rattle.std.proofs.lemmas.List.{take_all}
use Rattle.column.specs.Line.{line_length}
use Rattle.column.proofs.Questions.{ends_when, exact_without_room}
use Rattle.column.proofs.line.ends_after.Goals as goal

pub returns-then-line_fits-clause-test : goal.returns-then-line_fits-clause-test
returns-then-line_fits-clause-test c =
    let bs = drop c.args.at c.args.bytes.now in
    let all = take_all (length c.args.bytes.now - c.args.at) bs (omega (arith, length-drop c.args.at c.args.bytes.now)) in
    c.eq.ensures
    ∙ ap (λ o. option_eq eqb o (Some (11 * c.args.count))) (c.first_newline.ensures ∙ ap (position (λ (b : ℕ). eqb b 10)) all)
    ∙ ends_when c.args.count bs

pub returns-else-line_fits-clause-test : goal.returns-else-line_fits-clause-test
returns-else-line_fits-clause-test c =
    c.if-line_fits.false ∙ exact_without_room c.args.bytes.now c.args.at c.args.count (leb-false (c.args.at + line_length c.args.count) (length c.args.bytes.now) (sym c.if-line_fits.ensures))
