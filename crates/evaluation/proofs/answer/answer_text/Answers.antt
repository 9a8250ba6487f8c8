use Rattle.std.proofs.Common.{◌≡◌, get_or, Err, refl, sym, ap, ◌∙◌, rules}
use Rattle.std.proofs.lemmas.Result.{err_from_is_err_and}
use Rattle.evaluation.specs.declared.fault.ProbeFault.TheVariants.{Line}
use Rattle.evaluation.specs.Basis.{next}
use Rattle.column.proofs.Mapped.{mapped_ok, mapped_err}
use Rattle.evaluation.proofs.Deciding.{wrote_as, text_refused, header_unread, header_read, over_bytes, field_refused, over_residues}
use Rattle.evaluation.proofs.answer.answer_text.Goals as goal

pub returns-then-text-gt-LONGEST_TEXT : goal.returns-then-text-gt-LONGEST_TEXT
returns-then-text-gt-LONGEST_TEXT c = record { wrote = (text_refused c.args.text.now c.if-text-gt-LONGEST_TEXT.true, refl) }

pub returns-in_err-rest : goal.returns-in_err-rest
returns-in_err-rest c =
    let p = err_from_is_err_and c.from_residual.result c.from_residual.ensures.1 in
    let f = mapped_err _ c.read.result c.map_err.result _ c.in_err-rest.was c.map_err.ensures.cases in
    let k = f.2 in
    let is : c.in_err-rest.field-0.0 ≡ Line f.0 1 = search rules in
    let e = header_unread c.args.text.now c.new.result c.new.ensures.text c.new.ensures.at c.if-text-gt-LONGEST_TEXT.false c.read.result c.read.ensures.place_after f.0 f.1 in
    rw (p.1, p.2) (record { wrote = (e ∙ ap Err (sym is), refl) })

pub returns-then-code-eq0 : goal.returns-then-code-eq0
returns-then-code-eq0 c =
    let h = c.read.new.words in
    let text = c.args.text.now in
    let r = mapped_ok _ c.read.result c.map_err.result c.in_ok-rest.rest c.in_ok-rest.was c.map_err.ensures.cases in
    let read = header_read text c.new.result c.new.ensures.text c.new.ensures.at c.if-text-gt-LONGEST_TEXT.false c.read.result c.read.ensures.place_after _ h r c.read.ensures.same_text c.read.ensures.words_taken in
    record { wrote = wrote_as _ _ _ c.args.out.now c.answer_header.new.out (over_bytes (get_or h 0 0) (get_or h 1 0) (get_or h 2 0) (get_or h 3 0) (next 4 c.in_ok-rest.rest.text.now) c.if-code-eq0.true ∙ read) c.answer_header.ensures.wrote }

pub returns-in_err-field : goal.returns-in_err-field
returns-in_err-field c =
    let h = c.read.new.words in
    let text = c.args.text.now in
    let p = err_from_is_err_and c.from_residual-in_err-field.result c.from_residual-in_err-field.ensures.1 in
    let r = mapped_ok _ c.read.result c.map_err.result c.in_ok-rest.rest c.in_ok-rest.was c.map_err.ensures.cases in
    let read = header_read text c.new.result c.new.ensures.text c.new.ensures.at c.if-text-gt-LONGEST_TEXT.false c.read.result c.read.ensures.place_after _ h r c.read.ensures.same_text c.read.ensures.words_taken in
    rw (p.1, p.2) (record { wrote = (sym read ∙ field_refused (get_or h 0 0) (get_or h 1 0) (get_or h 2 0) (get_or h 3 0) (next 4 c.in_ok-rest.rest.text.now) c.if-code-eq0.false _ c.in_err-field.ensures.made, refl) })

pub returns : goal.returns
returns c =
    let h = c.read.new.words in
    let text = c.args.text.now in
    let r = mapped_ok _ c.read.result c.map_err.result c.in_ok-rest.rest c.in_ok-rest.was c.map_err.ensures.cases in
    let read = header_read text c.new.result c.new.ensures.text c.new.ensures.at c.if-text-gt-LONGEST_TEXT.false c.read.result c.read.ensures.place_after _ h r c.read.ensures.same_text c.read.ensures.words_taken in
    record { wrote = wrote_as _ _ _ c.args.out.now c.answer_header-2.new.out (over_residues (get_or h 0 0) (get_or h 1 0) (get_or h 2 0) (get_or h 3 0) (next 4 c.in_ok-rest.rest.text.now) c.if-code-eq0.false _ c.in_ok-field.ensures.made ∙ read) c.answer_header-2.ensures.wrote }
