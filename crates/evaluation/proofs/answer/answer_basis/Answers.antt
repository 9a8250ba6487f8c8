use Rattle.std.proofs.Common.{◌≡◌, ℕ, ◌+◌, List, length, Some, Err, sym, refl, ap, ◌∙◌, subst, ap₂}
use Rattle.std.proofs.lemmas.Result.{err_from_is_err_and}
use Rattle.std.proofs.lemmas.List.{length-take-le}
use Rattle.column.specs.Place.{put}
use Rattle.column.specs.Walk.{left}
use Rattle.evaluation.specs.declared.fault.ProbeFault.TheVariants.{Point}
use Rattle.evaluation.specs.Answer.{asks_line, values_at, value_lines}
use Rattle.evaluation.specs.Steps.{LinePassed}
use Rattle.evaluation.proofs.FirstNo.{first_no_is}
use Rattle.evaluation.proofs.Deciding.{four, basis_refused, point_unread, word-refused, more-follows, all-answered}
use Rattle.evaluation.proofs.answer.answer_basis.Goals as goal

pub returns-in_err-end : goal.returns-in_err-end
returns-in_err-end g c =
    let p = err_from_is_err_and c.from_residual.result c.from_residual.ensures.1 in
    let h = c.args.header in
    rw (p.1, p.2) (record { wrote = (basis_refused four (g.F.Field.meaning c.args.field.now) c.args.n h.count h.rest h.rest h.rest h.at h.line _ c.in_err-end.ensures.asked, refl) })

pub returns-in_err-last : goal.returns-in_err-last
returns-in_err-last g c =
    let p = err_from_is_err_and c.from_residual-in_err-last.result c.from_residual-in_err-last.ensures.1 in
    let h = c.args.header in
    let end = c.in_ok-end.end.here in
    let e = subst (λ (k : ℕ). asks_line k (left end) end.place.line ≡ Some c.in_err-last.field-0.0) (length-take-le c.args.n four c.requires.few) c.in_err-last.ensures.asked in
    rw (p.1, p.2) (record { wrote = (point_unread four (g.F.Field.meaning c.args.field.now) c.args.n h.count h.rest end h.rest h.at h.line c.in_ok-end.ensures.asked.1 _ e, refl) })

pub returns-in-Some : goal.returns-in-Some
returns-in-Some g c =
    let m = g.F.Field.meaning c.args.field.now in
    let h = c.args.header in
    let ws = c.read.new.words in
    let end = c.in_ok-end.end.here in
    let last = c.in_ok-last.last.here in
    let l = subst (λ (k : ℕ). LinePassed k end last ws) (length-take-le c.args.n four c.requires.few) c.in_ok-last.ensures.asked.1 in
    let w = first_no_is m.elem ws (Some c.in-Some.word) c.in-Some.ensures.first in
    record {
      wrote = (word-refused ws m c.args.n h.count h.rest end last h.at h.line c.in_ok-end.ensures.asked.1 l _ w ∙ ap (λ (j : ℕ). Err (Point j (c.in-Some.word + 1))) (sym c.line.ensures), refl);
    }

pub returns-then-last : goal.returns-then-last
returns-then-last g c =
    let m = g.F.Field.meaning c.args.field.now in
    let h = c.args.header in
    let ws = c.read.new.words in
    let end = c.in_ok-end.end.here in
    let last = c.in_ok-last.last.here in
    let l = subst (λ (k : ℕ). LinePassed k end last ws) (length-take-le c.args.n four c.requires.few) c.in_ok-last.ensures.asked.1 in
    record { wrote = (more-follows ws m c.args.n h.count h.rest end last h.at h.line c.in_ok-end.ensures.asked.1 l (first_no_is m.elem ws _ c.in_default.ensures.first) c.if-last.true, refl) }

pub returns : goal.returns
returns g c =
    let m = g.F.Field.meaning c.args.field.now in
    let h = c.args.header in
    let ws = c.read.new.words in
    let n = c.args.n in
    let end = c.in_ok-end.end.here in
    let last = c.in_ok-last.last.here in
    let wide = length-take-le n four c.requires.few in
    let l = subst (λ (k : ℕ). LinePassed k end last ws) wide c.in_ok-last.ensures.asked.1 in
    let e = all-answered ws m n h.count h.rest end last h.at h.line c.in_ok-end.ensures.asked.1 l (first_no_is m.elem ws _ c.in_default.ensures.first) c.if-last.false in
    let start = left h.rest in
    let long : length ws ≡ n = c.read.auto.words ∙ wide in
    let same = ap₂ (λ (j : ℕ) (bs : List ℕ). value_lines (values_at m j ws h.count bs)) long c.lines.ensures in
    record {
      wrote = (values_at m n ws h.count start, e, c.write_values.ensures.bytes ∙ ap (put c.args.out.now 0) same, c.write_values.ensures.end ∙ ap length same, c.write_values.ensures.within);
    }
