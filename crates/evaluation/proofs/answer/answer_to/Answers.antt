use Rattle.std.proofs.Common.{◌≡◌, ℕ, ◌≤◌, length, IfSome, Option, sym, ap, ◌∙◌, subst, arith}
use Rattle.std.proofs.lemmas.List.{length-take-le}
use Rattle.column.specs.Line.{line}
use Rattle.column.proofs.Lines.{line_length_is}
use Rattle.evaluation.specs.Answer.{answer}
use Rattle.column.proofs.Places.{at_front}
use Rattle.evaluation.proofs.Deciding.{values_printed, fault_printed}
use Rattle.evaluation.proofs.answer.answer_to.Goals as goal

pub returns-in-Ok : goal.returns-in-Ok
returns-in-Ok c =
    let out = c.args.out.now in
    let chunk = c.in_ok-front.ensures.cases in
    let room : 8192 ≤ length out = chunk.enough in
    let long : length c.in_ok-front.field-0.now ≡ 8192 = ap length chunk.same ∙ length-take-le 8192 out room in
    let w = c.in-Ok.ensures.wrote in
    let done = values_printed c.args.text.now c.in_ok-front.field-0.now c.in-Ok.end c.answer_text.new.out w in
    let size : c.in-Ok.end ≡ length (answer c.args.text.now) = cc in
    let within : c.in-Ok.end ≤ 8192 = omega (arith, w.4) in
    record {
      within = omega arith;
      no_room = λ h. absurd (omega arith);
      answer = λ h. (done.0, at_front out _ c.answer_text.new.out (answer c.args.text.now) 8192 chunk.same room done.1 (omega arith));
    }

pub returns-in-Err : goal.returns-in-Err
returns-in-Err c =
    let out = c.args.out.now in
    let front = c.in_ok-front.field-0.now in
    let chunk = c.in_ok-front.ensures.cases in
    let room : 8192 ≤ length out = chunk.enough in
    let long : length front ≡ 8192 = ap length chunk.same ∙ length-take-le 8192 out room in
    let ws = c.report-report.result in
    let size = line_length_is ws c.report-report.ensures.words in
    let short : length (line ws) ≤ 8192 = omega (arith, size, ap length c.report-report.ensures.value) in
    let done =
    fault_printed c.args.text.now front c.in-Err.fault c.answer_text.new.out c.write_line.new.out ws c.write_line.result (omega arith) c.in-Err.ensures.wrote c.report-report.ensures.value short c.write_line.ensures.place_after c.write_line.ensures.rest_unchanged in
    let fits : length (answer c.args.text.now) ≤ length front = subst (λ (x : Option ℕ). IfSome x (λ n. n ≤ length front)) done.0 done.2 in
    let fits_out : length (answer c.args.text.now) ≤ length out = omega arith in
    record {
      within = subst (λ (x : Option ℕ). IfSome x (λ n. n ≤ length out)) (sym done.0) fits_out;
      no_room = λ h. absurd (omega arith);
      answer = λ h. (done.0, at_front out front c.write_line.new.out (answer c.args.text.now) 8192 chunk.same room done.1 (omega arith));
    }
