use Rattle.std.proofs.Common.{◌≤◌, length, Some, ap, arith}
use Rattle.std.proofs.lemmas.List.{length-take-le}
use Rattle.shaping.specs.Faults.{number_of, line_of, place_of, refusal}
use Rattle.shaping.specs.Answer.{basis_lines}
use Rattle.column.proofs.Places.{at_front}
use Rattle.shaping.proofs.Told.{basis_told, fault_told, fault_small, fault_printed}
use Rattle.shaping.proofs.answer.answer_to.Goals as goal

pub report-requires : goal.report-requires
report-requires c = record { small = fault_small c.args.text.now c.in-Err.fault c.in-Err.ensures.headed }

pub returns-in-Ok-clause-within : goal.returns-in-Ok-clause-within
returns-in-Ok-clause-within c = let room = c.in_ok-front.ensures.cases.enough in omega (arith, c.write.ensures.within, room)

pub returns-in-Ok-clause-answer : goal.returns-in-Ok-clause-answer
returns-in-Ok-clause-answer c room =
    let b = c.in-Ok.basis in
    let written = basis_lines b.n b.size b.k b.words in
    let short : length written ≤ 2161 = omega (arith, c.write.ensures.end, c.write.ensures.within) in
    (written, basis_told c.args.text.now b c.in-Ok.ensures.headed, ap Some c.write.ensures.end, at_front c.args.out.now c.in_ok-front.field-0.now c.write.new.out written 2161 c.in_ok-front.ensures.cases.same room c.write.ensures.bytes short)

pub returns-in-Err-clause-answer : goal.returns-in-Err-clause-answer
returns-in-Err-clause-answer c room =
    let f = c.in-Err.fault in
    let chunk = c.in_ok-front.ensures.cases in
    let line = c.write_line in
    let w = fault_printed c.in_ok-front.field-0.now line.new.out f c.report.result line.result (omega (arith, ap length chunk.same, length-take-le 2161 c.args.out.now room)) c.report.ensures.value line.ensures.long line.ensures.place_after line.ensures.rest_unchanged in
    (refusal (number_of f) (line_of f) (place_of f), fault_told c.args.text.now f c.in-Err.ensures.headed, w.0, at_front c.args.out.now c.in_ok-front.field-0.now line.new.out (refusal (number_of f) (line_of f) (place_of f)) 2161 chunk.same room w.1 w.2)
