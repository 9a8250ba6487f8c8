-- The pass keeps what the bytes so far come to; at the end that is the whole column's answer.
use Rattle.std.proofs.Common.{◌≡◌, Some, None, sym, ap, ◌∙◌, arith}
use Rattle.std.proofs.lemmas.List.{take_all}
use Rattle.column.specs.Column.{Reads}
use Rattle.column.specs.Front.{front, found}
use Rattle.column.proofs.Columns.{reading_from, reads_other_length, reads_front}
use Rattle.column.proofs.Fronts.{front_more, front_broken}
use Rattle.column.proofs.number.read_column.Goals as goal

pub returns-then-bytes-ne-WIDTH : goal.returns-then-bytes-ne-WIDTH
returns-then-bytes-ne-WIDTH c =
    let h = reads_other_length c.args.bytes.now c.if-bytes-ne-WIDTH.true in
    record { exact = h; value = reading_from c.args.bytes.now None h }

pub loop-byte-preserved : goal.loop-byte-preserved
loop-byte-preserved c =
    front_more c.args.bytes.now c.loop-byte.byte-index c.loop-byte.front _ (omega arith) c.loop-byte.invariant (sym c.in_ok-front.was ∙ c.and_byte.ensures)

pub returns-in_err-front : goal.returns-in_err-front
returns-in_err-front c =
    let bs = c.args.bytes.now in
    let more = front_more bs c.loop-byte.byte-index c.loop-byte.front None (omega arith) c.loop-byte.invariant (sym c.in_err-front.was ∙ c.and_byte.ensures) in
    let h : Reads bs c.from_residual.result =
    reads_front bs c.from_residual.result (omega arith) (c.from_residual.ensures ∙ ap found (sym (front_broken bs _ more))) in
    record { exact = h; value = reading_from bs c.from_residual.result h }

pub returns : goal.returns
returns c =
    let bs = c.args.bytes.now in
    let all : front bs ≡ Some c.loop-byte.front = ap front (sym (take_all c.loop-byte.byte-index bs (omega arith))) ∙ c.loop-byte.invariant in
    let h : Reads bs c.loop-byte.front = reads_front bs c.loop-byte.front (omega arith) (ap found (sym all)) in
    record { exact = h; value = reading_from bs c.loop-byte.front h }
