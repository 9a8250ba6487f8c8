-- The two questions in their order, and the words of a line that passes both.
use Rattle.std.proofs.Common.{◌+◌, ◌-◌, ◌*◌, length, take, drop, Err, refl, sym, ◌∙◌, arith, length-drop}
use Rattle.column.specs.declared.line.LineFault.TheVariants.{WrongLength, NotANumber}
use Rattle.column.proofs.Exactness.{line_taken}
use Rattle.column.proofs.Pieces.{cut_length, numbers_cut, values_cut}
use Rattle.column.proofs.Questions.{refused_answer, read_answer, reading_wrong_length, reading_not_a_number, reading_words}
use Rattle.column.proofs.line.read_line.Goals as goal

pub take_words-requires : goal.take_words-requires
take_words-requires c =
    let n = length c.args.words.now in
    let bs = drop c.args.at c.args.bytes.now in
    let k = c.args.at + 11 * n - c.args.at in
    let room = c.if-not-ends_after.ensures.room refl in
    cut_length bs (take k bs) n k (omega arith) refl (omega (arith, room, length-drop c.args.at c.args.bytes.now))

pub returns-then-not-ends_after : goal.returns-then-not-ends_after
returns-then-not-ends_after c =
    let e = reading_wrong_length (length c.args.words.now) (drop c.args.at c.args.bytes.now) (sym c.if-not-ends_after.ensures.test) in
    let p = refused_answer c.args.bytes.now c.args.at c.args.words.now WrongLength e in
    record { place_after = p.0; words_taken = p.1; exact = line_taken c.args.bytes.now c.args.words.now c.args.words.now c.args.at (Err WrongLength) p.0 p.1; inside = tt }

pub returns-then-not-all_numbers : goal.returns-then-not-all_numbers
returns-then-not-all_numbers c =
    let n = length c.args.words.now in
    let bs = drop c.args.at c.args.bytes.now in
    let k = c.args.at + 11 * n - c.args.at in
    let room = c.if-not-ends_after.ensures.room refl in
    let same = numbers_cut bs (take k bs) n k (omega arith) refl (omega (arith, room, length-drop c.args.at c.args.bytes.now)) in
    let e = reading_not_a_number n bs (sym c.if-not-ends_after.ensures.test) (sym same ∙ sym c.if-not-all_numbers.ensures) in
    let p = refused_answer c.args.bytes.now c.args.at c.args.words.now NotANumber e in
    record { place_after = p.0; words_taken = p.1; exact = line_taken c.args.bytes.now c.args.words.now c.args.words.now c.args.at (Err NotANumber) p.0 p.1; inside = tt }

pub returns : goal.returns
returns c =
    let n = length c.args.words.now in
    let bs = drop c.args.at c.args.bytes.now in
    let k = c.args.at + 11 * n - c.args.at in
    let room = c.if-not-ends_after.ensures.room refl in
    let h = length-drop c.args.at c.args.bytes.now in
    let same = numbers_cut bs (take k bs) n k (omega arith) refl (omega (arith, room)) in
    let words = values_cut bs (take k bs) n k (omega arith) refl (omega (arith, room)) in
    let e = reading_words n bs (sym c.if-not-ends_after.ensures.test) (sym same ∙ sym c.if-not-all_numbers.ensures) in
    let p = read_answer c.args.bytes.now c.args.at c.args.words.now c.take_words.new.words e (c.take_words.ensures ∙ words) in
    record { place_after = p.0; words_taken = p.1; exact = line_taken c.args.bytes.now c.args.words.now c.take_words.new.words c.args.at _ p.0 p.1; inside = omega (arith, room) }
