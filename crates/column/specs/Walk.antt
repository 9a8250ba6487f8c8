-- From line to line.
--   left r           the bytes of the reader's text from its line on
--   byte_after r     the byte where the next line begins, or why this one does not read, of what reading a line gave
-- Used by: Reader::read, and the text layers above. The words of the line and the byte after it are those of read_line.
use Rattle.std.specs.Prelude.{ℕ, List, drop, Result}
use Rattle.std.specs.Result as results
use Rattle.column.specs.declared.line.LineFault.{LineFault}
use Rattle.column.specs.declared.reader.Reader.{Reader}

abbrev pub left : Reader → List ℕ
left r = drop r.place.at r.text.now

abbrev pub byte_after : Result Reader LineFault → Result ℕ LineFault
byte_after r = results.result_map_both (λ q. q.place.at) (λ f. f) r
