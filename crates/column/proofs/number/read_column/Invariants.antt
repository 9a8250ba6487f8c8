use Rattle.std.proofs.Common.{◌≡◌, take, Some}
use Rattle.column.specs.Front.{front}
use Rattle.column.proofs.number.read_column.Given as goal

abbrev pub invariant-loop-byte : goal.invariant-loop-byte
invariant-loop-byte l = front (take l.byte-index l.bytes) ≡ Some l.front
