use Rattle.std.proofs.Common.{◌≡◌, length, take, replicate}
use Rattle.column.proofs.Spelling.{Spelled}
use Rattle.column.proofs.number.column_of.Given as goal

abbrev pub invariant-loop-rest : goal.invariant-loop-rest
invariant-loop-rest l = record {
  long : length l.bytes ≡ 11;
  blank : take l.place l.bytes ≡ replicate l.place 32;
  spelled : Spelled l.bytes l.place l.number l.rest;
}

abbrev pub decreases-loop-rest : goal.decreases-loop-rest
decreases-loop-rest l = l.rest
