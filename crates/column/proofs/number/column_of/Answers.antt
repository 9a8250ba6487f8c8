-- The digits come last to first: each turn is a step of Spelling.
use Rattle.std.proofs.Common.{refl, replicate, ◌∙◌, arith, length-set}
use Rattle.column.proofs.Spelling.{spelled_none, spelled_room, spelled_more, blank_before, spelled_column}
use Rattle.column.proofs.number.column_of.Goals as goal

pub loop-rest-init : goal.loop-rest-init
loop-rest-init c = record { long = refl; blank = refl; spelled = spelled_none (replicate 11 32) c.args.number refl }

pub overflow_sub-place : goal.overflow_sub-place
overflow_sub-place c =
    let i = c.loop-rest.invariant in
    omega (arith, spelled_room c.loop-rest.bytes c.loop-rest.place c.args.number c.loop-rest.rest i.long (omega arith) i.spelled)

pub loop-rest-preserved : goal.loop-rest-preserved
loop-rest-preserved c =
    let i = c.loop-rest.invariant in
    record {
      long = length-set c.loop-rest.bytes _ _ ∙ i.long;
      blank = blank_before c.loop-rest.bytes c.loop-rest.place c.args.number c.loop-rest.rest i.long (omega arith) i.spelled _ i.blank;
      spelled = spelled_more c.loop-rest.bytes c.loop-rest.place c.args.number c.loop-rest.rest i.long (omega arith) i.spelled (omega arith);
    }

pub overflow_sub-bytes : goal.overflow_sub-bytes
overflow_sub-bytes c =
    let i = c.loop-rest.invariant in
    omega (arith, spelled_room c.loop-rest.bytes c.loop-rest.place c.args.number c.loop-rest.rest i.long (omega arith) i.spelled)

pub returns : goal.returns
returns c =
    let i = c.loop-rest.invariant in
    spelled_column c.loop-rest.bytes c.loop-rest.place c.args.number c.loop-rest.rest i.long (omega arith) i.spelled (omega arith) i.blank
