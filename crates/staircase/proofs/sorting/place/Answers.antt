use Rattle.std.proofs.Common.{arith}
use Rattle.order.specs.Monomials.{one, monomial}
use Rattle.staircase.proofs.Insertion.{put_here, put_there, put_more, put_last}
use Rattle.staircase.proofs.sorting.place.Goals as goal

pub returns-in-Less : goal.returns-in-Less
unfolding one monomial
returns-in-Less g c = (omega arith, put_here _ _ _ _ c.loop-i.invariant one c.loop-i-test.true c.in-Less.ensures.answer)

pub returns-in-Equal : goal.returns-in-Equal
unfolding one monomial
returns-in-Equal g c = put_there _ _ _ _ c.loop-i.invariant one c.loop-i-test.true c.in-Equal.ensures.answer

pub loop-i-preserved : goal.loop-i-preserved
unfolding one monomial
loop-i-preserved g c = put_more _ _ _ _ c.loop-i.invariant one c.loop-i-test.true c.in-Greater.ensures.answer

pub returns : goal.returns
returns g c = (omega arith, put_last _ _ _ _ c.loop-i.invariant (omega arith))
