use Rattle.std.proofs.Common.{rules, tests}
use Rattle.staircase.proofs.Outside.{kept_outside}
use Rattle.staircase.proofs.edges.outside.Goals as goal

pub returns : goal.returns
returns c = kept_outside c.args.stairs.now c.args.k c.args.m c.raised.result c.filter.result c.raised.ensures (search (rules, tests))
