use Rattle.std.proofs.Common.{arith}
use Rattle.text.proofs.Placing.{polynomial_placed}
use Rattle.text.proofs.layout.Layout.put_polynomial.Goals as goal

pub returns-clause-bytes : goal.returns-clause-bytes
returns-clause-bytes c =
    polynomial_placed c.args.self.n c.args.terms.now c.args.out.now c.args.at c.put_line-first.new.out c.put_terms.new.out c.put_line-first.result (omega (arith, c.requires.room))
    c.put_line-first.ensures.long c.put_line-first.ensures.place_after c.put_line-first.ensures.bytes c.put_terms.ensures.bytes
