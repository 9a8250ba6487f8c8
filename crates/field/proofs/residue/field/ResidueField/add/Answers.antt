use Rattle.std.proofs.Common.{◌+◌, ◌<◌, mod-lt, arith}
use Rattle.field.specs.Primality.{tested}
use Rattle.field.proofs.residue.field.ResidueField.add.Goals as goal

pub overflow_cast-result : goal.overflow_cast-result
overflow_cast-result c =
    let p = c.args.self.now.p in
    let t = tested p c.args.self.now.prime in
    let pos : 0 < p = omega arith in
    omega (arith, mod-lt (c.args.a + c.args.b) pos)
