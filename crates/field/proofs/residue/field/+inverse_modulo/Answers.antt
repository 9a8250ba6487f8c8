use Rattle.std.proofs.Common.{◌%◌, ◌<◌, mod-lt, arith}
use Rattle.field.specs.Primality.{tested, no_divisor}
use Rattle.field.specs.ResidueInverse.{step}
use Rattle.field.proofs.residue.field.+inverse_modulo.Goals as goal

pub inverse_modulo-s-requires : goal.inverse_modulo-s-requires
inverse_modulo-s-requires t c =
    let p = c.args.p in
    let a = c.args.a in
    let prime = tested p c.requires.prime in
    let pos : 0 < p % a = no_divisor p prime a (omega arith) (omega arith) in
    let low : p % a < a = mod-lt p (omega arith) in
    (omega arith, (c.requires.prime, (pos, omega arith)))

pub returns-else-a-eq1 : goal.returns-else-a-eq1
returns-else-a-eq1 t c =
    let pos : 0 < c.args.p = omega arith in
    rw (c.from.ensures, c.from-else-a-eq1.ensures, c.from-else-a-eq1-2.ensures)
    (mod-lt _ pos, step c.args.p c.args.a c.inverse_modulo-s.result pos (omega arith) c.inverse_modulo-s.ensures.1)
