use Rattle.std.proofs.Common.{◌≡◌, ℕ, ◌<◌, ap, ◌∙◌}
use mathlib.Core.Path.{subst⁻¹}
use Rattle.field.specs.Bytes.{poly_remainder, byte_product}
use Rattle.field.specs.ByteLaws.{within}
use Rattle.field.proofs.bytes.times.Goals as goal

pub returns : goal.returns
unfolding byte_product
returns c =
    let a = c.args.a in
    let b = c.args.b in
    let e : c.reduced.result ≡ byte_product a b = c.reduced.ensures ∙ ap (poly_remainder 7) c.multiplied.ensures.0 in
    (e, subst⁻¹ (λ (x : ℕ). x < 256) e (within a b c.requires.0 c.requires.1))
