use Rattle.std.proofs.Common.{◌<◌, refl, arith, rules}
use Rattle.tables.specs.Agreeing.{Commute, DecidesCommute}
use Rattle.tables.proofs.Commuting.{all_tell}
use Rattle.tables.proofs.tables.Tables.commute_before.Goals as goal

pub returns : goal.returns
returns g c =
    let m = g.F.Field.meaning c.args.field.now in
    let t = c.args.self.now in
    record {
      tells = λ laws n few ln ready. all_tell c.args.l (λ k. Commute m laws t k c.args.l) _ _ _ refl c.all.ensures.ran (λ x b q k. let w : DecidesCommute m t x c.args.l b = search rules in (search rules, λ h. let kn : x < n = omega arith in w.tells laws (n, few, kn, ln, ready)));
    }
