use Rattle.std.proofs.Common.{ℕ, ◌<◌, refl, rules}
use Rattle.tables.specs.Agreeing.{Commute, DecidesCommuteBefore}
use Rattle.tables.proofs.Commuting as commuting
use Rattle.tables.proofs.tables.Tables.agree.Goals as goal

pub returns : goal.returns
returns g c laws cmp ps few H =
    let m = g.F.Field.meaning c.args.field.now in
    let t = c.args.self.now in
    let all = commuting.all_tell c.args.n (λ l. (k : ℕ) → k < l → Commute m laws t k l) _ _ _ refl c.all.ensures.ran (λ x b q k. let w : DecidesCommuteBefore m t x b = search rules in (search rules, λ l. w.tells laws c.args.n few l H.ready)) in
    let same = commuting.commuting m laws cmp c.args.n ps t H in
    (λ y. same.0 (all.0 y), λ a. all.1 (same.1 a))
