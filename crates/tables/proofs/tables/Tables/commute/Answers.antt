use Rattle.std.proofs.Common.{◌≡◌, Bool, false, Result, rules}
use Rattle.std.specs.Result.{IsOkAnd, result_unwrap_or}
use Rattle.linear.specs.declared.step.Misfit.{Misfit}
use Rattle.tables.specs.Holds.{stair_count}
use Rattle.tables.specs.Agreeing.{CommuteAt, StepsFit, DecidesCommuteAt}
use Rattle.tables.proofs.Answered.{unwrapped}
use Rattle.tables.proofs.Commuting.{all_tell}
use Rattle.tables.proofs.tables.Tables.commute.Goals as goal

pub returns : goal.returns
returns g c =
    let m = g.F.Field.meaning c.args.field.now in
    let t = c.args.self.now in
    record {
      tells = λ laws fit. all_tell (stair_count t) (CommuteAt m laws t c.args.k c.args.l) _ _ _ (search rules) c.all.ensures.ran (λ x b q k.
          let w : (r : Result Bool Misfit) × (StepsFit t c.args.k c.args.l → IsOkAnd r (DecidesCommuteAt m t c.args.k c.args.l x)) × (b ≡ result_unwrap_or r false) = search rules in
          (search rules, λ _. (unwrapped _ false w.0 b (w.1 fit) w.2).tells laws fit));
    }
