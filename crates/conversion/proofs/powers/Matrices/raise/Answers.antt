use Rattle.std.proofs.Common.{◌≡◌, ℕ, sym, subst, add-one, arith}
use Rattle.tables.specs.Holds.{stair_count}
use Rattle.conversion.specs.Powers.{Stands, power}
use Rattle.conversion.proofs.powers.Matrices.raise.Goals as goal

pub loop-i-preserved : goal.loop-i-preserved
loop-i-preserved g c laws f s =
    let m = g.F.Field.meaning c.args.self.now.field.now in
    let t = c.args.self.now.tables.now in
    subst (λ (i : ℕ). Stands m (stair_count t) c.advance.new.walk.vector (power m laws t c.args.k f i)) (sym (add-one c.loop-i._i)) (c.in_ok-advance.ensures.advanced laws (power m laws t c.args.k f c.loop-i._i) (c.loop-i.invariant laws f s))

pub returns : goal.returns
returns g c =
    let m = g.F.Field.meaning c.args.self.now.field.now in
    let t = c.args.self.now.tables.now in
    let all : c.loop-i._i ≡ c.args.e = omega arith in
    record {
      fits = tt;
      raised = λ laws f s. subst (λ (i : ℕ). Stands m (stair_count t) c.loop-i.walk.vector (power m laws t c.args.k f i)) all (c.loop-i.invariant laws f s);
    }
