use Rattle.std.proofs.Common.{◌≡◌, ℕ, suc, ◌-◌, subst, arith}
use Rattle.order.specs.Monomials.{exponent}
use Rattle.algebra.specs.Elements.{Elem, field_of}
use Rattle.tables.specs.Holds.{stair_count}
use Rattle.conversion.specs.Powers.{Stands, map_of, power}
use Rattle.conversion.proofs.Evaluating.{through, through_acts}
use Rattle.conversion.proofs.powers.Matrices.act.Goals as goal

pub loop-k-init : goal.loop-k-init
loop-k-init g c laws f s =
    let m = g.F.Field.meaning c.args.self.now.field.now in
    let t = c.args.self.now.tables.now in
    let n = c.args.self.now.n in
    let none : 0 ≡ n - n = omega arith in
    subst (λ (j : ℕ). Stands m (stair_count t) c.args.walk.now.vector (through (field_of m laws) (map_of m laws t) (exponent c.args.monomial) j n f)) none s

pub loop-k-preserved : goal.loop-k-preserved
loop-k-preserved g c laws f s =
    let m = g.F.Field.meaning c.args.self.now.field.now in
    let t = c.args.self.now.tables.now in
    let n = c.args.self.now.n in
    let k = c.loop-k.k in
    let ex = exponent c.args.monomial in
    let last = c.raise.new.walk.vector in
    let here : k ≡ suc (k - 1) = omega arith in
    let more : suc (n - k) ≡ n - (k - 1) = omega arith in
    let rest : ℕ → Elem m = through (field_of m laws) (map_of m laws t) ex (n - k) (suc (k - 1)) f in
    subst (λ (j : ℕ). Stands m (stair_count t) last (through (field_of m laws) (map_of m laws t) ex j (k - 1) f)) more
    (subst (λ (e : ℕ). Stands m (stair_count t) last (power m laws t (k - 1) rest e)) c.exponent.ensures
    (c.in_ok-raise.ensures.raised laws rest (subst (λ (i : ℕ). Stands m (stair_count t) c.loop-k.walk.vector (through (field_of m laws) (map_of m laws t) ex (n - k) i f)) here (c.loop-k.invariant laws f s))))

pub returns : goal.returns
returns g c =
    let m = g.F.Field.meaning c.args.self.now.field.now in
    let t = c.args.self.now.tables.now in
    let n = c.args.self.now.n in
    let ex = exponent c.args.monomial in
    let end : c.loop-k.k ≡ 0 = omega arith in
    let all : n - 0 ≡ n = omega arith in
    record {
      fits = tt;
      acted = λ laws f s.
          subst (Stands m (stair_count t) c.loop-k.walk.vector) (through_acts (field_of m laws) (map_of m laws t) ex n f)
          (subst (λ (j : ℕ). Stands m (stair_count t) c.loop-k.walk.vector (through (field_of m laws) (map_of m laws t) ex j 0 f)) all
          (subst (λ (i : ℕ). Stands m (stair_count t) c.loop-k.walk.vector (through (field_of m laws) (map_of m laws t) ex (n - i) i f)) end (c.loop-k.invariant laws f s)));
    }
