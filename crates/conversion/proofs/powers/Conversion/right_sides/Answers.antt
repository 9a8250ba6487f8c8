use Rattle.std.proofs.Common.{ℕ, ◌≢◌, List, [], get_or, set, sym, ◌∙◌, subst, arith, length-set, below_more}
use Rattle.std.proofs.lemmas.List.{get_or-set_same, get_or-set_other}
use Rattle.field.specs.Meaning.{FieldLaws}
use Rattle.tables.specs.Holds.{stair_count}
use Rattle.conversion.specs.Powers.{Stands, map_of, unit, measure}
use Rattle.conversion.proofs.powers.Conversion.right_sides.Goals as goal

pub loop-i-preserved : goal.loop-i-preserved
loop-i-preserved g c =
    let m = g.F.Field.meaning c.args.self.now.matrices.field.now in
    let t = c.args.self.now.matrices.tables.now in
    let i = c.loop-i.i in
    let sides = c.loop-i.sides in
    let side = c.in_ok-sides.field-0 in
    let Is : ℕ → List ℕ → Type 0 = λ r side. (laws : FieldLaws m) → r ≢ c.args.self.now.k → Stands m (stair_count t) side (measure m laws t c.args.self.now.k c.args.self.now.r.now (map_of m laws t r (unit m laws))) in (
      length-set sides i side ∙ c.loop-i.invariant.0,
      below_more (λ r. Is r (get_or (set sides i side) r [])) i
          (λ r h. subst (Is r) (sym (get_or-set_other sides i r side [] (λ e. omega arith))) (c.loop-i.invariant.1 r h))
          (subst (Is i) (sym (get_or-set_same sides i side [] (omega (arith, c.loop-i.invariant.0)))) c.in_ok-sides.ensures.measured),
    )

pub returns-clause-measured : goal.returns-clause-measured
returns-clause-measured g c laws i h ne = c.loop-i.invariant.1 i (omega arith) laws ne
