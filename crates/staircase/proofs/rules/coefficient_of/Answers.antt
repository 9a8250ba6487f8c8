use Rattle.std.proofs.Common.{◌≡◌, ℕ, ◌≢◌, T, [], ◌∷◌, sym, ap, ◌∙◌, subst, rules}
use Rattle.staircase.proofs.Backwards.{back_none, back_more}
use Rattle.staircase.proofs.Opposites.{term_counts, term_skipped}
use Rattle.staircase.proofs.rules.coefficient_of.Goals as goal

pub loop-t-init : goal.loop-t-init
loop-t-init g c =
    let m = g.F.Field.meaning c.args.field.now in
    ([], back_none c.args.terms.now _ (search rules), subst (λ (w : ℕ). T (m.elem w)) (sym c.zero-sum.ensures) (g.met.F.Field.lawful c.args.field.now).zero_in, c.zero-sum.ensures)

pub loop-t-preserved-then-eq : goal.loop-t-preserved-then-eq
loop-t-preserved-then-eq g c =
    let m = g.F.Field.meaning c.args.field.now in
    let inv = c.loop-t.invariant in
    let t = c.in-Some.t.now in
    let same : c.in-Some.t.now.monomial ≡ c.args.m = search rules in
    let n = term_counts m (g.met.F.Field.lawful c.args.field.now) (g.met.F.Field.everywhere c.args.field.now) t inv.0 c.args.m c.loop-t.sum c.add-sum.result same inv.3
    (c.add-sum.ensures ∙ ap (λ (x : ℕ). m.add x c.loop-t.sum) (c.mul.ensures ∙ ap (m.mul t.coefficient) c.one.ensures)) in
    (t ∷ inv.0, back_more c.args.terms.now _ inv.0 _ t inv.1 c.in-Some.ensures.steps, n.0, n.1)

pub loop-t-preserved : goal.loop-t-preserved
loop-t-preserved g c =
    let m = g.F.Field.meaning c.args.field.now in
    let inv = c.loop-t.invariant in
    let t = c.in-Some.t.now in
    let other : c.in-Some.t.now.monomial ≢ c.args.m = search rules in
    (t ∷ inv.0, back_more c.args.terms.now _ inv.0 _ t inv.1 c.in-Some.ensures.steps, inv.2, term_skipped m (g.met.F.Field.lawful c.args.field.now) (g.met.F.Field.everywhere c.args.field.now) t inv.0 c.args.m c.loop-t.sum other inv.2 inv.3)
