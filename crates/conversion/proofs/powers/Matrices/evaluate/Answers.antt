use Rattle.std.proofs.Common.{List, get_or, take, sym, ap, ◌∙◌, subst, arith}
use Rattle.std.proofs.lemmas.List.{take_more, take_all, get_or-replicate}
use Rattle.order.specs.Monomials.{one, monomial}
use Rattle.algebra.specs.Elements.{Elem}
use Rattle.staircase.specs.declared.rules.Term.{Term}
use Rattle.tables.specs.Holds.{stair_count}
use Rattle.conversion.specs.Powers.{Stands}
use Rattle.conversion.specs.Values.{value_of}
use Rattle.conversion.proofs.Evaluating.{value_more}
use Rattle.conversion.proofs.powers.Matrices.evaluate.Goals as goal

blank : Term
blank = record { coefficient = 0; monomial = one }

pub loop-term-init : goal.loop-term-init
loop-term-init g c laws j h = get_or-replicate 48 j c.zero-sum.result 0 (omega (arith, c.args.self.now.tables.now.few)) ∙ c.zero-sum.ensures

pub loop-term-preserved : goal.loop-term-preserved
unfolding blank one monomial
loop-term-preserved g c laws j h =
    let m = g.F.Field.meaning c.args.self.now.field.now in
    let t = c.args.self.now.tables.now in
    let n = c.args.self.now.n in
    let terms = c.args.terms.now in
    let i = c.loop-term.term-index in
    c.in_ok-add_term.ensures.added laws (value_of m laws t n (take i terms)) (c.loop-term.invariant laws) j h
    ∙ sym (ap (λ (xs : List Term). (value_of m laws t n xs j).0) (take_more terms i blank (omega arith)) ∙ ap (λ (x : Elem m). x.0) (value_more m laws t n j (take i terms) (get_or terms i blank)))

pub returns-clause-evaluated : goal.returns-clause-evaluated
returns-clause-evaluated g c laws =
    let m = g.F.Field.meaning c.args.self.now.field.now in
    let t = c.args.self.now.tables.now in
    subst (λ (xs : List Term). Stands m (stair_count t) c.loop-term.sum (value_of m laws t c.args.self.now.n xs)) (take_all c.loop-term.term-index c.args.terms.now (omega arith)) (c.loop-term.invariant laws)
