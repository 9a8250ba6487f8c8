use Rattle.std.proofs.Common.{length, ap, ◌∙◌, subst, arith}
use Rattle.std.proofs.lemmas.List.{length_push, take_all}
use Rattle.polynomials.specs.Held.{held}
use Rattle.polynomials.specs.Left.{entries_left}
use Rattle.runs.specs.Writing.{polynomial_text}
use Rattle.text.specs.Written.{AllWords, polynomial_size}
use Rattle.text.proofs.Parts.{parts_none, parts_all}
use Rattle.text.proofs.Placing.{entry_few, entry_room, entries_fit, entries_more}
use Rattle.text.proofs.Turns.{turn, over}
use Rattle.text.proofs.layout.Layout.put_polynomials.Goals as goal

pub loop-terms-init : goal.loop-terms-init
loop-terms-init c = (tt, parts_none (polynomial_text c.args.self.n) (polynomial_size c.args.self.n) (held c.args.polynomials.now) c.args.out.now c.args.at)

pub put_polynomial-end-requires : goal.put_polynomial-end-requires
put_polynomial-end-requires c =
    let s = c.args.polynomials.now in
    let h = turn s _ (ap entries_left c.into_iter-terms-iterator.ensures.into_iter_gives ∙ c.iter-terms-items.ensures) c.loop-terms.yielded _ c.next.new.self c.loop-terms.yielded_by _ c.next.ensures.steps c.in-Some.terms c.in-Some.is in
    let room = entry_room s c.args.self.n (length c.loop-terms.yielded) c.in-Some.terms.now h.0 _ h.1 c.args.out.now c.loop-terms.out c.args.at c.loop-terms.end c.requires c.loop-terms.invariant.1 in
    record { short = entry_few s c.args.self.n (length c.loop-terms.yielded) c.in-Some.terms.now h.0 _ h.1; room = omega (arith, room, c.loop-terms.auto.out) }

pub loop-terms-preserved : goal.loop-terms-preserved
loop-terms-preserved c =
    let s = c.args.polynomials.now in
    let h = turn s _ (ap entries_left c.into_iter-terms-iterator.ensures.into_iter_gives ∙ c.iter-terms-items.ensures) c.loop-terms.yielded _ c.next.new.self c.loop-terms.yielded_by _ c.next.ensures.steps c.in-Some.terms c.in-Some.is in
    let i = length c.loop-terms.yielded in
    rw (length_push c.loop-terms.yielded c.in-Some.terms) (
      entries_fit s c.args.self.n i c.in-Some.terms.now h.0 _ h.1 c.loop-terms.invariant.0 c.put_polynomial-end.ensures.fit,
      entries_more s c.args.self.n i c.in-Some.terms.now h.0 _ h.1 c.args.out.now c.loop-terms.out c.put_polynomial-end.new.out c.args.at c.loop-terms.end c.put_polynomial-end.result (omega (arith, c.requires)) c.loop-terms.invariant.1
          c.put_polynomial-end.ensures.long c.put_polynomial-end.ensures.bytes c.put_polynomial-end.ensures.place_after,
    )

pub returns : goal.returns
returns c =
    let s = c.args.polynomials.now in
    let all = over s _ (ap entries_left c.into_iter-terms-iterator.ensures.into_iter_gives ∙ c.iter-terms-items.ensures) c.loop-terms.yielded _ c.next.new.self c.loop-terms.yielded_by _ c.next.ensures.steps c.in-None.is in
    let p = parts_all (polynomial_text c.args.self.n) (polynomial_size c.args.self.n) (held s) c.args.out.now c.args.at (length c.loop-terms.yielded) c.loop-terms.out c.loop-terms.end all c.loop-terms.invariant.1 in
    record { fit = subst AllWords (take_all (length c.loop-terms.yielded) (held s) all) c.loop-terms.invariant.0; long = p.1; place_after = p.2; bytes = p.0 }
