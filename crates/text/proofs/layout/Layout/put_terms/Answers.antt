use Rattle.std.proofs.Common.{ℕ, ◌+◌, subst, arith, length-take}
use Rattle.std.proofs.lemmas.List.{take_all}
use Rattle.polynomials.specs.Held.{terms_of}
use Rattle.polynomials.proofs.Stored.{length_terms}
use Rattle.runs.specs.Writing.{term_line}
use Rattle.text.specs.Written.{Words, term_size}
use Rattle.text.proofs.Parts.{parts_none}
use Rattle.text.proofs.Placing.{terms_room, terms_fit, terms_more, terms_all}
use Rattle.text.proofs.layout.Layout.put_terms.Goals as goal

pub loop-term-init : goal.loop-term-init
loop-term-init c = (tt, parts_none (term_line c.args.self.n) (term_size c.args.self.n) (terms_of c.args.terms.now) c.args.out.now c.args.at)

pub put_line-end-requires : goal.put_line-end-requires
put_line-end-requires c =
    let room = terms_room c.args.self.n c.args.terms.now c.args.out.now c.args.at c.loop-term.term-index c.loop-term.end c.loop-term.out c.loop-term-test.true c.requires c.loop-term.invariant.1 in
    omega (arith, room, c.args.self.few, c.words_of-words.ensures.wide, length-take {A = ℕ} (c.args.self.n + 1) c.words_of-words.result, c.loop-term.auto.out)

pub loop-term-preserved : goal.loop-term-preserved
loop-term-preserved c = (
  terms_fit c.args.self.n c.args.terms.now c.args.out.now c.args.at c.loop-term.term-index _ _ c.loop-term-test.true (c.words_of-words.ensures.front c.args.self.n c.args.self.few) c.put_line-end.ensures.fit c.loop-term.invariant.0,
  terms_more c.args.self.n c.args.terms.now c.args.out.now c.args.at c.loop-term.term-index _ c.loop-term.out c.put_line-end.new.out _ c.loop-term.end c.put_line-end.result c.loop-term-test.true (omega (arith, c.requires)) c.loop-term.invariant.1
      (c.words_of-words.ensures.front c.args.self.n c.args.self.few) c.put_line-end.ensures.long c.put_line-end.ensures.bytes c.put_line-end.ensures.place_after,
)

pub returns : goal.returns
returns c =
    let p = terms_all c.args.self.n c.args.terms.now c.args.out.now c.args.at c.loop-term.term-index c.loop-term.end c.loop-term.out c.loop-term-test.false c.loop-term.invariant.1 in
    record { fit = subst Words (take_all c.loop-term.term-index (terms_of c.args.terms.now) (omega (arith, c.loop-term-test.false, length_terms c.args.terms.now))) c.loop-term.invariant.0; long = p.1; place_after = p.2; bytes = p.0 }
