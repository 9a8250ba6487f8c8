use Rattle.std.proofs.Common.{◌≡◌, ◌+◌, length, set, sym, refl, ap, ◌∙◌, arith, length-set, length-take, get_or-take}
use Rattle.std.proofs.lemmas.Result.{err_from_is_err_and}
use Rattle.linear.specs.declared.elimination.EliminateFault.TheVariants.{Depends as First}
use Rattle.linear.proofs.Carry.{relation, inverse_there, kept}
use Rattle.linear.proofs.elimination.take.Goals as goal

pub returns-in_err-place-clause-stepped : goal.returns-in_err-place-clause-stepped
returns-in_err-place-clause-stepped g c laws given G =
    let nothing = rw c.in_err-place.ensures.ok_part at c.first_nonzero-left.ensures in
    let value = rw c.in_err-place.ensures.ok_part at c.in_err-place.ensures.value in
    let p = err_from_is_err_and c.from_residual.result c.from_residual.ensures.1 in
    let fault : p.0 ≡ First c.args.n = p.2 ∙ cc in
    rw (p.1, fault)
    (refl, G, relation _ laws _ _ _ _ _ _ _ _ c.requires.covered (omega arith) (λ i h. c.requires.wide i (omega arith)) c.requires.coordinate (omega arith) given G c.remainder.ensures.left nothing)

pub returns-in_err-q-clause-stepped : goal.returns-in_err-q-clause-stepped
returns-in_err-q-clause-stepped g c laws given G =
    let place = rw c.in_ok-place.ensures.ok_part at c.first_nonzero-left.ensures in
    absurd (inverse_there _ laws _ _ _ _ _ _ _ _ c.requires.covered (omega arith) (λ i h. c.requires.wide i (omega arith)) c.requires.coordinate (omega arith) given G c.remainder.ensures.left
    c.in_ok-place.place place.0 place.1 (sym c.inverse.ensures ∙ c.in_err-q.ensures.ok_part))

pub returns-clause-stepped : goal.returns-clause-stepped
returns-clause-stepped g c laws given G =
    let place = rw c.in_ok-place.ensures.ok_part at c.first_nonzero-left.ensures in
    let width = c.args.family.places + c.args.family.count in
    let row = set c.remainder.new.row (c.args.family.places + c.args.n) c.one.result in
    let long : length row ≡ length c.remainder.new.row = length-set c.remainder.new.row _ _ in
    (kept _ laws _ _ _ _ _ _ _ _ c.requires.covered (omega arith) (λ i h. c.requires.wide i (omega arith)) c.requires.coordinate (omega arith) given G c.remainder.ensures.left
    c.in_ok-place.place place.0 place.1 c.in_ok-q.q _ (sym c.inverse.ensures ∙ c.in_ok-q.ensures.ok_part) c.one.ensures (omega arith)
    c.keep.new.row (omega arith) c.keep.ensures.width
    (λ k h. c.keep.ensures.words k (omega (arith, length-take width row, c.requires.room)) ∙ ap ((g.F.Field.meaning c.args.field.now).mul c.in_ok-q.q) (get_or-take width row k 0 h)))
