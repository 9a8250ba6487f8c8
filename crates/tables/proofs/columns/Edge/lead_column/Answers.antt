use Rattle.std.proofs.Common.{◌≡◌, ℕ, ◌+◌, ◌-◌, ◌*◌, List, length, take, drop, sym, ap, ◌∙◌, arith, length-drop}
use Rattle.std.proofs.lemmas.List.{take_all, length-take-le}
use Rattle.std.proofs.lemmas.Slice.{between_to_end, put_mid-paste}
use Rattle.staircase.specs.declared.rules.Term.{Term}
use Rattle.staircase.specs.Rules.{opposite_words}
use Rattle.staircase.proofs.Opposites.{length_build}
use Rattle.tables.proofs.Answered.{on_ok}
use Rattle.tables.proofs.columns.Edge.lead_column.Goals as goal

pub returns : goal.returns
returns g c =
    let m = g.F.Field.meaning c.args.self.now.frame.now.field.now in
    let stairs = c.args.self.now.frame.now.stairs.now in
    let d = length stairs in
    let at = c.args.self.now.place * 48 in
    let columns = c.args.columns.now in
    let terms = c.args.terms.now in
    let width : at + d - at ≡ d = omega arith in
    let room : length (take (at + d - at) (drop at columns)) ≡ d = ap (λ (w : ℕ). length (take w (drop at columns))) width ∙ length-take-le d (drop at columns) (omega (arith, length-drop at columns, c.args.self.now.inside, c.args.self.now.frame.now.edged, c.args.self.now.frame.now.short)) in
    let e = c.opposite_column.ensures in
    let out = c.opposite_column.new.out in
    let fine = e.fits.1 (omega (arith, room)) in
    let long : length out ≡ d = c.opposite_column.auto.out ∙ room in
    let is : out ≡ opposite_words m (drop 1 terms) stairs = sym (take_all d out (omega (arith, long))) ∙ on_ok c.opposite_column.result fine e.column ∙ ap (λ (r : List Term). opposite_words m r stairs) (between_to_end terms 1 (length terms) (omega arith)) in
    record { fits = fine; pasted = put_mid-paste at (at + d - at) columns out (opposite_words m (drop 1 terms) stairs) d is (sym width) (sym (length_build d _)) }
