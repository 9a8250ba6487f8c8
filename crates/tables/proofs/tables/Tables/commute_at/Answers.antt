use Rattle.std.proofs.Common.{sym, ◌∙◌, arith}
use Rattle.std.proofs.lemmas.Slice.Eq.{slice_eq-Decides}
use Rattle.std.proofs.lemmas.Bool.Decides.{Decides-eqb}
use Rattle.tables.specs.Holds.{stair_count}
use Rattle.tables.proofs.Commuting as commuting
use Rattle.tables.proofs.tables.Tables.commute_at.Goals as goal

pub returns-in_err-ahead : goal.returns-in_err-ahead
returns-in_err-ahead g c fit = absurd (c.in_err-ahead.ensures fit c.requires)

pub returns-in_err-back : goal.returns-in_err-back
returns-in_err-back g c fit = absurd (c.in_err-back.ensures (fit.0, fit.1, fit.3, fit.2, fit.4) c.requires)

pub returns : goal.returns
returns g c fit = record {
  tells = λ laws _.
      let m = g.F.Field.meaning c.args.field.now in
      let t = c.args.self.now in
      let a = c.in_ok-ahead.ensures fit c.requires in
      let b = c.in_ok-back.ensures (fit.0, fit.1, fit.3, fit.2, fit.4) c.requires in
      let d = c.size-d.result in
      let front = commuting.fronts_same d c.in_ok-ahead.ahead c.in_ok-back.back (omega (arith, t.few)) (omega (arith, t.few)) in
      let same = commuting.words_same m laws (stair_count t) c.in_ok-ahead.ahead c.in_ok-back.back (omega (arith, t.few)) (omega (arith, t.few)) a.0 b.0 in
      commuting.tells c.eq.result (slice_eq-Decides Decides-eqb _ _ _ c.eq.ensures) (
        λ e j h. sym (a.1 laws j h) ∙ same.0 (λ i l. front.0 e i (omega arith)) j h ∙ b.1 laws j h,
        λ h. front.1 (λ i l. same.1 (λ j q. a.1 laws j q ∙ h j q ∙ sym (b.1 laws j q)) i (omega arith)),
      );
}
