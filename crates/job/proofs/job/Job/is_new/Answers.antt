use Rattle.std.proofs.Common.{length, sym, refl, ap, ◌∙◌}
use Rattle.std.proofs.lemmas.Bool.{eqb-true, eq-eqb}
use Rattle.polynomials.specs.Held.{held}
use Rattle.std.proofs.lemmas.List.{nil_from_length}
use Rattle.job.proofs.job.Job.is_new.Goals as goal

pub returns-then-is_open : goal.returns-then-is_open
returns-then-is_open g c =
    let ps = held c.args.self.now.table.polynomials in
    (λ e. (c.if-is_open.ensures.0 refl, nil_from_length ps (sym c.count.ensures ∙ eqb-true c.count.result 0 e)), λ x. eq-eqb c.count.result 0 (c.count.ensures ∙ ap length x.1))
