use Rattle.std.proofs.Common.{ℕ, ◌+◌, List, length, sym, ◌∙◌, subst, arith}
use Rattle.std.proofs.lemmas.List.{length-take-le, take_at}
use Rattle.linear.specs.Recurrence.{Shortest}
use Rattle.linear.proofs.recurrence.recurrence_length.Goals as goal

pub returns-clause-shortest : goal.returns-clause-shortest
returns-clause-shortest g c =
    let n = length c.args.s.now + 1 in
    subst (λ (zs : List ℕ). Shortest (g.F.Field.meaning c.args.field.now) c.args.s.now zs c.shortest.result) (sym (take_at c.shortest.new.c _ n (c.shortest.auto.c ∙ length-take-le n c.args.c.now (omega arith)))) c.shortest.ensures
