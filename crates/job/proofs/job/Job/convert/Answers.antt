use Rattle.std.proofs.Common.{◌≡◌, ℕ, ◌*◌, List, Some, Option, length, take, refl, sym, ap, subst, inl}
use Rattle.runs.specs.Job.{closed}
use Rattle.runs.specs.Call.{convert}
use Rattle.polynomials.specs.Held.{held}
use Rattle.polynomials.specs.Faults.{number_of, place_of}
use Rattle.tables.specs.declared.tables.Tables.{Tables}
use Rattle.tables.specs.Holds.{stair_count}
use Rattle.conversion.specs.Answer.{Converted}
use Rattle.job.specs.State.{stairs_held, state}
use Rattle.job.proofs.Promises.{stage_closed, not_closed, broken}
use Rattle.job.proofs.Reading.{sound_closed, only_reads, converted}
use Rattle.job.proofs.job.Job.convert.Goals as goal

pub returns-in_err-tables-clause-promised : goal.returns-in_err-tables-clause-promised
returns-in_err-tables-clause-promised g c =
    let t = c.args.self.now.table in
    let e = c.in_err-tables.ensures in
    broken (g.F.Field.meaning c.args.self.now.field) (g.O.Order.meaning c.args.self.now.order) (g.met.O.Order.lawful c.args.self.now.order) t (convert c.args.k c.args.r.now (length c.args.out.now)) _ c.from_residual.result c.in_err-tables.field-0.0 c.from_residual.ensures.1
    (λ laws K. inl (not_closed t e.0, ap number_of e.1, refl, ap place_of e.1))

pub returns-clause-promised : goal.returns-clause-promised
returns-clause-promised g c =
    let m = g.F.Field.meaning c.args.self.now.field in
    let cmp = g.O.Order.meaning c.args.self.now.order in
    let O = g.met.O.Order.lawful c.args.self.now.order in
    let t = c.args.self.now.table in
    let x = c.in_ok-tables.tables.now in
    let made : t.tables ≡ Some x = c.in_ok-tables.ensures in
    let shut : (state t).stage ≡ closed = stage_closed t x made in
    let out = take (t.n * stairs_held t.tables) c.convert.new.out in
    let same : take (t.n * stair_count x) c.convert.new.out ≡ out = ap (λ (o : Option Tables). take (t.n * stairs_held o) c.convert.new.out) (sym made) in
    only_reads m cmp O t (convert c.args.k c.args.r.now (length c.args.out.now)) (λ _. out) c.convert.result
    (λ laws K. converted m cmp O t shut laws c.args.k c.args.r.now (length c.args.out.now) out c.convert.result
    (subst (λ (w : List ℕ). Converted m laws cmp t.n (held t.polynomials) c.args.k c.args.r.now (length c.args.out.now) w c.convert.result) same
    (c.convert.ensures.answered laws cmp (held t.polynomials) O (sound_closed m laws cmp t shut K) (K.tables x made))))
    (λ _. refl)
