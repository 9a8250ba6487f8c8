use Rattle.std.proofs.Common.{◌≡◌, ℕ, List, Some, Option, length, take, refl, sym, ap, subst, inl}
use Rattle.runs.specs.Job.{closed}
use Rattle.runs.specs.Call.{reduce}
use Rattle.polynomials.specs.Held.{held, terms_of}
use Rattle.polynomials.specs.Faults.{number_of, place_of}
use Rattle.tables.specs.declared.tables.Tables.{Tables}
use Rattle.tables.specs.Holds.{stair_count}
use Rattle.conversion.specs.Answer.{Reduces}
use Rattle.job.specs.State.{stairs_held, state}
use Rattle.job.proofs.Promises.{stage_closed, not_closed, broken}
use Rattle.job.proofs.Reading.{sound_closed, only_reads, elements-refused, exponents-refused, reduced}
use Rattle.job.proofs.job.Job.reduce.Goals as goal

pub returns-in_err-tables-clause-promised : goal.returns-in_err-tables-clause-promised
returns-in_err-tables-clause-promised g c =
    let m = g.F.Field.meaning c.args.self.now.field in
    let cmp = g.O.Order.meaning c.args.self.now.order in
    let O = g.met.O.Order.lawful c.args.self.now.order in
    let t = c.args.self.now.table in
    let e = c.in_err-tables.ensures in
    broken m cmp O t (reduce (terms_of c.args.terms.now) (length c.args.out.now)) _ c.from_residual.result c.in_err-tables.field-0.0 c.from_residual.ensures.1 (λ laws K. inl (not_closed t e.0, ap number_of e.1, refl, ap place_of e.1))

pub returns-in_err-ask_elements-clause-promised : goal.returns-in_err-ask_elements-clause-promised
returns-in_err-ask_elements-clause-promised g c =
    let m = g.F.Field.meaning c.args.self.now.field in
    let cmp = g.O.Order.meaning c.args.self.now.order in
    let O = g.met.O.Order.lawful c.args.self.now.order in
    let t = c.args.self.now.table in
    let shut : (state t).stage ≡ closed = stage_closed t c.in_ok-tables.tables.now c.in_ok-tables.ensures in
    let p = terms_of c.args.terms.now in
    let room = length c.args.out.now in
    broken m cmp O t (reduce p room) _ c.from_residual-in_err-ask_elements.result c.in_err-ask_elements.field-0.0 c.from_residual-in_err-ask_elements.ensures.1
    (λ laws K. elements-refused m cmp O t shut laws p room _ _ _ (c.in_err-ask_elements.ensures 0))

pub returns-in_err-ask_exponents-clause-promised : goal.returns-in_err-ask_exponents-clause-promised
returns-in_err-ask_exponents-clause-promised g c =
    let m = g.F.Field.meaning c.args.self.now.field in
    let cmp = g.O.Order.meaning c.args.self.now.order in
    let O = g.met.O.Order.lawful c.args.self.now.order in
    let t = c.args.self.now.table in
    let shut : (state t).stage ≡ closed = stage_closed t c.in_ok-tables.tables.now c.in_ok-tables.ensures in
    let p = terms_of c.args.terms.now in
    let room = length c.args.out.now in
    broken m cmp O t (reduce p room) _ c.from_residual-in_err-ask_exponents.result c.in_err-ask_exponents.field-0.0 c.from_residual-in_err-ask_exponents.ensures.1
    (λ laws K. exponents-refused m cmp O t shut laws p room (c.in_ok-ask_elements.ensures 0) _ _ _ (c.in_err-ask_exponents.ensures 0))

pub returns-clause-promised : goal.returns-clause-promised
returns-clause-promised g c =
    let m = g.F.Field.meaning c.args.self.now.field in
    let cmp = g.O.Order.meaning c.args.self.now.order in
    let O = g.met.O.Order.lawful c.args.self.now.order in
    let t = c.args.self.now.table in
    let p = terms_of c.args.terms.now in
    let room = length c.args.out.now in
    let x = c.in_ok-tables.tables.now in
    let made : t.tables ≡ Some x = c.in_ok-tables.ensures in
    let shut : (state t).stage ≡ closed = stage_closed t x made in
    let out = take (stairs_held t.tables) c.reduce.new.out in
    let same : take (stair_count x) c.reduce.new.out ≡ out = ap (λ (o : Option Tables). take (stairs_held o) c.reduce.new.out) (sym made) in
    only_reads m cmp O t (reduce p room) (λ _. out) c.reduce.result
    (λ laws K. reduced m cmp O t shut laws p room (c.in_ok-ask_elements.ensures 0) out c.reduce.result (c.in_ok-ask_exponents.ensures 0)
    (subst (λ (w : List ℕ). Reduces m laws cmp t.n (held t.polynomials) p room w c.reduce.result) same (c.reduce.ensures.answered laws cmp (held t.polynomials) O (sound_closed m laws cmp t shut K) (K.tables x made))))
    (λ _. refl)
