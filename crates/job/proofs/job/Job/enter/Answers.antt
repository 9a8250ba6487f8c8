use Rattle.std.proofs.Common.{◌≡◌, ℕ, ◌+◌, ◌≤◌, List, [], ◌∷◌, ◌++◌, length, refl, ap, subst, rules}
use Rattle.runs.specs.Job as def
use Rattle.polynomials.specs.Held.{held, terms_of}
use Rattle.polynomials.proofs.Stored.{length_terms}
use Rattle.runs.specs.Enter.{enter_asks}
use Rattle.runs.specs.Call.{enter, accepted}
use Rattle.tables.proofs.Answered.{on_ok}
use Rattle.job.specs.State.{state}
use Rattle.job.proofs.Promises.{no_tables, is_refused, broken, changed}
use Rattle.job.proofs.job.Job.enter.Goals as goal

pub returns-in_err-ask_enter : goal.returns-in_err-ask_enter
returns-in_err-ask_enter g c =
    let m = g.F.Field.meaning c.args.self.now.field in
    let cmp = g.O.Order.meaning c.args.self.now.order in
    let O = g.met.O.Order.lawful c.args.self.now.order in
    let t = c.args.self.now.table in
    let f = c.in_err-ask_enter.field-0.0 in
    record {
      asked = is_refused (enter_asks m cmp (state t) (terms_of c.args.terms.now)) c.from_residual.result f c.from_residual.ensures.1 c.in_err-ask_enter.ensures;
      entered = search rules;
      promised = broken m cmp O t (enter (terms_of c.args.terms.now)) (λ _. []) c.from_residual.result f c.from_residual.ensures.1 (λ laws K. c.in_err-ask_enter.ensures);
      same_field_and_order = (refl, refl);
    }

pub returns : goal.returns
returns g c =
    let m = g.F.Field.meaning c.args.self.now.field in
    let cmp = g.O.Order.meaning c.args.self.now.order in
    let O = g.met.O.Order.lawful c.args.self.now.order in
    let t = c.args.self.now.table in
    let y = c.in_ok-ask_enter.ensures in
    let p = terms_of c.args.terms.now in
    let room : def.terms_held (held t.polynomials) + length c.args.terms.now ≤ def.most_terms = subst (λ (k : ℕ). def.terms_held (held t.polynomials) + k ≤ def.most_terms) (length_terms c.args.terms.now) y.1.1.1.0 in
    let more : held c.push.new.self ≡ held t.polynomials ++ (p ∷ []) = on_ok c.push.result (c.push.ensures.answers.1 (y.1.0, room)) c.push.ensures.pushed in
    record {
      asked = y;
      entered = ap (λ (ps : List (List def.Term)). record { n = t.n; polynomials = ps; stage = (state t).stage }) more;
      promised = changed m cmp O t (enter p) (accepted []) _ (λ laws K. (y, refl)) (λ laws K. ap (λ (ps : List (List def.Term)). record { n = t.n; polynomials = ps; stage = (state t).stage }) more) (λ laws K x e. absurd (no_tables t y.0 x e));
      same_field_and_order = (refl, refl);
    }
