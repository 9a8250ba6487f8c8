use Rattle.std.proofs.Common.{◌≡◌, ℕ, [], ◌∷◌, length, sym, refl, subst}
use Rattle.runs.specs.Question.{single, AllYes, Refused}
use Rattle.runs.specs.Job.{opened}
use Rattle.runs.specs.Enter.{room_asks, terms_asks}
use Rattle.polynomials.specs.Held.{terms_of}
use Rattle.polynomials.specs.Faults.{number_of, place_of}
use Rattle.polynomials.proofs.Answering.{asked_break, asked_after}
use Rattle.polynomials.proofs.Stored.{length_terms}
use Rattle.job.specs.State.{state}
use Rattle.job.proofs.job.Job.ask_enter.Goals as goal

pub returns-in_err-ask_room : goal.returns-in_err-ask_room
returns-in_err-ask_room g c =
    let m = g.F.Field.meaning c.args.self.now.field in
    let cmp = g.O.Order.meaning c.args.self.now.order in
    let t = c.args.self.now.table in
    let p = terms_of c.args.terms.now in
    let f = c.in_err-ask_room.field-0.0 in
    let stays = c.in_ok-ask_open.ensures in
    let no = subst (λ (k : ℕ). Refused (room_asks 0 (state t) k) (number_of f) 0 (place_of f)) (sym (length_terms c.args.terms.now)) (c.in_err-ask_room.ensures 0 (state t) refl) in
    asked_break 0 (single 5 0 ((state t).stage ≡ opened) ∷ []) (room_asks 0 (state t) (length p)) (terms_asks m cmp t.n 0 p) c.from_residual-in_err-ask_room.result f c.from_residual-in_err-ask_room.ensures.1 (stays, tt) no

pub returns : goal.returns
returns g c =
    let m = g.F.Field.meaning c.args.self.now.field in
    let cmp = g.O.Order.meaning c.args.self.now.order in
    let t = c.args.self.now.table in
    let p = terms_of c.args.terms.now in
    let stays = c.in_ok-ask_open.ensures in
    let room = subst (λ (k : ℕ). AllYes (room_asks 0 (state t) k)) (sym (length_terms c.args.terms.now)) (c.in_ok-ask_room.ensures 0 (state t) refl) in
    asked_after 0 (single 5 0 ((state t).stage ≡ opened) ∷ room_asks 0 (state t) (length p)) (terms_asks m cmp t.n 0 p) c.ask_terms.result (stays, room) (c.ask_terms.ensures 0)
