use Rattle.std.proofs.Common.{◌≡◌, ℕ, sym, ap, ◌∙◌, arith}
use Rattle.order.specs.Orders.{drl, lex}
use Rattle.shaping.specs.Questions.{order_by}
use Rattle.shaping.proofs.Heading.{ordered, reversed_is}
use Rattle.shaping.proofs.answer.basis_over.Goals as goal

pub returns-in-1 : goal.returns-in-1
returns-in-1 g c = record { ordered = ordered _ drl c.args.order c.args.n c.args.text.now c.shaped.result c.in_ok-ask_codes.ensures (sym (ap (λ (o : ℕ). order_by o c.args.n) c.in-1.is)) c.shaped.ensures.given }

pub returns-in-2 : goal.returns-in-2
returns-in-2 g c = record { ordered = ordered _ lex c.args.order c.args.n c.args.text.now c.shaped-in-2.result c.in_ok-ask_codes.ensures (sym (ap (λ (o : ℕ). order_by o c.args.n) c.in-2.is)) c.shaped-in-2.ensures.given }

pub returns-in-3 : goal.returns-in-3
returns-in-3 g c =
    let is = reversed_is (λ _. drl) _ c.args.n c.reversed.result c.reversed.ensures ∙ sym (ap (λ (o : ℕ). order_by o c.args.n) c.in-3.is) in
    record { ordered = ordered _ _ c.args.order c.args.n c.args.text.now c.shaped-in-3.result c.in_ok-ask_codes.ensures is c.shaped-in-3.ensures.given }

pub returns-in_default : goal.returns-in_default
returns-in_default g c =
    let four : c.args.order ≡ 4 = omega (arith, c.in_ok-ask_codes.ensures.0.0, c.in_ok-ask_codes.ensures.0.1) in
    let is = reversed_is (λ _. lex) _ c.args.n c.reversed-in_default.result c.reversed-in_default.ensures ∙ sym (ap (λ (o : ℕ). order_by o c.args.n) four) in
    record { ordered = ordered _ _ c.args.order c.args.n c.args.text.now c.shaped-in_default.result c.in_ok-ask_codes.ensures is c.shaped-in_default.ensures.given }
