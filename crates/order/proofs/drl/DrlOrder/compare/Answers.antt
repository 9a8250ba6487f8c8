use Rattle.std.proofs.Common.{◌≡◌, [], Ordering, Less, Equal, Greater, ap₂, sym, ◌∙◌, rules, tests}
use Rattle.std.specs.Ordering.{ordering_then, nat_cmp, MatchOrdering}
use Rattle.std.specs.Cmp.Lexicographic.{slice_cmp}
use Rattle.order.specs.Monomials.{variables, exponent, degree}
use Rattle.order.specs.Orders.{drl}
use Rattle.order.specs.Numbers.{number_cmp}
use Rattle.order.proofs.Arrays.{up, up_lowest}
use Rattle.order.proofs.drl.DrlOrder.compare.Goals as goal

joined : (o r t : Ordering) (P : Type 0) → MatchOrdering o (r ≡ Less) P (r ≡ Greater) → (P → r ≡ t) → r ≡ ordering_then o t
joined Less r t P h k = h
joined Equal r t P h k = k h
joined Greater r t P h k = h

pub returns-clause-answer : goal.returns-clause-answer
unfolding drl exponent
returns-clause-answer c =
    let a = c.args.a in
    let b = c.args.b in
    joined c.cmp.result c.then_with.result (slice_cmp nat_cmp (up variables (exponent b) []) (up variables (exponent a) [])) _ c.then_with.ensures (λ h. search (rules, tests))
    ∙ rw (c.cmp.ensures, c.degree.ensures.value, c.degree-2.ensures.value)
    (ap₂ ordering_then (sym (number_cmp (degree a) (degree b))) (up_lowest variables (exponent b) (exponent a)))
