use Rattle.std.proofs.Common.{◌≡◌, ℕ, ◌+◌, ◌*◌, ◌<◌, ◌≤◌, length, get_or, ap, ◌∙◌, arith}
use Rattle.std.proofs.lemmas.List.{length_push}
use Rattle.column.specs.Line.{line_length}
use Rattle.polynomials.specs.Held.{entries, held}
use Rattle.polynomials.specs.Left.{entries_left}
use Rattle.polynomials.proofs.Stored.{few_held}
use Rattle.text.specs.Written.{polynomial_size}
use Rattle.text.proofs.Parts.{sizes_all}
use Rattle.text.proofs.Placing.{size_more, size_small}
use Rattle.text.proofs.Turns.{turn, over}
use Rattle.text.proofs.layout.Layout.text_length.Goals as goal
use Rattle.text.proofs.layout.Layout.text_length.Goals.{In-Some}

here : (c : In-Some) → (length c.loop-terms.yielded < length (held c.args.polynomials.now)) × (c.in-Some.terms.now ≡ get_or (entries c.args.polynomials.now) (length c.loop-terms.yielded) c.in-Some.terms.now)
here c = turn c.args.polynomials.now _ (ap entries_left c.into_iter-terms-iterator.ensures.into_iter_gives ∙ c.iter-terms-items.ensures) c.loop-terms.yielded _ c.next.new.self c.loop-terms.yielded_by _ c.next.ensures.steps c.in-Some.terms c.in-Some.is

within : (c : In-Some) → (length c.loop-terms.yielded < 48) × (length c.in-Some.terms.now * line_length (c.args.self.n + 1) ≤ 57344)
within c =
    let s = c.args.polynomials.now in
    let h = here c in
    (omega (arith, h.0, few_held s), size_small s c.args.self.n (length c.loop-terms.yielded) c.in-Some.terms.now h.0 _ h.1 c.args.self.few)

pub overflow_mul-length : goal.overflow_mul-length
overflow_mul-length c = omega (arith, (within c).1)

pub overflow_add-length : goal.overflow_add-length
overflow_add-length c = omega (arith, (within c).1)

pub overflow_add-length-in-loop-terms : goal.overflow_add-length-in-loop-terms
overflow_add-length-in-loop-terms c = omega (arith, (within c).0, (within c).1, c.loop-terms.invariant.1)

pub loop-terms-preserved : goal.loop-terms-preserved
loop-terms-preserved c =
    let h = here c in
    rw (length_push c.loop-terms.yielded c.in-Some.terms) (
      size_more c.args.polynomials.now c.args.self.n (length c.loop-terms.yielded) c.in-Some.terms.now h.0 _ h.1 c.loop-terms.length c.loop-terms.invariant.0,
      omega (arith, (within c).1, c.loop-terms.invariant.1),
    )

pub returns : goal.returns
returns c =
    let s = c.args.polynomials.now in
    let all = over s _ (ap entries_left c.into_iter-terms-iterator.ensures.into_iter_gives ∙ c.iter-terms-items.ensures) c.loop-terms.yielded _ c.next.new.self c.loop-terms.yielded_by _ c.next.ensures.steps c.in-None.is in
    c.loop-terms.invariant.0 ∙ ap (λ (k : ℕ). 45 + k) (sizes_all (polynomial_size c.args.self.n) (held s) (length c.loop-terms.yielded) all)
