use Rattle.std.proofs.Common.{◌≡◌, ℕ, ◌+◌, ◌-◌, ◌*◌, ◌<◌, ◌≤◌, T, List, length, get_or, take, sym, refl, ap, ◌∙◌, subst, add-one, arith, get_or-take, rules, below_more}
use Rattle.std.proofs.lemmas.List.{length-take-le}
use Rattle.linear.proofs.Writes.{put}
use Rattle.tables.specs.Holds.{stair_count}
use Rattle.conversion.specs.Powers.{Stands, unit, power, measure}
use Rattle.conversion.proofs.Overwriting.{mid_below, mid_in, mid_each, mid_length}
use Rattle.conversion.proofs.Standing.{dots, elem_by}
use Rattle.conversion.proofs.powers.Conversion.krylov.Goals as goal

pub loop-j-init : goal.loop-j-init
loop-j-init g c laws =
    let m = g.F.Field.meaning c.args.self.now.matrices.field.now in
    let t = c.args.self.now.matrices.tables.now in
    (λ j h. subst (λ (w : ℕ). T (m.elem w)) (sym (c.fill.ensures.clones j 0 (omega arith) refl ∙ c.zero.ensures)) laws.zero_in, λ i h. absurd (omega arith), λ i h. absurd (omega arith), λ j h. c.start.ensures laws j (omega (arith, t.few)))

pub slice_bounds-copy_from_slice-end-in-loop-j : goal.slice_bounds-copy_from_slice-end-in-loop-j
slice_bounds-copy_from_slice-end-in-loop-j g c =
    let t = c.args.self.now.matrices.tables.now in
    let l : c.loop-j.j * 48 + c.size-d.result ≤ length c.loop-j.vectors = omega (arith, t.few) in
    search rules

pub loop-j-preserved : goal.loop-j-preserved
loop-j-preserved g c laws =
    let m = g.F.Field.meaning c.args.self.now.matrices.field.now in
    let t = c.args.self.now.matrices.tables.now in
    let k = c.args.self.now.k in
    let r = c.args.self.now.r.now in
    let j = c.loop-j.j in
    let d = c.size-d.result in
    let inv = c.loop-j.invariant laws in
    let w : ℕ = j * 48 + d - j * 48 in
    let fits : j * 48 + w ≤ length c.loop-j.vectors = omega (arith, t.few) in
    let ys = c.copy_from_slice.new.self in
    let front : length (take (d - 0) c.loop-j.walk.vector) ≡ d - 0 = length-take-le (d - 0) c.loop-j.walk.vector (omega (arith, t.few)) in
    let same : length ys ≡ w = ap length c.copy_from_slice.ensures.after ∙ front ∙ omega arith in
    let word : (i : ℕ) → i < d → get_or ys i 0 ≡ get_or c.loop-j.walk.vector i 0 = λ i h. ap (λ (zs : List ℕ). get_or zs i 0) c.copy_from_slice.ensures.after ∙ get_or-take (d - 0) c.loop-j.walk.vector i 0 (omega arith) in (
      λ i h. mid_each (j * 48) w c.loop-j.vectors ys fits same (λ (x : ℕ). T (m.elem x)) inv.0 (λ i l. elem_by m laws _ (power m laws t k (unit m laws) j i) (word i (omega arith) ∙ inv.3 i (omega arith))) i (omega (arith, mid_length (j * 48) w c.loop-j.vectors ys fits same)),
      below_more _ _
          (λ i h l q. mid_below (j * 48) w c.loop-j.vectors ys fits same (i * 48 + l) (omega (arith, t.few)) ∙ inv.1 i h l q)
          (λ l q. mid_in (j * 48) w c.loop-j.vectors ys fits same l (omega arith) ∙ word l (omega arith) ∙ inv.3 l q),
      put c.loop-j.words j c.dot.result (λ i. (measure m laws t k r (unit m laws) i).0) (omega (arith, t.few)) inv.2
          (dots m laws (stair_count t) r c.loop-j.walk.vector c.dot.result (power m laws t k (unit m laws) j) c.args.self.now.exact (omega (arith, t.few)) c.dot.ensures.elements inv.3),
      subst (λ (i : ℕ). Stands m (stair_count t) c.advance.new.walk.vector (power m laws t k (unit m laws) i)) (sym (add-one j)) (c.in_ok-advance.ensures.advanced laws (power m laws t k (unit m laws) j) inv.3),
    )

pub returns : goal.returns
returns g c =
    let m = g.F.Field.meaning c.args.self.now.matrices.field.now in
    let t = c.args.self.now.matrices.tables.now in
    let all : c.loop-j.j ≡ stair_count t = omega arith in
    record {
      fits = tt;
      vectors = λ laws. let inv = c.loop-j.invariant laws in record { elements = inv.0; stand = λ j h. inv.1 j (omega arith) };
      words = λ laws j h. (c.loop-j.invariant laws).2 j (omega arith);
      next = λ laws. subst (λ (i : ℕ). Stands m (stair_count t) c.loop-j.walk.vector (power m laws t c.args.self.now.k (unit m laws) i)) all (c.loop-j.invariant laws).3;
    }
