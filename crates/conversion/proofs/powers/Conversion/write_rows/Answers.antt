use Rattle.std.proofs.Common.{◌≡◌, ℕ, ◌+◌, ◌-◌, ◌*◌, ◌<◌, ◌≤◌, ◌≢◌, [], length, get_or, take, drop, sym, ◌∙◌, subst, arith, below_more}
use borrow.Rule.Slice.PartMut.{put_mid}
use Rattle.std.proofs.lemmas.Slice.{drop-put_mid}
use Rattle.linear.specs.Elimination.{Table}
use Rattle.conversion.specs.Powers.{Stands}
use Rattle.conversion.specs.Rows.{Row}
use Rattle.staircase.proofs.Replacing.{before_column}
use Rattle.conversion.proofs.Overwriting.{mid_below, mid_in, part_length}
use Rattle.conversion.proofs.Solving.{row_along}
use Rattle.conversion.proofs.powers.Conversion.write_rows.Goals as goal

pub loop-i-preserved : goal.loop-i-preserved
loop-i-preserved g c =
    let m = g.F.Field.meaning c.args.self.now.matrices.field.now in
    let i = c.loop-i.i in
    let d = c.size-d.result in
    let n = c.args.self.now.matrices.n in
    let k = c.args.self.now.k in
    let ends = before_column i n d c.loop-i-test.true in
    let w : ℕ = i * d + d - i * d in
    let wd : w ≡ d = omega arith in
    let all : n * d ≤ length c.args.out.now = subst (λ (x : ℕ). n * x ≤ length c.args.out.now) (sym c.size-d.ensures) c.requires in
    let fits : i * d + w ≤ length c.loop-i.out = omega arith in
    let ys = c.write_row.new.out in
    let part : length (take w (drop (i * d) c.loop-i.out)) ≡ d = part_length (i * d) w c.loop-i.out fits ∙ wd in
    let same : length ys ≡ w = c.write_row.auto.out ∙ part ∙ sym wd in (
      drop-put_mid (i * d) w c.loop-i.out ys (n * d) (omega arith) (omega arith) same ∙ c.loop-i.invariant.0,
      below_more _ _
          (λ r h laws v b G st. row_along m laws d v c.args.connection.now (b r) r k (λ l. get_or c.loop-i.out (r * d + l) 0) (λ l. get_or (put_mid (i * d) w c.loop-i.out ys) (r * d + l) 0)
          (λ l q. mid_below (i * d) w c.loop-i.out ys fits same (r * d + l) (omega (arith, before_column r i d h)))
          (c.loop-i.invariant.1 r h laws v b G st))
          (λ laws v b G st. row_along m laws d v c.args.connection.now (b i) i k (λ l. get_or ys l 0) (λ l. get_or (put_mid (i * d) w c.loop-i.out ys) (i * d + l) 0)
          (λ l q. mid_in (i * d) w c.loop-i.out ys fits same l (omega arith))
          (subst (λ (x : ℕ). Row m laws x v c.args.connection.now (b i) i k (λ l. get_or ys l 0)) part (c.write_row.ensures laws v (b i) (subst (λ (x : ℕ). Table m laws x x v c.args.echelon.now.rows c.args.echelon.now.pivots) (sym part) G) (λ ne j q. st i c.loop-i-test.true ne j (omega arith))))),
    )

pub returns : goal.returns
returns g c =
    let m = g.F.Field.meaning c.args.self.now.matrices.field.now in
    let n = c.args.self.now.matrices.n in
    let out = c.loop-i.out in
    let connection = c.args.connection.now in
    record {
      rest_unchanged = subst (λ (d : ℕ). drop (n * d) out ≡ drop (n * d) c.args.out.now) c.size-d.ensures c.loop-i.invariant.0;
      rows = λ laws v b.
          subst (λ (d : ℕ). Table m laws d d v c.args.echelon.now.rows c.args.echelon.now.pivots → ((i : ℕ) → i < n → i ≢ c.args.self.now.k → Stands m d (get_or c.args.sides.now i []) (b i)) → (i : ℕ) → i < n → Row m laws d v connection (b i) i c.args.self.now.k (λ l. get_or out (i * d + l) 0)) c.size-d.ensures
          (λ G st i h. c.loop-i.invariant.1 i (omega arith) laws v b G st);
    }
