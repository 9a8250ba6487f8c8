-- Rows of words, written as lines one after the other.
use Rattle.std.proofs.Common.{◌≡◌, ℕ, zero, suc, ◌+◌, ◌*◌, ◌≤◌, List, ◌++◌, length, take, drop, sym, ap, ◌∙◌, arith, length-append, length-drop, append-nil, ◌<◌, mul-le-mul_right}
use Rattle.std.proofs.lemmas.List.{append_assoc, drop-drop}
use Rattle.column.specs.Line.{line, line_length}
use Rattle.column.specs.Place.{put}
use Rattle.column.proofs.Places.{put_none, put_put}
use Rattle.shaping.specs.Answer.{rows}

rows_more : (d i : ℕ) (w : List ℕ) → rows d (suc i) w ≡ rows d i w ++ line (take d (drop (i * d) w))
rows_more d zero w = append-nil (line (take d w)) ∙ ap (λ (k : ℕ). line (take d (drop k w))) (let e : 0 ≡ 0 * d = omega arith in e)
rows_more d (suc i) w =
    ap (λ (r : List ℕ). line (take d w) ++ r) (rows_more d i (drop d w))
    ∙ sym (append_assoc (line (take d w)) (rows d i (drop d w)) (line (take d (drop (i * d) (drop d w)))))
    ∙ ap (λ (r : List ℕ). rows d (suc i) w ++ line (take d r)) (drop-drop (i * d) d w ∙ ap (λ (k : ℕ). drop k w) (omega arith))

-- i rows of d words from w stand at a place, and the words that are left are those behind them
pub record RowsWritten (d : ℕ) (w out : List ℕ) (at i : ℕ) (left new : List ℕ) (end : ℕ) : Type 0 where
  pub behind : left ≡ drop (i * d) w
  pub long : length (rows d i w) ≡ i * line_length d
  pub place : end ≡ at + i * line_length d
  pub bytes : new ≡ put out at (rows d i w)

pub rows_none : (d : ℕ) (w out left : List ℕ) (at : ℕ) → left ≡ w → RowsWritten d w out at 0 left out at
rows_none d w out left at e = record { behind = e ∙ ap (λ (k : ℕ). drop k w) (let z : 0 ≡ 0 * d = omega arith in z); long = omega arith; place = omega arith; bytes = sym (put_none out at) }

-- one row more
pub rows_next : (d i : ℕ) (w out left new new' row rest : List ℕ) (at end end' : ℕ) → at + (i * line_length d + line_length d) ≤ length out → row ≡ take d left → rest ≡ drop d left → length (line row) ≡ line_length d
    → new' ≡ put new end (line row) → end' ≡ end + line_length d → RowsWritten d w out at i left new end → RowsWritten d w out at (i + 1) rest new' end'
rows_next d i w out left new new' row rest at end end' room er es long en ee h =
    let next : suc i ≡ i + 1 = omega arith in
    let more : rows d (i + 1) w ≡ rows d i w ++ line row = ap (λ (k : ℕ). rows d k w) (sym next) ∙ rows_more d i w ∙ ap (λ (r : List ℕ). rows d i w ++ line r) (sym (er ∙ ap (take d) h.behind)) in
    record {
      behind = es ∙ ap (drop d) h.behind ∙ drop-drop d (i * d) w ∙ ap (λ (k : ℕ). drop k w) (omega arith);
      long = ap length more ∙ length-append (rows d i w) (line row) ∙ omega (arith, h.long, long);
      place = omega (arith, ee, h.place);
      bytes = en ∙ ap (λ (o : List ℕ). put o end (line row)) h.bytes ∙ ap (λ (k : ℕ). put (put out at (rows d i w)) k (line row)) (omega (arith, h.place, h.long))
          ∙ put_put out (rows d i w) (line row) at (omega arith) ∙ ap (put out at) (sym more);
    }

-- there is room for the next of n rows
pub row_room : (d n i at size : ℕ) → i < n → at + n * line_length d ≤ size → at + (i * line_length d + line_length d) ≤ size
row_room d n i at size h r = omega (arith, r, mul-le-mul_right {m = suc i} {n = n} (line_length d) h)

-- the words that are left hold the next of n rows
pub row_left : (d n i : ℕ) (w left : List ℕ) → i < n → n * d ≤ length w → left ≡ drop (i * d) w → d ≤ length left
row_left d n i w left h r e = omega (arith, r, ap length e, length-drop (i * d) w, mul-le-mul_right {m = suc i} {n = n} d h)
