-- The column of a number: its length, its one number, and what reading answers. All from the definition, by way of Fronts.
-- Used by: read_column, write_column, Lines, and the laws that functions name.
use Rattle.std.proofs.Common.{◌≡◌, ℕ, zero, suc, ◌+◌, ◌-◌, ◌≤◌, Bool, true, false, ◌&&◌, leb, List, ◌++◌, length, replicate, Some, None, decimal, Option, sym, refl, ap, ◌∙◌, subst, arith, length-append, rules}
use lib.ListN.{length-replicate}
use Rattle.std.specs.Bool.{then_some}
use Rattle.std.specs.Str.{bytes_eq, all_ascii_digits}
use Rattle.std.proofs.lemmas.Fmt.{length-decimal-le, digits_value-decimal}
use Rattle.std.proofs.lemmas.Slice.Eq.{bytes_eq-Decides}
use Rattle.std.proofs.lemmas.Str.Parse.{IsNumeralModel, numerals_by_fold, tells_all_ascii_digits}
use Rattle.std.proofs.lemmas.Bool.{and_parts, and_from, both_ways, leb-true, le-leb}
use Rattle.column.specs.Column.{Word, column, Reads, shown_after, shown, reading}
use Rattle.column.specs.Front.{front, found}
use Rattle.column.proofs.Fronts.{front_from_digits, digits_from_front}

-- at most ten digits, and the blanks that are left
pub ten_digits : (w : ℕ) → Word w → length (decimal w) ≤ 10
ten_digits w h = length-decimal-le 10 w (omega arith) (omega arith) (omega arith)

length_right : (k : ℕ) (ds : List ℕ) → length (replicate k 32 ++ ds) ≡ k + length ds
length_right k ds = length-append (replicate k 32) ds ∙ ap (λ n. n + length ds) (length-replicate k 32)

pub column_length : (w : ℕ) → Word w → length (column w) ≡ 11
unfolding column
column_length w h = length_right (11 - length (decimal w)) (decimal w) ∙ omega (arith, ten_digits w h)

-- eleven bytes of blanks and the digits of w are its column
pub column_from_digits : (bs : List ℕ) (k w : ℕ) → length bs ≡ 11 → bs ≡ replicate k 32 ++ decimal w → bs ≡ column w
unfolding column
column_from_digits bs k w n e =
    let l : length bs ≡ k + length (decimal w) = ap length e ∙ length_right k (decimal w) in
    let m : k ≡ 11 - length (decimal w) = omega arith in
    e ∙ ap (λ j. replicate j 32 ++ decimal w) m

pub front_column : (w : ℕ) → Word w → front (column w) ≡ Some (Some w)
unfolding column
front_column w h = front_from_digits (11 - length (decimal w)) w h

same_number : (v w : ℕ) → Some (Some v) ≡ Some (Some w) → v ≡ w
same_number v w e = cc

pub columns_differ : (v w : ℕ) → Word v → Word w → column v ≡ column w → v ≡ w
columns_differ v w h k e = same_number v w (sym (front_column v h) ∙ ap front e ∙ front_column w k)

-- the number that a column shows

own : IsNumeralModel (λ ds. all_ascii_digits ds ≡ true) (shown_after 0)
own = numerals_by_fold _ tells_all_ascii_digits shown_after (search rules)

shown_blanks : (k : ℕ) (ds : List ℕ) → shown (replicate k 32 ++ ds) ≡ shown ds
shown_blanks zero ds = refl
shown_blanks (suc k) ds = shown_blanks k ds

pub shown_column : (w : ℕ) → Word w → shown (column w) ≡ w
unfolding column
shown_column w h = shown_blanks (11 - length (decimal w)) (decimal w) ∙ digits_value-decimal own w (omega arith)

-- what reading answers is exact, and nothing else is

reads_when : (bs : List ℕ) (t : Bool) → bytes_eq bs (column (shown bs)) && leb (shown bs) 4294967295 ≡ t → Reads bs (then_some t (shown bs))
reads_when bs true e =
    let p = and_parts (bytes_eq bs (column (shown bs))) (leb (shown bs) 4294967295) e in
    ((bytes_eq-Decides bs (column (shown bs))).0 p.0, leb-true (shown bs) 4294967295 p.1)
reads_when bs false e = λ w h is.
    let s : shown bs ≡ w = ap shown is ∙ shown_column w h in
    let b : bytes_eq bs (column (shown bs)) ≡ true = (bytes_eq-Decides bs (column (shown bs))).1 (is ∙ ap column (sym s)) in
    let l : leb (shown bs) 4294967295 ≡ true = le-leb (shown bs) 4294967295 (subst (λ n. n ≤ 4294967295) (sym s) h) in
    both_ways _ e (and_from _ _ b l)

pub reading_exact : (bs : List ℕ) → Reads bs (reading bs)
unfolding reading
reading_exact bs = reads_when bs (bytes_eq bs (column (shown bs)) && leb (shown bs) 4294967295) refl

pub reads_one : (bs : List ℕ) (o p : Option ℕ) → Reads bs o → Reads bs p → o ≡ p
reads_one bs (Some v) (Some w) (e, h) (f, k) = ap Some (columns_differ v w h k (sym e ∙ f))
reads_one bs (Some v) None (e, h) no' = absurd (no' v h e)
reads_one bs None (Some w) no' (f, k) = absurd (no' w k f)
reads_one bs None None _ _ = refl

pub reading_from : (bs : List ℕ) (o : Option ℕ) → Reads bs o → o ≡ reading bs
reading_from bs o h = reads_one bs o (reading bs) h (reading_exact bs)

pub reading_column : (w : ℕ) → Word w → reading (column w) ≡ Some w
reading_column w h = sym (reading_from (column w) (Some w) (refl, h))

pub column_from_reading : (bs : List ℕ) (w : ℕ) → reading bs ≡ Some w → (bs ≡ column w) × Word w
column_from_reading bs w e = subst (λ o. Reads bs o) e (reading_exact bs)

-- what the pass over the bytes answers

pub reads_other_length : (bs : List ℕ) → (length bs ≡ 11 → ⊥) → Reads bs None
reads_other_length bs n = λ w h is. n (ap length is ∙ column_length w h)

reads_found : (bs : List ℕ) (f : Option (Option ℕ)) → length bs ≡ 11 → front bs ≡ f → Reads bs (found f)
reads_found bs (Some None) n e = λ w h is.
    let z : Some None ≡ Some (Some w) = sym e ∙ ap front is ∙ front_column w h in
    let q : ◌≡◌ {A = ℕ} 0 1 = cc in
    omega arith
reads_found bs (Some (Some v)) n e = let d = digits_from_front bs v e in (column_from_digits bs d.1.0 v n d.1.1, d.0)
reads_found bs None n e = λ w h is.
    let z : None ≡ Some (Some w) = sym e ∙ ap front is ∙ front_column w h in
    let q : ◌≡◌ {A = ℕ} 0 1 = cc in
    omega arith

pub reads_front : (bs : List ℕ) (o : Option ℕ) → length bs ≡ 11 → o ≡ found (front bs) → Reads bs o
reads_front bs o n e = subst (λ p. Reads bs p) (sym e) (reads_found bs (front bs) n refl)
