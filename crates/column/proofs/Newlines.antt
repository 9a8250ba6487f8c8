-- The first byte 10: how many bytes stand before it, and that this decides where a line ends.
-- Used by: Lines, Exactness.
use Rattle.std.proofs.Common.{◌≡◌, ℕ, ◌+◌, ◌*◌, ◌<◌, Bool, true, cond, not, eqb, ltb, List, [], ◌∷◌, ◌++◌, length, get_or, sym, refl, ap, ◌∙◌, zero-add, arith}
use Rattle.std.specs.List.{AllByRecursion}
use Rattle.std.proofs.lemmas.List.Sums.{passes_at_first, fails_before_first, position_or_len_is}
use Rattle.std.proofs.lemmas.Bool.{both_ways, eq-eqb, ne_eqb, eqb-true, ltb-true, lt-ltb, and_parts, and_from}
use Rattle.column.specs.Line.{EndsAfter, before_newline, exact}

before_here : (b : ℕ) (bs : List ℕ) → b ≡ 10 → before_newline (b ∷ bs) ≡ 0
unfolding before_newline
before_here b bs e = ap (λ t. cond (not t) (1 + before_newline bs) 0) (eq-eqb b 10 e)

before_next : (b : ℕ) (bs : List ℕ) → (b ≡ 10 → ⊥) → before_newline (b ∷ bs) ≡ 1 + before_newline bs
unfolding before_newline
before_next b bs n = ap (λ t. cond (not t) (1 + before_newline bs) 0) (ne_eqb b 10 n)

-- the first byte 10 is the library's first place of a list that passes a test

abbrev newline : ℕ → Bool
newline b = eqb b 10

stops_there : (bs : List ℕ) → before_newline bs < length bs → get_or bs (before_newline bs) 0 ≡ 10
unfolding before_newline
stops_there bs h = eqb-true _ 10 (passes_at_first newline bs 0 h)

none_before : (bs : List ℕ) (k : ℕ) → k < before_newline bs → get_or bs k 0 ≡ 10 → ⊥
unfolding before_newline
none_before bs k h e = both_ways _ (fails_before_first newline bs k 0 h) (eq-eqb (get_or bs k 0) 10 e)

first_there : (bs : List ℕ) (n : ℕ) → n < length bs → get_or bs n 0 ≡ 10 → ((k : ℕ) → k < n → get_or bs k 0 ≡ 10 → ⊥) → before_newline bs ≡ n
unfolding before_newline
first_there bs n h e f = position_or_len_is newline bs n 0 (omega arith) (λ k l. ne_eqb (get_or bs k 0) 10 (f k l)) (λ _. eq-eqb (get_or bs n 0) 10 e)

pub ends_from_exact : (c : ℕ) (bs : List ℕ) → exact c bs ≡ true → EndsAfter c bs
unfolding exact
ends_from_exact c bs t =
    let p = and_parts (eqb (before_newline bs) (11 * c)) (ltb (11 * c) (length bs)) t in
    let e = eqb-true (before_newline bs) (11 * c) p.0 in
    let h = ltb-true (11 * c) (length bs) p.1 in (
      h,
      ap (λ k. get_or bs k 0) (sym e) ∙ stops_there bs (omega arith),
      λ k l. none_before bs k (omega arith),
    )

pub exact_from_ends : (c : ℕ) (bs : List ℕ) → EndsAfter c bs → exact c bs ≡ true
unfolding exact
exact_from_ends c bs (h, e, f) =
    and_from (eqb (before_newline bs) (11 * c)) (ltb (11 * c) (length bs))
    (eq-eqb (before_newline bs) (11 * c) (first_there bs (11 * c) h e f))
    (lt-ltb (11 * c) (length bs) h)

-- bytes other than 10 only put it off
abbrev pub Other : ℕ → Type 0
Other b = b ≡ 10 → ⊥

pub before_newline_past : (xs ys : List ℕ) → AllByRecursion Other xs → before_newline (xs ++ ys) ≡ length xs + before_newline ys
before_newline_past [] ys h = sym (zero-add (before_newline ys))
before_newline_past (x ∷ xs) ys (h, hs) =
    omega (arith, before_next x (xs ++ ys) h, before_newline_past xs ys hs)

pub before_newline_here : (ys : List ℕ) → before_newline (10 ∷ ys) ≡ 0
before_newline_here ys = before_here 10 ys refl
