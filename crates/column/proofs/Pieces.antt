-- The columns of a line as pieces of eleven bytes, as chunks_exact gives them.
-- Used by: all_numbers, take_words, read_line.
use Rattle.std.proofs.Common.{◌≡◌, ℕ, zero, suc, ◌+◌, ◌*◌, ◌/◌, ◌<◌, ◌≤◌, ◌&&◌, List, [], ◌∷◌, ◌++◌, length, get_or, take, drop, is_some, sym, refl, ap, ◌∙◌, subst, unwrap_or, ap₂, arith, length-append, length-drop, take-append-drop}
use Rattle.std.specs.declared.slice.ChunksExact.{ChunksExact}
use Rattle.std.specs.declared.iter.Enumerate.{Enumerate}
use Rattle.std.specs.List.{list_all, enumerate_from}
use Rattle.std.specs.Iterator.Adapters.{enumerate_source, enumerate_count, enumerate_steps}
use Rattle.std.specs.Slice.Iter.{chunks_exact_size, chunks_exact_rest, chunks_exact_steps}
use Rattle.std.proofs.lemmas.Iterator.{YieldsList}
use Rattle.std.proofs.lemmas.Iterator.Splits.{YieldsList-from_shown_while}
use Rattle.std.proofs.lemmas.Iterator.Consumers.{YieldsList-at, YieldsList-from_enumerate}
use Rattle.std.proofs.lemmas.List.FromFn.{length-enumerate_from, get_or-enumerate_from}
use Rattle.std.proofs.lemmas.List.{take_at, drop_at, drop-drop, take-append-le, drop-append-le, length-take-le}
use Rattle.column.specs.Column.{reading}
use Rattle.column.specs.Line.{numbers, values}

abbrev pub pieces : ℕ → List ℕ → List (List ℕ)
pieces zero bs = []
pieces (suc c) bs = take 11 bs ∷ pieces c (drop 11 bs)

pub numbers_pieces : (c : ℕ) (bs : List ℕ) → list_all (λ p. is_some (reading p)) (pieces c bs) ≡ numbers c bs
unfolding numbers
numbers_pieces zero bs = refl
numbers_pieces (suc c) bs = ap (λ b. is_some (reading (take 11 bs)) && b) (numbers_pieces c (drop 11 bs))

-- all columns of bytes that are cut
abbrev pub all_pieces : List ℕ → List (List ℕ)
all_pieces bs = pieces (length bs / 11) bs

pub no_piece : (bs : List ℕ) → length bs < 11 → length (all_pieces bs) ≡ 0
no_piece bs h = let z : length bs / 11 ≡ 0 = omega arith in ap (λ c. length (pieces c bs)) z

pub one_piece : (bs x rest : List ℕ) → bs ≡ x ++ rest → length x ≡ 11 → all_pieces bs ≡ x ∷ all_pieces rest
one_piece bs x rest e n =
    let size = ap length e ∙ length-append x rest in
    let c : length bs / 11 ≡ suc (length rest / 11) = omega arith in
    ap (λ k. pieces k bs) c
    ∙ ap₂ (λ p r. p ∷ pieces (length rest / 11) r) (ap (take 11) e ∙ take_at x rest 11 n) (ap (drop 11) e ∙ drop_at x rest 11 n)

-- chunks_exact gives them all
pub pieces_come : (s : ChunksExact ℕ) → chunks_exact_size s ≡ 11 → YieldsList chunks_exact_steps (λ x. x.now) s (all_pieces (chunks_exact_rest s))
pieces_come s e =
    YieldsList-from_shown_while chunks_exact_steps (λ x. x.now) (λ t. all_pieces (chunks_exact_rest t)) (λ t. chunks_exact_size t ≡ 11)
    (λ t u p h. no_piece (chunks_exact_rest t) (omega (arith, p, h.1.0)))
    (λ t x u p h. (h.0 ∙ p, one_piece (chunks_exact_rest t) x.now (chunks_exact_rest u) h.1.0 (h.1.1 ∙ p)))
    s e

-- the pieces with their numbers, as enumerate gives them
pieces_length : (c : ℕ) (bs : List ℕ) → length (pieces c bs) ≡ c
pieces_length zero bs = refl
pieces_length (suc c) bs = ap suc (pieces_length c (drop 11 bs))

piece_at : (c k : ℕ) (bs d : List ℕ) → k < c → get_or (pieces c bs) k d ≡ take 11 (drop (11 * k) bs)
piece_at zero k bs d h = absurd (omega (arith, h))
piece_at (suc c) zero bs d h = refl
piece_at (suc c) (suc k) bs d h =
    let n : 11 + 11 * k ≡ 11 * suc k = omega arith in
    piece_at c k (drop 11 bs) d (omega (arith, h)) ∙ ap (take 11) (drop-drop (11 * k) 11 bs ∙ ap (λ j. drop j bs) n)

abbrev pub numbered : List ℕ → List (ℕ × List ℕ)
numbered bs = enumerate_from 0 (all_pieces bs)

pub numbered_come : (s : Enumerate (ChunksExact ℕ)) (t : ChunksExact ℕ) (bs : List ℕ) → enumerate_source s ≡ t → enumerate_count s ≡ 0 → chunks_exact_size t ≡ 11 → chunks_exact_rest t ≡ bs
    → YieldsList (enumerate_steps chunks_exact_steps) (λ p. (p.0, p.1.now)) s (numbered bs)
numbered_come s t bs e z size rest = subst (λ b. YieldsList (enumerate_steps chunks_exact_steps) (λ p. (p.0, p.1.now)) s (numbered b)) rest (YieldsList-from_enumerate (YieldsList-at e (pieces_come t size)) z)

pub numbered_length : (bs : List ℕ) → length (numbered bs) ≡ length bs / 11
numbered_length bs = length-enumerate_from 0 (all_pieces bs) ∙ pieces_length (length bs / 11) bs

pub numbered_at : (bs : List ℕ) (k i : ℕ) (p : List ℕ) → k < length (numbered bs) → (i, p) ≡ get_or (numbered bs) k (i, p) → (i ≡ k) × (p ≡ take 11 (drop (11 * k) bs))
numbered_at bs k i p h e =
    let short : k < length bs / 11 = omega (arith, h, numbered_length bs) in
    let q = e ∙ get_or-enumerate_from 0 (all_pieces bs) k (i, p) (omega (arith, short, pieces_length (length bs / 11) bs)) in
    (omega (arith, ap (λ x. x.0) q), ap (λ x. x.1) q ∙ piece_at (length bs / 11) k bs p short)

-- what follows the columns changes nothing

numbers_front : (c : ℕ) (xs ys : List ℕ) → length xs ≡ 11 * c → numbers c (xs ++ ys) ≡ numbers c xs
unfolding numbers
numbers_front zero xs ys n = refl
numbers_front (suc c) xs ys n =
    let h : 11 ≤ length xs = omega arith in
    ap₂ (λ p bs. is_some (reading p) && numbers c bs) (take-append-le 11 xs ys h) (drop-append-le 11 xs ys h)
    ∙ ap (λ b. is_some (reading (take 11 xs)) && b) (numbers_front c (drop 11 xs) ys (omega (arith, length-drop 11 xs)))

values_front : (c : ℕ) (xs ys : List ℕ) → length xs ≡ 11 * c → values c (xs ++ ys) ≡ values c xs
unfolding values
values_front zero xs ys n = refl
values_front (suc c) xs ys n =
    let h : 11 ≤ length xs = omega arith in
    ap₂ (λ p bs. unwrap_or (reading p) 0 ∷ values c bs) (take-append-le 11 xs ys h) (drop-append-le 11 xs ys h)
    ∙ ap (λ ws. unwrap_or (reading (take 11 xs)) 0 ∷ ws) (values_front c (drop 11 xs) ys (omega (arith, length-drop 11 xs)))

-- of the columns that are cut from a line
module _ (bs cut : List ℕ) (c k : ℕ) (size : k ≡ 11 * c) (is : cut ≡ take k bs) (room : 11 * c ≤ length bs) where
  pub cut_length : length cut ≡ 11 * c
  cut_length = ap length is ∙ length-take-le k bs (omega arith) ∙ size

  joined : cut ++ drop k bs ≡ bs
  joined = ap (λ xs. xs ++ drop k bs) is ∙ take-append-drop k bs

  pub numbers_cut : numbers (length cut / 11) cut ≡ numbers c bs
  numbers_cut =
      let n : length cut / 11 ≡ c = omega (arith, cut_length) in
      ap (λ j. numbers j cut) n ∙ sym (numbers_front c cut (drop k bs) cut_length) ∙ ap (numbers c) joined

  pub values_cut : values c cut ≡ values c bs
  values_cut = sym (values_front c cut (drop k bs) cut_length) ∙ ap (values c) joined
