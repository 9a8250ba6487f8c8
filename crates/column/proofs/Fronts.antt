-- What the first bytes of a column come to: front bs is the number w exactly where bs is blanks and then the digits of w.
-- Used by: Columns, and the loop of read_column.
use Rattle.std.proofs.Common.{◌≡◌, ℕ, zero, suc, ◌+◌, ◌-◌, ◌*◌, ◌/◌, ◌%◌, ◌<◌, ◌≤◌, Bool, true, false, ◌&&◌, eqb, ltb, leb, List, [], ◌∷◌, ◌++◌, length, take, drop, replicate, Some, None, decimal, Option, fold, get_or, sym, refl, ap, ◌∙◌, subst, arith, take-append-drop}
use Rattle.std.proofs.lemmas.Fmt.{decimal_digit, decimal_step, decimal_by_steps}
use Rattle.std.proofs.lemmas.List.{append_assoc, append-nil, length_push, replicate_more}
use Rattle.std.proofs.lemmas.List.Sums.{fold-append, fold_more, fold_push}
use Rattle.std.proofs.lemmas.Bool.{cond_both, and_parts, eqb-true, leb-true, ltb-true}
use Rattle.std.proofs.lemmas.Bool.Decides.{nat_tests}
use Rattle.std.specs.Bool.{then_some}
use Rattle.std.specs.Option.{option_map}
use Rattle.column.specs.Column.{Word}
use Rattle.column.specs.Front.{digit, step, then, front}

-- from the digits to the front: blanks change nothing, and each digit carries the number on

front_blanks : (k : ℕ) (bs : List ℕ) → front (replicate k 32 ++ bs) ≡ front bs
front_blanks zero bs = refl
front_blanks (suc k) bs = front_blanks k bs

first_digit : (n : ℕ) → n < 10 → step None (48 + n) ≡ Some (Some n)
first_digit n h =
    let e : 48 + n - 48 ≡ n = omega arith in
    let t : step None (48 + n) ≡ Some (Some (48 + n - 48)) = grind (arith, nat_tests) in
    t ∙ ap (λ m. Some (Some m)) e

next_digit : (n : ℕ) → 10 ≤ n → Word n → step (Some (n / 10)) (48 + n % 10) ≡ Some (Some n)
next_digit n h w =
    let e : (n / 10) * 10 + (48 + n % 10 - 48) ≡ n = omega arith in
    let t : step (Some (n / 10)) (48 + n % 10) ≡ Some (Some ((n / 10) * 10 + (48 + n % 10 - 48))) = grind (arith, nat_tests) in
    t ∙ ap (λ m. Some (Some m)) e

front_decimal : (w : ℕ) → Word w → front (decimal w) ≡ Some (Some w)
front_decimal w h =
    decimal_by_steps (λ n ds. Word n → front ds ≡ Some (Some n))
    (λ n small _. first_digit n small)
    (λ n ds big ih most.
    fold_push then (Some None) ds (48 + n % 10)
    ∙ ap (λ f. then f (48 + n % 10)) (ih (omega arith))
    ∙ next_digit n big most)
    w (omega arith) h

pub front_from_digits : (k w : ℕ) → Word w → front (replicate k 32 ++ decimal w) ≡ Some (Some w)
front_from_digits k w h = front_blanks k (decimal w) ∙ front_decimal w h

-- from the front back to the bytes

abbrev Means : Option (Option ℕ) → List ℕ → Type 0
Means (Some None) bs = bs ≡ replicate (length bs) 32
Means (Some (Some n)) bs = Word n × ((k : ℕ) × (bs ≡ replicate k 32 ++ decimal n))
Means None bs = Unit {0}

means_blank : (bs : List ℕ) (b : ℕ) → bs ≡ replicate (length bs) 32 → b ≡ 32 → Means (Some None) (bs ++ (b ∷ []))
means_blank bs b h e =
    ap (λ x. bs ++ (x ∷ [])) e
    ∙ ap (λ xs. xs ++ (32 ∷ [])) h
    ∙ replicate_more (length bs) 32
    ∙ ap (λ n. replicate n 32) (sym (length_push bs b))

means_first : (bs : List ℕ) (b : ℕ) → bs ≡ replicate (length bs) 32 → leb 48 b && leb b 57 ≡ true → Means (Some (Some (b - 48))) (bs ++ (b ∷ []))
means_first bs b h d =
    let p = and_parts (leb 48 b) (leb b 57) d in
    let low : 48 ≤ b = leb-true 48 b p.0 in
    let high : b ≤ 57 = leb-true b 57 p.1 in
    let e : 48 + (b - 48) ≡ b = omega arith in (
      omega arith,
      (
        length bs,
        ap (λ xs. xs ++ (b ∷ [])) h
            ∙ ap (λ x. replicate (length bs) 32 ++ (x ∷ [])) (sym e)
            ∙ ap (λ ds. replicate (length bs) 32 ++ ds) (sym (decimal_digit (b - 48) (omega arith))),
      ),
    )

means_longer : (bs : List ℕ) (n b : ℕ) → Means (Some (Some n)) bs → leb 48 b && leb b 57 && ltb 0 n && leb (n * 10 + (b - 48)) 4294967295 ≡ true → Means (Some (Some (n * 10 + (b - 48)))) (bs ++ (b ∷ []))
means_longer bs n b (_, (k, h)) t =
    let p = and_parts (leb 48 b && leb b 57 && ltb 0 n) _ t in
    let r = and_parts (leb 48 b && leb b 57) _ p.0 in
    let q = and_parts (leb 48 b) (leb b 57) r.0 in
    let low : 48 ≤ b = leb-true 48 b q.0 in
    let high : b ≤ 57 = leb-true b 57 q.1 in
    let some : 0 < n = ltb-true 0 n r.1 in
    let most : n * 10 + (b - 48) ≤ 4294967295 = leb-true _ _ p.1 in
    let front-part : (n * 10 + (b - 48)) / 10 ≡ n = omega arith in
    let last : 48 + (n * 10 + (b - 48)) % 10 ≡ b = omega arith in
    let s = decimal_step (n * 10 + (b - 48)) (omega arith) (omega arith) in
    let s' : decimal (n * 10 + (b - 48)) ≡ decimal n ++ (b ∷ []) =
    s ∙ ap (λ m. decimal m ++ ((48 + (n * 10 + (b - 48)) % 10) ∷ [])) front-part ∙ ap (λ x. decimal n ++ (x ∷ [])) last in (
      most,
      (
        k,
        ap (λ xs. xs ++ (b ∷ [])) h
            ∙ append_assoc (replicate k 32) (decimal n) (b ∷ [])
            ∙ ap (λ ds. replicate k 32 ++ ds) (sym s'),
      ),
    )

-- a test that carries a number on, and the one that breaks off
means_tested : (t : Bool) (n : ℕ) (bs : List ℕ) → (t ≡ true → Means (Some (Some n)) bs) → Means (option_map Some (then_some t n)) bs
means_tested true n bs h = h refl
means_tested false n bs h = tt

means_then : (f : Option (Option ℕ)) (bs : List ℕ) (b : ℕ) → Means f bs → Means (then f b) (bs ++ (b ∷ []))
means_then (Some None) bs b h =
    cond_both (eqb b 32) (Some None) (option_map Some (digit b)) (λ f. Means f (bs ++ (b ∷ [])))
    (λ e. means_blank bs b h (eqb-true b 32 e))
    (λ _. means_tested _ (b - 48) _ (means_first bs b h))
means_then (Some (Some n)) bs b h = means_tested _ (n * 10 + (b - 48)) _ (means_longer bs n b h)
means_then None bs b h = tt

means_folded : (f : Option (Option ℕ)) (bs cs : List ℕ) → Means f bs → Means (fold then f cs) (bs ++ cs)
means_folded f bs [] h = subst (λ xs. Means f xs) (sym (append-nil bs)) h
means_folded f bs (c ∷ cs) h =
    subst (λ xs. Means (fold then (then f c) cs) xs) (append_assoc bs (c ∷ []) cs) (means_folded (then f c) (bs ++ (c ∷ [])) cs (means_then f bs c h))

pub digits_from_front : (bs : List ℕ) (w : ℕ) → front bs ≡ Some (Some w) → Word w × ((k : ℕ) × (bs ≡ replicate k 32 ++ decimal w))
digits_from_front bs w e = subst (λ f. Means f bs) e (means_folded (Some None) [] bs refl)

-- one byte more, and a column that broke off does not go on

pub front_more : (bs : List ℕ) (i : ℕ) (o : Option ℕ) (r : Option (Option ℕ)) → i < length bs → front (take i bs) ≡ Some o → r ≡ step o (get_or bs i 0) → front (take (i + 1) bs) ≡ r
front_more bs i o r h e is = fold_more then (Some None) bs i 0 h ∙ ap (λ f. then f (get_or bs i 0)) e ∙ sym is

broken : (cs : List ℕ) → fold then None cs ≡ None
broken [] = refl
broken (c ∷ cs) = broken cs

pub front_broken : (bs : List ℕ) (k : ℕ) → front (take k bs) ≡ None → front bs ≡ None
front_broken bs k e =
    ap front (sym (take-append-drop k bs)) ∙ fold-append then (Some None) (take k bs) (drop k bs) ∙ ap (λ f. fold then f (drop k bs)) e ∙ broken (drop k bs)
