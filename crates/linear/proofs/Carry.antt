-- The elimination of words that are elements, carried to their elements.
--   carried         the reduction of words is that of their elements
--   relation        nothing is left of a vector: what the row holds then
--   inverse_there   something is left at a place: it has an inverse
--   kept            and the row kept from it is one more row of the table
--   failed          a vector that is not taken ends the elimination
--   found, lost     what a solver finds
use Rattle.std.proofs.Common.{◌≡◌, ℕ, zero, suc, ◌+◌, ◌*◌, ◌<◌, ◌≤◌, T, ◌≢◌, List, [], length, get_or, set, true, false, Option, Some, None, is_some, Err, sym, refl, ap, ◌∙◌, subst, ap₂, add-one, arith, length-set, get_or-set_same, get_or-set_other}
use native.Mathlib.Decide.{ℕ_discrete, dec_lt}
use Rattle.field.specs.Meaning.{FieldMeaning, FieldLaws}
use Rattle.algebra.specs.Field.{Field}
use Rattle.algebra.specs.Vector.{Least, Combines}
use Rattle.algebra.specs.Elements.{Elem, Elems, elem_path, field_of, read}
use Rattle.linear.specs.Echelon.{reduced, Depends, Echelon, Taken}
use Rattle.linear.specs.Elimination.{pitch, rows, held, Wide, Table, Growing, Reduced, FirstNonzero, Relation, Stepped, Eliminated}
use Rattle.linear.specs.declared.elimination.EliminateFault.{EliminateFault}
use Rattle.linear.specs.declared.elimination.EliminateFault.TheVariants.{NoRoom, Depends as First}
use Rattle.linear.proofs.Writes.{part, part_length}
use Rattle.linear.proofs.Reading
use Rattle.linear.proofs.WordLists
use Rattle.algebra.proofs.Sums
use Rattle.linear.proofs.Echelon as Eliminate

module _ (m : FieldMeaning) (laws : FieldLaws m) where
  abbrev F : Field (Elem m)
  F = field_of m laws

  abbrev R : (ℕ → ℕ → Elem m) → (ℕ → ℕ) → (ℕ → Elem m) → ℕ → ℕ → Elem m
  R = reduced F.◌⊕◌ F.◌⊗◌ F.neg

  -- the reduction of words is that of their elements
  carried : (W n : ℕ) (t : ℕ → ℕ → ℕ) (u : ℕ → ℕ → Elem m) (s p : ℕ → ℕ) (y : ℕ → ℕ) (x : ℕ → Elem m)
      → ((i k : ℕ) → i < n → k < W → t i k ≡ (u i k).0) → ((i : ℕ) → i < n → s i ≡ p i) → ((i : ℕ) → i < n → s i < W) → ((k : ℕ) → k < W → y k ≡ (x k).0)
      → (k : ℕ) → k < W → reduced m.add m.mul m.neg t s y n k ≡ (R u p x n k).0
  carried W zero t u s p y x su sp lt sx k h = sx k h
  carried W (suc n) t u s p y x su sp lt sx k h =
      let ih = carried W n t u s p y x (λ i j l. su i j (omega arith)) (λ i l. sp i (omega arith)) (λ i l. lt i (omega arith)) sx in
      ap₂ m.add (ih k h) (ap₂ (λ a b. m.mul (m.neg a) b) (ih (s n) (lt n (omega arith)) ∙ ap (λ j. (R u p x n j).0) (sp n (omega arith))) (su n k (omega arith) h))

  -- the row holds what n rows of the table leave of the vector, all words being elements
  record Remainder (d N n : ℕ) (table : List (List ℕ)) (pivots vector row : List ℕ) : Type 0 where
    pub room : d + N ≤ pitch
    pub wide : Wide n table
    pub is : length vector ≡ d
    pub within : d + N ≤ length row
    pub elements : (i k : ℕ) → i < n → k < d + N → T (m.elem (get_or (get_or table i []) k 0))
    pub pivot : (i : ℕ) → i < n → get_or pivots i 0 < d
    pub given : Elems m vector
    pub left : Reduced m table pivots n (λ j. get_or vector j m.zero) (d + N) row

  module _ (d N n : ℕ) (v : ℕ → ℕ → Elem m) (table : List (List ℕ)) (pivots vector row : List ℕ) (L : Remainder d N n table pivots vector row) where
    table_word : (i k : ℕ) → i < n → k < d + N → get_or (get_or table i []) k 0 ≡ (held m laws table i k).0
    table_word i k a b = sym (WordLists.read_word m laws (get_or table i []) k (omega (arith, L.wide i a, L.room)) (L.elements i k a b))

    left_word : (k : ℕ) → k < d + N → get_or row k 0 ≡ (R (held m laws table) (λ i. get_or pivots i 0) (read m laws vector) n k).0
    left_word k h = L.left k (omega arith) ∙ carried (d + N) n _ _ _ _ _ _ table_word (λ i a. refl) (λ i a. omega (arith, L.pivot i a)) (λ j a. WordLists.read_all m laws vector j L.given) k h

    left_is : (k : ℕ) → k < d + N → read m laws row k ≡ R (held m laws table) (λ i. get_or pivots i 0) (read m laws vector) n k
    left_is k h = WordLists.read_is m laws row k _ (omega arith) (left_word k h)

    -- nothing is left: the vector is a combination
    module _ (x : ℕ → Elem m) (agrees : (k : ℕ) → k < d → read m laws vector k ≡ x k) (E : Echelon F d n v (held m laws table) (λ i. get_or pivots i 0)) (room : n ≤ N)
        (nothing : (k : ℕ) → k < d → get_or row k 0 ≡ m.zero) where
      coefficients-in : (l : ℕ) → l < n → T (m.elem (get_or row (d + l) 0))
      coefficients-in l h = WordLists.in_field m laws (R (held m laws table) (λ i. get_or pivots i 0) (read m laws vector) n (d + l)) _ (left_word (d + l) (omega arith))

      combination : Combines F d n (λ l. F.neg (read m laws row (d + l))) v x
      combination k h =
          Eliminate.combination F d n v _ _ E.coordinates x (read m laws vector) agrees (λ l a. Reading.read_past m laws vector (d + l) (omega arith))
          (λ j a. elem_path m (sym (left_word j (omega arith)) ∙ nothing j a)) k h
          ∙ Sums.sum_ext F n _ _ (λ l a. ap (λ z. F.◌⊗◌ (F.neg z) (v l k)) (sym (left_is (d + l) (omega arith))))

    -- something is left at a place: scaled there to one, it is one more row
    module _ (place : ℕ) (here : place < d) (ne : get_or row place 0 ≢ m.zero) where
      invertible : (b : ℕ) × (m.inv (get_or row place 0) ≡ Some b) × T (m.elem b) × (m.mul (get_or row place 0) b ≡ m.one)
      invertible = laws.inverse (get_or row place 0) (WordLists.in_field m laws (R (held m laws table) (λ i. get_or pivots i 0) (read m laws vector) n place) _ (left_word place (omega arith))) ne

      module _ (q : ℕ) (inverse : m.inv (get_or row place 0) ≡ Some q) (G : Taken F d N n v (held m laws table) (λ i. get_or pivots i 0)) (room : n < N)
          (agrees : (k : ℕ) → k < d → read m laws vector k ≡ v n k)
          (row' : List ℕ) (table' : List (List ℕ)) (pivots' : List ℕ) (long : length row' ≡ length row) (own : get_or row' (d + n) 0 ≡ m.one) (rest : (k : ℕ) → k ≢ d + n → get_or row' k 0 ≡ get_or row k 0)
          (wide' : length (get_or table' n []) ≡ pitch) (before : (i : ℕ) → i < n → get_or table' i [] ≡ get_or table i [])
          (kept : (k : ℕ) → k < d + N → get_or (get_or table' n []) k 0 ≡ m.mul q (get_or row' k 0))
          (old : (i : ℕ) → i < n → get_or pivots' i 0 ≡ get_or pivots i 0) (new : get_or pivots' n 0 ≡ place) where
        same : q ≡ invertible.0
        same = let e = invertible.1 in cc

        Q : Elem m
        Q = (q, subst (λ w. T (m.elem w)) (sym same) invertible.2)

        -- the reduction by the new table's first n rows
        S : ℕ → Elem m
        S = R (held m laws table') (λ i. get_or pivots' i 0) (read m laws vector) n

        word' : (i k : ℕ) → i < n → k < d + N → get_or (get_or table i []) k 0 ≡ (held m laws table' i k).0
        word' i k a b =
            let e : get_or (get_or table' i []) k 0 ≡ get_or (get_or table i []) k 0 = ap (λ (xs : List ℕ). get_or xs k 0) (before i a) in
            sym (WordLists.read_word m laws (get_or table' i []) k (omega (arith, L.wide i a, L.room, ap length (before i a))) (subst (λ w. T (m.elem w)) (sym e) (L.elements i k a b)) ∙ e)

        left' : (k : ℕ) → k < d + N → get_or row k 0 ≡ (S k).0
        unfolding S
        left' k h = L.left k (omega arith) ∙ carried (d + N) n _ _ _ _ _ _ word' (λ i a. sym (old i a)) (λ i a. omega (arith, L.pivot i a)) (λ j a. WordLists.read_all m laws vector j L.given) k h

        at_place : (k : ℕ) → k < d + N → k ≢ d + n → get_or (get_or table' n []) k 0 ≡ (F.◌⊗◌ Q (S k)).0
        unfolding Q
        at_place k h ne = kept k (omega arith) ∙ ap (m.mul q) (rest k ne ∙ left' k h)

        at_own : get_or (get_or table' n []) (d + n) 0 ≡ (F.◌⊗◌ Q F.one).0
        unfolding Q
        at_own = kept (d + n) (omega arith) ∙ ap (m.mul q) own

        read-place : (k : ℕ) → k < d + N → k ≢ d + n → held m laws table' n k ≡ F.◌⊗◌ Q (S k)
        read-place k h ne = WordLists.read_is m laws (get_or table' n []) k _ (omega (arith, L.room)) (at_place k h ne)

        lead : F.◌⊗◌ (S (get_or pivots' n 0)) Q ≡ F.one
        unfolding Q
        lead = elem_path m (ap (λ j. m.mul (S j).0 q) new ∙ ap₂ m.mul (sym (left' place (omega arith))) same ∙ invertible.3)

        one_more : Growing m laws d N (n + 1) v table' pivots'
        unfolding S
        one_more = subst (λ j. Growing m laws d N j v table' pivots') (sym (add-one n)) (record {
          elements = λ i k a b. elements' i k (ℕ_discrete i n) (ℕ_discrete k (d + n)) a b;
          taken = Eliminate.one_more F d N n v _ _
              (Eliminate.taken_along F d N n v _ _ _ _ (λ i k a b. elem_path m (sym (word' i k a b) ∙ table_word i k a b)) old (omega arith) G)
              room (read m laws vector) agrees (λ l a. Reading.read_past m laws vector (d + l) (omega arith))
              (subst (λ j. j < d) (sym new) here) Q lead
              (λ k a. read-place k (omega arith) (omega arith))
              (WordLists.read_is m laws (get_or table' n []) (d + n) _ (omega (arith, L.room)) at_own)
              (λ l a b. read-place (d + l) (omega arith) (omega arith));
        })
          where
            elements' : (i k : ℕ) → Dec (i ≡ n) → Dec (k ≡ d + n) → i < suc n → k < d + N → T (m.elem (get_or (get_or table' i []) k 0))
            elements' i k (no e) f a b = subst (λ w. T (m.elem w)) (ap (λ (xs : List ℕ). get_or xs k 0) (sym (before i (omega arith)))) (L.elements i k (omega arith) b)
            elements' i k (yes e) (no f) a b = subst (λ j. T (m.elem (get_or (get_or table' j []) k 0))) (sym e) (WordLists.in_field m laws (F.◌⊗◌ Q (S k)) _ (at_place k b f))
            elements' i k (yes e) (yes f) a b = subst (λ j. T (m.elem (get_or (get_or table' j []) k 0))) (sym e) (subst (λ j. T (m.elem (get_or (get_or table' n []) j 0))) (sym f) (WordLists.in_field m laws (F.◌⊗◌ Q F.one) _ at_own))

      one_kept : (q o : ℕ) → m.inv (get_or row place 0) ≡ Some q → o ≡ m.one → Taken F d N n v (held m laws table) (λ i. get_or pivots i 0) → n < N → n < length pivots
          → ((k : ℕ) → k < d → read m laws vector k ≡ v n k)
          → (scaled : List ℕ) → n < length table → length scaled ≡ pitch → ((k : ℕ) → k < d + N → get_or scaled k 0 ≡ m.mul q (get_or (set row (d + n) o) k 0))
          → Growing m laws d N (n + 1) v (set table n scaled) (set pivots n place)
      one_kept q o inverse is_one G room last agrees scaled here wide words =
          let own : get_or (set table n scaled) n [] ≡ scaled = get_or-set_same table n scaled [] here in
          one_more q inverse G room agrees (set row (d + n) o) (set table n scaled) (set pivots n place) (length-set row (d + n) o)
          (get_or-set_same row (d + n) o 0 (omega (arith, L.within)) ∙ is_one) (λ k. get_or-set_other row (d + n) k o 0)
          (ap length own ∙ wide) (λ i a. let ne : i ≢ n = omega arith in rw get_or-set_other)
          (λ k a. ap (λ (xs : List ℕ). get_or xs k 0) own ∙ words k a) (λ i a. get_or-set_other pivots n i place 0 (omega arith)) (get_or-set_same pivots n place 0 last)

  module _ (d N n stride : ℕ) (words : List ℕ) (table : List (List ℕ)) (pivots row : List ℕ) (covered : n * stride + d ≤ length words) (narrow : length row ≤ pitch) (wide : Wide n table) (room : n < N) (within : d + N ≤ length row)
      (given : Elems m words) (G : Growing m laws d N n (rows m laws stride words) table pivots)
      (left : Reduced m table pivots n (λ j. get_or (part (n * stride) d words) j m.zero) (d + N) row) where
    L : Remainder d N n table pivots (part (n * stride) d words) row
    L = record {
      room = omega arith;
      wide = wide;
      is = part_length (n * stride) d words covered;
      within = within;
      elements = G.elements;
      pivot = G.taken.echelon.pivot_in;
      given = WordLists.part_elems m laws (n * stride) d words covered given;
      left = left;
    }

    short : (k : ℕ) → k < length (part (n * stride) d words) → k < d
    short k h = omega (arith, part_length (n * stride) d words covered)

    pub relation : ((k : ℕ) → k < length (part (n * stride) d words) → get_or row k 0 ≡ m.zero) → Relation m laws d n (rows m laws stride words) row
    relation nothing =
        let zeros : (k : ℕ) → k < d → get_or row k 0 ≡ m.zero = λ k h. nothing k (omega (arith, part_length (n * stride) d words covered)) in
        let agrees = WordLists.part_read m laws (n * stride) d words covered given in
        record {
          elements = coefficients-in d N n (rows m laws stride words) table pivots _ row L (rows m laws stride words n) agrees G.taken.echelon (omega arith) zeros;
          combines = combination d N n (rows m laws stride words) table pivots _ row L (rows m laws stride words n) agrees G.taken.echelon (omega arith) zeros;
        }

    pub inverse_there : (place : ℕ) → place < length (part (n * stride) d words) → get_or row place 0 ≢ m.zero → m.inv (get_or row place 0) ≡ None → ⊥
    inverse_there place h ne e =
        let y = (invertible d N n (rows m laws stride words) table pivots _ row L place (short place h) ne).1 in
        let z : ◌≡◌ {A = ℕ} 0 1 = cc in omega arith

    pub kept : (place : ℕ) → place < length (part (n * stride) d words) → get_or row place 0 ≢ m.zero
        → (q o : ℕ) → m.inv (get_or row place 0) ≡ Some q → o ≡ m.one → n < length pivots
        → (scaled : List ℕ) → n < length table → length scaled ≡ pitch → ((k : ℕ) → k < d + N → get_or scaled k 0 ≡ m.mul q (get_or (set row (d + n) o) k 0))
        → Growing m laws d N (n + 1) (rows m laws stride words) (set table n scaled) (set pivots n place)
    kept place h ne q o e f last scaled l b w =
        one_kept d N n (rows m laws stride words) table pivots _ row L place (short place h) ne q o e f G.taken room last (WordLists.part_read m laws (n * stride) d words covered given) scaled l b w

  -- what an elimination leaves
  pub table_of : (d N n : ℕ) (v : ℕ → ℕ → Elem m) (table : List (List ℕ)) (pivots : List ℕ) → n ≤ N → Growing m laws d N n v table pivots → Table m laws d n v table pivots
  table_of d N n v table pivots h G = record {
    independent = G.taken.independent;
    elements = λ i k a b. G.elements i k a (omega arith);
    echelon = G.taken.echelon;
  }

  pub first_of : (d N n : ℕ) (v : ℕ → ℕ → Elem m) (table : List (List ℕ)) (pivots row : List ℕ) → Growing m laws d N n v table pivots → Relation m laws d n v row → Least (Depends F d v) n
  first_of d N n v table pivots row G r = ((_, r.combines), λ k D. at k D (dec_lt k n))
    where
      at : (k : ℕ) → Depends F d v k → Dec (k < n) → n ≤ k
      at k D (yes h) = absurd (G.taken.fresh k h D)
      at k D (no h) = omega arith

  pub failed : (d N n : ℕ) (v : ℕ → ℕ → Elem m) (table : List (List ℕ)) (pivots row : List ℕ) (e : EliminateFault) → n < N → Stepped m laws {A = Unit {0}} d N n v table pivots row (Err e) → Eliminated m laws {A = Unit {0}} d N v table pivots row (Err e)
  failed d N n v table pivots row NoRoom h s = s
  failed d N n v table pivots row (First j) h (e, G, r) = rw e (h, first_of d N n v table pivots row G r, table_of d N n v table pivots (omega arith) G, r)

  -- what a solver finds
  module _ (d n : ℕ) (v : ℕ → ℕ → Elem m) (table : List (List ℕ)) (pivots vector row : List ℕ) (is : length vector ≡ d) (G : Table m laws d n v table pivots) (narrow : length row ≤ pitch) (wide : Wide n table) (within : d + n ≤ length row) (given : Elems m vector)
      (left : Reduced m table pivots n (λ j. get_or vector j m.zero) (d + n) row) (first : Option ℕ) (is_first : FirstNonzero m d row first) where
    M : Remainder d n n table pivots vector row
    M = record { room = omega arith; wide = wide; is = is; within = within; elements = G.elements; pivot = G.echelon.pivot_in; given = given; left = left }

    all_zero : (a : Option ℕ) → FirstNonzero m d row a → is_some a ≡ false → (k : ℕ) → k < d → get_or row k 0 ≡ m.zero
    all_zero None zeros e = zeros
    all_zero (Some place) h e = absurd (cc)

    pub found : is_some first ≡ false → (out : List ℕ) → length out ≡ n → ((l : ℕ) → l < n → get_or out l 0 ≡ m.neg (get_or row (d + l) 0))
        → Elems m out × Combines F d n (read m laws out) v (read m laws vector)
    found e out long opposites = (λ l h. WordLists.in_field m laws (F.neg (read m laws row (d + l))) _ (word l (omega arith)), combined)
      where
        nothing : (k : ℕ) → k < d → get_or row k 0 ≡ m.zero
        nothing = all_zero first is_first e

        word : (l : ℕ) → l < n → get_or out l 0 ≡ m.neg (read m laws row (d + l)).0
        word l h = opposites l h ∙ ap m.neg (sym (WordLists.read_word m laws row (d + l) (omega arith) (coefficients-in d n n v table pivots vector row M (read m laws vector) (λ k a. refl) G.echelon (omega arith) nothing l h)))

        combined : Combines F d n (read m laws out) v (read m laws vector)
        combined k h =
            combination d n n v table pivots vector row M (read m laws vector) (λ j a. refl) G.echelon (omega arith) nothing k h
            ∙ Sums.sum_ext F n _ _ (λ l a. ap (λ z. F.◌⊗◌ z (v l k)) (sym (WordLists.read_is m laws out l (F.neg (read m laws row (d + l))) (omega arith) (word l a))))

    outside : (place : ℕ) → place < d → get_or row place 0 ≢ m.zero → (n ≢ d) × ((c : ℕ → Elem m) → Combines F d n c v (read m laws vector) → ⊥)
    outside place h ne = (λ e. some (Eliminate.full F d n v _ _ G.echelon e (read m laws vector) place h), Eliminate.outside F d n v _ _ G.echelon (read m laws vector) place h some)
      where
        some : R (held m laws table) (λ i. get_or pivots i 0) (read m laws vector) n place ≢ F.zer
        some e = ne (left_word d n n v table pivots vector row M place (omega arith) ∙ ap (λ (x : Elem m). x.0) e)

    pub lost : is_some first ≡ true → (n ≢ d) × ((c : ℕ → Elem m) → Combines F d n c v (read m laws vector) → ⊥)
    lost = at first is_first
      where
        at : (a : Option ℕ) → FirstNonzero m d row a → is_some a ≡ true → (n ≢ d) × ((c : ℕ → Elem m) → Combines F d n c v (read m laws vector) → ⊥)
        at None zeros e = absurd (cc)
        at (Some place) h e = outside place h.0 h.1
