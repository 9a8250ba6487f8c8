-- The least recurrence length of words that stand for the first words of a sequence, and its connection polynomial read backwards.
use Rattle.std.proofs.Common.{◌≡◌, ℕ, ◌+◌, ◌-◌, ◌<◌, ◌≤◌, T, List, length, take, sym, ap, ◌∙◌, subst, arith, get_or-take}
use Rattle.std.proofs.lemmas.List.{length-take-le}
use Rattle.field.specs.Meaning.{FieldMeaning, FieldLaws}
use Rattle.algebra.specs.Vector.{Least}
use Rattle.algebra.specs.Elements.{Elem, Elems, field_of, el, read}
use Rattle.algebra.proofs.Sums as sums
use Rattle.linear.specs.Recurrence.{Recurs, Gen, ShortestBy}
use Rattle.linear.proofs.Lengths as lengths
use Rattle.linear.proofs.Reading.{read_at}
use Rattle.conversion.specs.Asked.{Monic}

module _ (m : FieldMeaning) (laws : FieldLaws m) (xs : List ℕ) (s : ℕ → Elem m) (N : ℕ) (long : length xs ≡ N) (same : (j : ℕ) → j < N → read m laws xs j ≡ s j) where
  pub least_of : (l : ℕ) → Least (Recurs (field_of m laws) (read m laws xs) (length xs)) l → Least (Recurs (field_of m laws) s N) l
  least_of l x =
      let y = subst (λ (n : ℕ). Least (Recurs (field_of m laws) (read m laws xs) n) l) long x in
      ((lengths.first_words (field_of m laws) (read m laws xs) s s l N same).0.0 y.0, λ k z. y.1 k ((lengths.first_words (field_of m laws) (read m laws xs) s s k N same).0.1 z))

  pub gen_of : (C : ℕ → Elem m) (l : ℕ) → Gen (field_of m laws) (read m laws xs) C l (length xs) → Gen (field_of m laws) s C l N
  gen_of C l x = (lengths.first_words (field_of m laws) (read m laws xs) s C l N same).1.0 (subst (λ (n : ℕ). Gen (field_of m laws) (read m laws xs) C l n) long x)

-- c holds the polynomial in its first n words
pub monic_of : (m : FieldMeaning) (laws : FieldLaws m) (d n : ℕ) (s : ℕ → Elem m) (c : List ℕ) → d < n → n ≤ length c → Elems m (take n c) → Gen (field_of m laws) s (read m laws (take n c)) d (d + d) → Monic m laws d s c
monic_of m laws d n s c h l els x =
    let size = length-take-le n c l in
    record {
      elements = λ i p. subst (λ (w : ℕ). T (m.elem w)) (get_or-take n c i 0 (omega arith)) (els i (omega arith));
      recurs = λ j p.
          ap (λ (y : Elem m). (field_of m laws).◌⊕◌ y (s (d + j))) (sums.sum_ext (field_of m laws) d _ _ (λ i q. ap (λ (y : Elem m). (field_of m laws).◌⊗◌ y (s (i + j))) (sym (read_at m laws (take n c) (d - i) (omega arith) ∙ ap (el m laws) (get_or-take n c (d - i) 0 (omega arith))))))
          ∙ lengths.monic_shifted (field_of m laws) s (read m laws (take n c)) d (d + d) x j (omega arith);
    }

-- words whose least length is d
pub full_length : (m : FieldMeaning) (laws : FieldLaws m) (d : ℕ) (xs c : List ℕ) (s : ℕ → Elem m) (l : ℕ) → length xs ≡ d + d → ((j : ℕ) → j < d + d → read m laws xs j ≡ s j) → length xs + 1 ≤ length c → ShortestBy m laws xs (take (length xs + 1) c) l → l ≡ d → Least (Recurs (field_of m laws) s (d + d)) d × Monic m laws d s c
full_length m laws d xs c s l long same room x e =
    let least = subst (λ (k : ℕ). Least (Recurs (field_of m laws) (read m laws xs) (length xs)) k) e x.least in
    let gen = subst (λ (k : ℕ). Gen (field_of m laws) (read m laws xs) (read m laws (take (length xs + 1) c)) k (length xs)) e x.connection in
    (least_of m laws xs s (d + d) long same d least, monic_of m laws d (length xs + 1) s c (omega arith) room x.elements (gen_of m laws xs s (d + d) long same (read m laws (take (length xs + 1) c)) d gen))
