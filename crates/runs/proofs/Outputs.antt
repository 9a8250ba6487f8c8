-- Output words: rows of words one after the other, and words that stand for given elements.
use Rattle.std.proofs.Common.{◌≡◌, ℕ, zero, suc, ◌+◌, ◌-◌, ◌*◌, ◌<◌, T, List, length, get_or, sym, refl, ap, ◌∙◌, subst, suc-mul, zero-mul, arith, length-append}
use native.Mathlib.Decide.{dec_lt}
use Rattle.std.proofs.lemmas.List.{ext_get_or, get_or_append_left, get_or-append-add}
use Rattle.field.specs.Meaning.{FieldMeaning, FieldLaws}
use Rattle.algebra.specs.Elements.{Elem, Elems, el, read}
use Rattle.algebra.specs.Lists.{build, joined}
use Rattle.algebra.proofs.Lists.{get_or_build}
use Rattle.algebra.proofs.Elements.{el_once, el_elem}
use Rattle.linear.proofs.Reading.{read_at}
use Rattle.runs.specs.Convert.{row}

module _ {A : Type 0} where
  pub length_build : (n : ℕ) (f : ℕ → A) → length (build n f) ≡ n
  length_build zero f = refl
  length_build (suc n) f = ap suc (length_build n (λ i. f (suc i)))

  length_rows : (n d : ℕ) (f : ℕ → ℕ → A) → length (joined n (λ i. build d (f i))) ≡ n * d
  length_rows zero d f = sym (zero-mul d)
  length_rows (suc n) d f = omega (arith, length-append (build d (f 0)) (joined n (λ i. build d (f (suc i)))), length_build d (f 0), length_rows n d (λ i. f (suc i)), suc-mul n d)

  -- row i starts at word i d
  get_d_rows : (n d : ℕ) (f : ℕ → ℕ → A) (x : A) (i l : ℕ) → i < n → l < d → get_or (joined n (λ i. build d (f i))) (i * d + l) x ≡ f i l
  get_d_rows zero d f x i l p q = absurd (omega arith)
  get_d_rows (suc n) d f x zero l p q =
      ap (λ (k : ℕ). get_or (joined (suc n) (λ i. build d (f i))) k x) {x = 0 * d + l} {y = l} (omega (arith, zero-mul d))
      ∙ get_or_append_left (build d (f 0)) _ x l (omega (arith, length_build d (f 0)))
      ∙ get_or_build d (f 0) x l q
  get_d_rows (suc n) d f x (suc i) l p q =
      ap (λ (k : ℕ). get_or (joined (suc n) (λ i. build d (f i))) k x) {x = suc i * d + l} {y = length (build d (f 0)) + (i * d + l)} (omega (arith, suc-mul i d, length_build d (f 0)))
      ∙ get_or-append-add (build d (f 0)) _ (i * d + l) x
      ∙ get_d_rows n d (λ i. f (suc i)) x i l (omega arith) q

-- a place of n rows of d words is a place of one of them
pub place_in : (n d x : ℕ) → x < n * d → (i : ℕ) × (l : ℕ) × (i < n) × (l < d) × (x ≡ i * d + l)
place_in zero d x p = absurd (omega (arith, zero-mul d))
place_in (suc n) d x p = go (place_in n d x) (dec_lt x (n * d))
  where
    go : (x < n * d → (i : ℕ) × (l : ℕ) × (i < n) × (l < d) × (x ≡ i * d + l)) → Dec (x < n * d) → (i : ℕ) × (l : ℕ) × (i < suc n) × (l < d) × (x ≡ i * d + l)
    go f (yes q) = let y = f q in (y.0, y.1, omega (arith, y.2), y.3, y.4)
    go f (no q) = (n, x - n * d, omega arith, omega (arith, suc-mul n d), omega arith)

module _ (m : FieldMeaning) (laws : FieldLaws m) where
  -- lists of elements that read alike are equal
  pub same_words : (a b : List ℕ) → Elems m a → Elems m b → length a ≡ length b → ((k : ℕ) → k < length a → read m laws a k ≡ read m laws b k) → a ≡ b
  same_words a b s t e h =
      ext_get_or 0 a b e (λ k l.
      let q : k < length b = omega arith in
      el_once m laws _ _ (s k l) (t k q) (sym (read_at m laws a k l) ∙ h k l ∙ read_at m laws b k q))

  pub same_rows : (n d : ℕ) (a b : List ℕ) → Elems m a → Elems m b → length a ≡ n * d → length b ≡ n * d → ((i l : ℕ) → i < n → l < d → row m laws d a i l ≡ row m laws d b i l) → a ≡ b
  same_rows n d a b s t e e' h =
      same_words a b s t (e ∙ sym e') (λ k l.
      let x = place_in n d k (subst (λ (z : ℕ). k < z) e l) in
      ap (read m laws a) x.4 ∙ h x.0 x.1 x.2 x.3 ∙ sym (ap (read m laws b) x.4))

  -- the words of elements
  abbrev pub words_of : ℕ → (ℕ → Elem m) → List ℕ
  words_of d v = build d (λ l. (v l).0)

  pub elems_words : (d : ℕ) (v : ℕ → Elem m) → Elems m (words_of d v)
  elems_words d v k l = subst (λ (w : ℕ). T (m.elem w)) (sym (get_or_build d (λ l. (v l).0) 0 k (omega (arith, length_build d (λ l. (v l).0))))) (v k).1

  pub read_words : (d : ℕ) (v : ℕ → Elem m) (k : ℕ) → k < d → read m laws (words_of d v) k ≡ v k
  read_words d v k l =
      read_at m laws (words_of d v) k (omega (arith, length_build d (λ l. (v l).0)))
      ∙ ap (el m laws) (get_or_build d (λ l. (v l).0) 0 k l)
      ∙ el_elem m laws (v k)

  abbrev pub rows_of : ℕ → ℕ → (ℕ → ℕ → Elem m) → List ℕ
  rows_of n d w = joined n (λ i. words_of d (w i))

  pub size_rows : (n d : ℕ) (w : ℕ → ℕ → Elem m) → length (rows_of n d w) ≡ n * d
  size_rows n d w = length_rows n d (λ i l. (w i l).0)

  pub elems_rows : (n d : ℕ) (w : ℕ → ℕ → Elem m) → Elems m (rows_of n d w)
  elems_rows n d w k l =
      let x = place_in n d k (subst (λ (z : ℕ). k < z) (size_rows n d w) l) in
      subst (λ (u : ℕ). T (m.elem u)) (sym (ap (λ (z : ℕ). get_or (rows_of n d w) z 0) x.4 ∙ get_d_rows n d (λ i l. (w i l).0) 0 x.0 x.1 x.2 x.3)) (w x.0 x.1).1

  pub read_rows : (n d : ℕ) (w : ℕ → ℕ → Elem m) (i l : ℕ) → i < n → l < d → row m laws d (rows_of n d w) i l ≡ w i l
  read_rows n d w i l p q =
      read_at m laws (rows_of n d w) (i * d + l) (subst (λ (z : ℕ). i * d + l < z) (sym (size_rows n d w)) (inside n i p))
      ∙ ap (el m laws) (get_d_rows n d (λ i l. (w i l).0) 0 i l p q)
      ∙ el_elem m laws (w i l)
    where
      inside : (n i : ℕ) → i < n → i * d + l < n * d
      inside zero i p = absurd (omega arith)
      inside (suc n) zero p = omega (arith, zero-mul d, suc-mul n d)
      inside (suc n) (suc i) p = omega (arith, suc-mul n d, suc-mul i d, inside n i (omega arith))
