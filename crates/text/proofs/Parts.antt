-- Texts written one after the other: what stands once i of them are written, each as long as its size.
use Rattle.std.proofs.Common.{◌≡◌, ℕ, ◌+◌, ◌<◌, ◌≤◌, List, [], ◌∷◌, ◌++◌, length, get_or, take, drop, sym, refl, ap, ◌∙◌, ap₂, arith, length-append, take-append-drop}
use Rattle.std.specs.List.{flat_map}
use Rattle.std.proofs.lemmas.List.{flat_map_more, take_all, take_more}
use Rattle.column.specs.Place.{put}
use Rattle.column.proofs.Places.{put_none, put_put}
use Rattle.text.specs.Written.{sizes}

module _ {X : Type 0} (size : X → ℕ) where
  sizes_append : (xs ys : List X) → sizes size (xs ++ ys) ≡ sizes size xs + sizes size ys
  sizes_append [] ys = omega arith
  sizes_append (x ∷ xs) ys = omega (arith, sizes_append xs ys)

  pub sizes_more : (xs : List X) (i : ℕ) (d : X) → i < length xs → sizes size (take (i + 1) xs) ≡ sizes size (take i xs) + size (get_or xs i d)
  sizes_more xs i d h = ap (sizes size) (take_more xs i d h) ∙ sizes_append (take i xs) (get_or xs i d ∷ []) ∙ omega arith

  sizes_front : (xs : List X) (i : ℕ) → sizes size (take i xs) ≤ sizes size xs
  sizes_front xs i = omega (arith, sizes_append (take i xs) (drop i xs), ap (sizes size) (take-append-drop i xs))

  -- room for all is room for the next
  pub sizes_next : (xs : List X) (i : ℕ) (d : X) → i < length xs → sizes size (take i xs) + size (get_or xs i d) ≤ sizes size xs
  sizes_next xs i d h = omega (arith, sizes_more xs i d h, sizes_front xs (i + 1))

  pub sizes_all : (xs : List X) (i : ℕ) → length xs ≤ i → sizes size (take i xs) ≡ sizes size xs
  sizes_all xs i h = ap (sizes size) (take_all i xs h)

-- i of the texts of xs stand from a place on, and the next begins at the end
pub record Parts {X : Type 0} (f : X → List ℕ) (size : X → ℕ) (xs : List X) (start : List ℕ) (at i : ℕ) (out : List ℕ) (end : ℕ) : Type 0 where
  pub bytes : out ≡ put start at (flat_map f (take i xs))
  pub long : length (flat_map f (take i xs)) ≡ sizes size (take i xs)
  pub place : end ≡ at + sizes size (take i xs)

module _ {X : Type 0} (f : X → List ℕ) (size : X → ℕ) (xs : List X) (start : List ℕ) (at : ℕ) where
  pub parts_none : Parts f size xs start at 0 start at
  parts_none = record { bytes = sym (put_none start at); long = refl; place = omega arith }

  joined_next : (i : ℕ) (d : X) → i < length xs → flat_map f (take (i + 1) xs) ≡ flat_map f (take i xs) ++ f (get_or xs i d)
  joined_next i d h = ap (flat_map f) (take_more xs i d h) ∙ sym (flat_map_more f [] (take i xs) (get_or xs i d))

  pub parts_more : (i : ℕ) (d : X) (out new : List ℕ) (end next : ℕ) → i < length xs → at ≤ length start → Parts f size xs start at i out end
      → length (f (get_or xs i d)) ≡ size (get_or xs i d) → new ≡ put out end (f (get_or xs i d)) → next ≡ end + size (get_or xs i d) → Parts f size xs start at (i + 1) new next
  parts_more i d out new end next h room w l e n =
      let x : X = get_or xs i d in
      let before : end ≡ at + length (flat_map f (take i xs)) = omega (arith, w.place, w.long) in
      record {
        bytes = e ∙ ap₂ (λ (bs : List ℕ) (k : ℕ). put bs k (f x)) w.bytes before ∙ put_put start (flat_map f (take i xs)) (f x) at room ∙ ap (put start at) (sym (joined_next i d h));
        long = ap length (joined_next i d h) ∙ length-append (flat_map f (take i xs)) (f x) ∙ omega (arith, w.long, l, sizes_more size xs i d h);
        place = omega (arith, w.place, n, sizes_more size xs i d h);
      }

  pub parts_all : (i : ℕ) (out : List ℕ) (end : ℕ) → length xs ≤ i → Parts f size xs start at i out end
      → (out ≡ put start at (flat_map f xs)) × (length (flat_map f xs) ≡ sizes size xs) × (end ≡ at + sizes size xs)
  parts_all i out end h w =
      let e = take_all i xs h in
      (w.bytes ∙ ap (λ (ys : List X). put start at (flat_map f ys)) e, sym (ap (λ (ys : List X). length (flat_map f ys)) e) ∙ w.long ∙ ap (sizes size) e, w.place ∙ ap (λ (ys : List X). at + sizes size ys) e)
