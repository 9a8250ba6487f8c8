-- Words and elements: the element of a word that stands for one has that word, and no other word has it.
use Rattle.std.proofs.Common.{◌≡◌, ℕ, Bool, true, false, T, sym, refl, ap, ◌∙◌}
use Rattle.field.specs.Meaning.{FieldMeaning, FieldLaws}
use Rattle.algebra.specs.Elements.{Elem, elem_path, el, el_by}

module _ (m : FieldMeaning) (laws : FieldLaws m) where
  pub el_word : (w : ℕ) → T (m.elem w) → (el m laws w).0 ≡ w
  unfolding el el_by
  el_word w t = go (m.elem w) (λ t. t) t
    where
      go : (b : Bool) (f : T b → T (m.elem w)) → T b → (el_by m laws w b f).0 ≡ w
      go true f t = refl
      go false f t = absurd t

  pub el_elem : (a : Elem m) → el m laws a.0 ≡ a
  el_elem a = elem_path m (el_word a.0 a.1)

  pub el_once : (a b : ℕ) → T (m.elem a) → T (m.elem b) → el m laws a ≡ el m laws b → a ≡ b
  el_once a b s t e = sym (el_word a s) ∙ ap (λ (x : Elem m). x.0) e ∙ el_word b t
