-- A walk over a list from its end: what is left, and what is done.
use Rattle.std.proofs.Common.{◌≡◌, List, [], ◌∷◌, ◌++◌, sym, ap, ◌∙◌, append_assoc}
use Rattle.std.proofs.lemmas.List.{append-nil}

module _ {A : Type 0} (xs : List A) where
  pub back_none : (rest : List A) → rest ≡ xs → xs ≡ rest ++ []
  back_none rest e = sym e ∙ sym (append-nil rest)

  pub back_more : (rest done next : List A) (x : A) → xs ≡ rest ++ done → rest ≡ next ++ x ∷ [] → xs ≡ next ++ x ∷ done
  back_more rest done next x e is = e ∙ ap (λ (l : List A). l ++ done) is ∙ append_assoc next (x ∷ []) done
