-- A test of the members of a list, as the definitions and as the library compute it.
use Rattle.std.proofs.Common.{◌≡◌, Bool, true, false, cond, ◌||◌, List, [], ◌∷◌, refl, ap, ◌∙◌}
use Rattle.std.specs.List.{list_any}
use Rattle.algebra.specs.Lists.{any}

or_cond : (b c : Bool) → cond b true c ≡ (b || c)
or_cond true c = refl
or_cond false c = refl

pub any_is_list_any : {A : Type 0} (p : A → Bool) (l : List A) → any p l ≡ list_any p l
any_is_list_any p [] = refl
any_is_list_any p (a ∷ l) = or_cond (p a) (any p l) ∙ ap (λ (c : Bool). p a || c) (any_is_list_any p l)
