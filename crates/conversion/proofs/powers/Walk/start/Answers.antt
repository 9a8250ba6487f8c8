use Rattle.std.proofs.Common.{◌≡◌, ℕ, zero, suc, ◌<◌, List, [], ◌∷◌, length, get_or, set, sym, refl, ap, ◌∙◌, arith}
use Rattle.field.specs.Meaning.{FieldMeaning, FieldLaws}
use Rattle.algebra.specs.Elements.{Elem, field_of}
use Rattle.algebra.proofs.Sums.{basis_same, basis_other}
use Rattle.conversion.specs.Powers.{unit}
use Rattle.conversion.proofs.powers.Walk.start.Goals as goal

-- one at place 0 of zeros
one_put : (m : FieldMeaning) (laws : FieldLaws m) (xs : List ℕ) → ((i : ℕ) → i < length xs → get_or xs i 0 ≡ m.zero) → (j : ℕ) → j < length xs → get_or (set xs 0 m.one) j 0 ≡ (unit m laws j).0
one_put m laws [] zeros j h = elim h [ ]
one_put m laws (x ∷ xs) zeros zero h = sym (ap (λ (y : Elem m). y.0) (basis_same (field_of m laws) 0))
one_put m laws (x ∷ xs) zeros (suc j) h = zeros (suc j) h ∙ sym (ap (λ (y : Elem m). y.0) (basis_other (field_of m laws) 0 (suc j) (λ e. omega arith)))

pub returns : goal.returns
returns g c laws j h = rw c.one.ensures (one_put (g.F.Field.meaning c.args.field.now) laws c.fill.new.self (λ i p. c.fill.ensures.clones i 0 (omega (arith, c.fill.auto.self)) refl ∙ c.zero.ensures) j (omega (arith, c.fill.auto.self)))
