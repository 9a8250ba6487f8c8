-- The words of a term's line: those of its line in all variables begin with those of its line in fewer.
use Rattle.std.proofs.Common.{◌≡◌, ℕ, zero, suc, ◌+◌, ◌≤◌, [], ◌∷◌, take, refl, arith}
use Rattle.order.specs.declared.monomial.Monomial.{Monomial}
use Rattle.order.specs.Monomials.{variables, exponent}
use Rattle.runs.specs.Writing.{exponents}

pub words_front : (n w : ℕ) (u : Monomial) → n ≤ variables → take (n + 1) (w ∷ u.x1 ∷ u.x2 ∷ u.x3 ∷ u.x4 ∷ []) ≡ w ∷ exponents n u
unfolding exponent
words_front zero w u l = refl
words_front (suc zero) w u l = refl
words_front (suc (suc zero)) w u l = refl
words_front (suc (suc (suc zero))) w u l = refl
words_front (suc (suc (suc (suc zero)))) w u l = refl
words_front (suc (suc (suc (suc (suc n))))) w u l = absurd (omega arith)
