-- A result whose error was mapped, from what `map_err` promises: which variant it was before. Used by the readers of lines, and above.
use Rattle.std.proofs.Common.{◌≡◌, Ok, Err, Result, sym, refl, ap, subst}
use Rattle.std.specs.Result.{IsErrAnd, MatchResult}

module _ {T E D : Type 0} (Q : E → D → Type 0) where
  pub mapped_ok : (r : Result T E) (s : Result T D) (y : T) → s ≡ Ok y → MatchResult r (λ x. s ≡ Ok x) (λ e. IsErrAnd s (Q e)) → r ≡ Ok y
  mapped_ok (Ok x) s y e h = let k : y ≡ x = cc in ap Ok (sym k)
  mapped_ok (Err d) s y e h = absurd (subst (λ t. IsErrAnd t (Q d)) e h)

  pub mapped_err : (r : Result T E) (s : Result T D) (d : D) → s ≡ Err d → MatchResult r (λ x. s ≡ Ok x) (λ e. IsErrAnd s (Q e)) → (e : E) × (r ≡ Err e) × Q e d
  mapped_err (Ok x) s d e h = absurd (cc)
  mapped_err (Err f) s d e h = (f, refl, subst (λ t. IsErrAnd t (Q f)) e h)
