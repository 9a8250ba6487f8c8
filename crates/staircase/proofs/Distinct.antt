-- A list of different members, all of which stand in another list, is no longer than that.
use Rattle.std.proofs.Common.{◌≡◌, ℕ, zero, suc, ◌<◌, ◌≤◌, ◌≢◌, List, [], ◌∷◌, length, get_or, sym, refl, ap, ◌∙◌, arith}
use Rattle.std.specs.List.{ContainsAt as Has, AllByRecursion}
use Rattle.std.proofs.ByRecursion.{All-from_get_or, All-get_or}

module _ {A : Type 0} where
  -- the list without what stands at place k
  abbrev without : List A → ℕ → List A
  without [] k = []
  without (a ∷ l) zero = l
  without (a ∷ l) (suc k) = a ∷ without l k

  without_length : (l : List A) (k : ℕ) → k < length l → length l ≡ suc (length (without l k))
  without_length [] k h = absurd (omega arith)
  without_length (a ∷ l) zero h = refl
  without_length (a ∷ l) (suc k) h = ap suc (without_length l k (omega arith))

  without_has : (l : List A) (k : ℕ) (x : A) → ((d : A) → get_or l k d ≢ x) → Has l x → Has (without l k) x
  without_has [] k x n h = h
  without_has (a ∷ l) zero x n (zero, p, q) = absurd (n a (q a))
  without_has (a ∷ l) zero x n (suc i, p, q) = (i, omega arith, q)
  without_has (a ∷ l) (suc k) x n (zero, p, q) = (zero, omega arith, q)
  without_has (a ∷ l) (suc k) x n (suc i, p, q) = let y = without_has l k x n (i, omega arith, q) in (suc y.0, omega (arith, y.1), y.2)

  pub no_longer : (d : A) (l s : List A) → ((i j : ℕ) → i < j → j < length l → get_or l i d ≢ get_or l j d) → AllByRecursion (Has s) l → length l ≤ length s
  no_longer d [] s apart h = omega arith
  no_longer d (a ∷ l) s apart h =
      let at = h.0 in
      let rest : AllByRecursion (Has (without s at.0)) l = All-from_get_or (Has (without s at.0)) l d (λ i q. without_has s at.0 (get_or l i d) (λ e z. apart 0 (suc i) (omega arith) (omega arith) (sym (at.2 e) ∙ z)) (All-get_or (Has s) l i d q h.1)) in
      omega (arith, no_longer d l (without s at.0) (λ i j p q. apart (suc i) (suc j) (omega arith) (omega arith)) rest, without_length s at.0 at.1)
