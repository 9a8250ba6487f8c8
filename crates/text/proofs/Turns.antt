-- Going over the polynomials of a store: which polynomial a turn of the loop has, and that all were had once none is left.
use Rattle.std.proofs.Common.{◌≡◌, ◌<◌, ◌≤◌, Bor, List, Some, None, Option, length, get_or, arith}
use lib.ListN.{length-map}
use Rattle.std.specs.Iterator.{Yields, YieldsFirstRef}
use Rattle.std.proofs.lemmas.Iterator.{YieldsList}
use Rattle.std.proofs.lemmas.Iterator.Consumers.{YieldsList-from_first, YieldsList-turn, YieldsList-end}
use Rattle.staircase.specs.declared.rules.Term.{Term}
use Rattle.polynomials.specs.declared.store.Polynomials.{Polynomials}
use Rattle.polynomials.specs.declared.iter.Entries.{Entries}
use Rattle.polynomials.specs.Held.{entries, held, terms_of}
use Rattle.polynomials.specs.Left.{entries_left}

module _ (s : Polynomials) (it : Entries) (begins : entries_left it ≡ entries s) (xs : List (Bor (List Term))) (t u : Entries) (y : Yields (YieldsFirstRef entries_left) it xs t) (r : Option (Bor (List Term))) (step : YieldsFirstRef entries_left t r u) where
  all : YieldsList (YieldsFirstRef entries_left) (λ (x : Bor (List Term)). x.now) it (entries s)
  all = YieldsList-from_first (λ (x : Bor (List Term)). x.now) entries_left (entries s) begins

  pub turn : (x : Bor (List Term)) → r ≡ Some x → (length xs < length (held s)) × (x.now ≡ get_or (entries s) (length xs) x.now)
  turn x e = let h = YieldsList-turn all xs t y r u x e step in (omega (arith, h.0, length-map (entries s) terms_of), h.1)

  pub over : r ≡ None → length (held s) ≤ length xs
  over e = omega (arith, (YieldsList-end all xs t y r u e step).1, length-map (entries s) terms_of)
