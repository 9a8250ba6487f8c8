-- Lists made and searched by tests.
--   any p l          some member of l passes the test p
--   build n f        f 0, .., f (n - 1)
--   joined n f       the lists f 0, .., f (n - 1), one after the other
--   least n p        the least place below n that passes p, or n
-- Used by: staircase, border and normal forms. What holds of each member is AllByRecursion, and a filtered list is filter, both of the standard library.
use Rattle.std.specs.Prelude.{ℕ, zero, suc, Bool, true, false, cond, List, [], ◌∷◌, ◌++◌}

abbrev pub any : {A : Type 0} → (A → Bool) → List A → Bool
any p [] = false
any p (a ∷ l) = cond (p a) true (any p l)

abbrev pub build : {A : Type 0} → ℕ → (ℕ → A) → List A
build zero f = []
build (suc n) f = f 0 ∷ build n (λ i. f (suc i))

abbrev pub joined : {A : Type 0} → ℕ → (ℕ → List A) → List A
joined zero f = []
joined (suc n) f = f 0 ++ joined n (λ i. f (suc i))

abbrev pub least : ℕ → (ℕ → Bool) → ℕ
least zero p = 0
least (suc n) p = cond (p 0) 0 (suc (least n (λ i. p (suc i))))
