-- The first of the numbers below n at which a closure gives something, as `find_map` finds it.
use Rattle.std.proofs.Common.{◌≡◌, ℕ, ◌+◌, ◌<◌, true, refl, ap, ◌∙◌, subst, arith}
use Rattle.std.specs.Option.{option_map}
use Rattle.std.specs.Prelude.{Option, Some, None, MatchOption, IfSome, IsSomeAnd}
use denote.Param.Members.{Mut}
use Rattle.std.specs.Fn.{Called}
use Rattle.std.specs.Iterator.Runs.{SomeRun, AllItemsGive, IsFirstToGive, CallKeepsClosure}
use Rattle.std.proofs.iter.Yields.{nat_range_steps}
use Rattle.std.proofs.iter.runs.Sources.{range_runs}

-- what holds of the item at a place, of the number that it is
given : (o : Option ℕ) (a : ℕ) (P : ℕ → Type 0) → option_map (λ y. y) o ≡ Some a → IfSome o P → P a
given None a P e h = absurd (subst (λ o. MatchOption o (Unit {0}) (λ _. ⊥)) e tt)
given (Some x) a P e h = subst P (subst (λ o. MatchOption o ⊥ (λ y. x ≡ y)) e refl) h

stands : (o : Option ℕ) (a b : ℕ) (P : ℕ → Type 0) → IsSomeAnd o P → IfSome o (λ x. (x ≡ a) × (x < b)) → P a
stands None a b P h k = absurd h
stands (Some x) a b P h k = subst P k.0 h

pub first_mapped : {F B : Type 0} {g : Mut F (ℕ × Unit {0}) (Option B)} (n : ℕ) (f : F) (r : Option B) (Miss : ℕ → Type 0) (Hit : ℕ → B → Type 0)
    → SomeRun nat_range_steps (record { start = 0; end = n }) (λ p. MatchOption r ((p.whole ≡ true) × AllItemsGive p g f None) (λ y. (i : ℕ) × (i < p.len) × (p.len ≡ i + 1) × IsFirstToGive p g f (Some y) None i))
    → CallKeepsClosure g f
    → ((x : ℕ) → Called g f (x, tt) None f → Miss x) → ((x : ℕ) (y : B) → Called g f (x, tt) (Some y) f → Hit x y)
    → MatchOption r ((k : ℕ) → k < n → Miss k) (λ y. (i : ℕ) × (i < n) × Hit i y × ((k : ℕ) → k < i → Miss k))
first_mapped {g = g} n f None Miss Hit s keeps miss hit = λ k l.
    let p = s.0 in
    let count = range_runs p p.seen in
    let at : p.from.start + k ≡ k = omega (arith, ap (λ r. r.start) s.1) in
    let inside : k < p.len = omega (arith, l, count.1 s.2.0, ap (λ r. r.start) s.1, ap (λ r. r.end) s.1) in
    miss k (given (p.at k) k (λ x. Called g f (x, tt) None f) (count.3 k inside ∙ ap Some at) (s.2.1 keeps k))
first_mapped {g = g} n f (Some y) Miss Hit s keeps miss hit =
    let p = s.0 in
    let count = range_runs p p.seen in
    let start = ap (λ r. r.start) s.1 in
    let i = s.2.0 in
    let first = s.2.3 keeps in
    let at : (k : ℕ) → IfSome (p.at k) (λ x. (x ≡ k) × (x < n)) = λ k. let e : 0 + k ≡ k = omega arith in subst (λ a. IfSome (p.at k) (λ x. (x ≡ a) × (x < n))) e (subst (λ z. IfSome (p.at k) (λ x. (x ≡ z.start + k) × (x < z.end))) s.1 (count.2 k)) in (
      i,
      omega (arith, s.2.1, count.0, start, ap (λ r. r.end) s.1),
      hit i y (stands (p.at i) i n (λ x. Called g f (x, tt) (Some y) f) first.0 (at i)),
      λ k l. miss k (stands (p.at k) k n (λ x. Called g f (x, tt) None f) (first.1 k l) (at k)),
    )
