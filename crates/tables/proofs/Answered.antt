-- What is promised of a result that is no refusal.
use Rattle.std.proofs.Common.{◌≡◌, true, Ok, Err, Result, sym, subst}
use mathlib.Core.Bool.{false≢true}
use Rattle.std.specs.Result.{IsOk, IsOkAnd, OnOk, is_err, result_and, result_unwrap_or}

pub on_ok : {A E P : Type 0} (r : Result A E) → IsOk r → OnOk r P → P
on_ok (Ok x) h p = p
on_ok (Err e) h p = absurd (false≢true h)

-- what `unwrap_or` answers
pub unwrapped : {A E : Type 0} (P : A → Type 0) (d : A) (r : Result A E) (x : A) → IsOkAnd r P → x ≡ result_unwrap_or r d → P x
unwrapped P d (Ok y) x p e = subst P (sym e) p
unwrapped P d (Err f) x p e = absurd (p)

-- what is promised of what was written in place
pub kept_by : {A B E : Type 0} (r : Result A E) (x : B) (P : B → Type 0) → IsOkAnd (result_and r (Ok x)) P → P x
kept_by (Ok a) x P h = h
kept_by (Err e) x P h = absurd h

pub never_refused : {A B E : Type 0} (r : Result A E) (x : B) (P : B → Type 0) → is_err r ≡ true → IsOkAnd (result_and r (Ok x)) P → ⊥
never_refused (Ok a) x P e h = false≢true e
never_refused (Err f) x P e h = h
