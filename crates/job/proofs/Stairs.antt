-- The staircase of a closed job, as its tables hold it.
use Rattle.std.proofs.Common.{◌≡◌, ℕ, pred, ◌-◌, ◌<◌, ◌≤◌, Bool, true, false, cond, ◌&&◌, ltb, leb, ◌≢◌, List, length, get_or, Some, None, Option, sym, ap, ◌∙◌, subst, ap₂, sub-one, arith}
use native.Mathlib.Decide.{dec_lt}
use Rattle.std.proofs.lemmas.List.{get_or-map}
use Rattle.std.proofs.lemmas.Bool.{lt-ltb, le-ltb, le-leb, lt-leb}
use Rattle.field.specs.Meaning.{FieldMeaning, FieldLaws}
use Rattle.order.specs.declared.monomial.Monomial.{Monomial}
use Rattle.order.specs.Monomials as record_of
use Rattle.order.specs.Laws.{Comparison}
use Rattle.algebra.specs.Monomial.{Mono, one}
use Rattle.algebra.specs.Records.{flat, before_by}
use Rattle.algebra.specs.Basis as basis
use Rattle.runs.specs.Job.{Job, closed}
use Rattle.runs.specs.Generators.{generators, D, stair_at}
use Rattle.tables.specs.declared.tables.Tables.{Tables}
use Rattle.tables.specs.Holds.{stair_count, Holds}
use Rattle.job.specs.Promise.{stair_of}

module _ (m : FieldMeaning) (laws : FieldLaws m) (cmp : Comparison) (j : Job) (t : Tables) (H : Holds m laws cmp j.n j.polynomials t) where
  abbrev d : ℕ
  d = D m laws cmp j.n j.polynomials

  abbrev S : List (Mono j.n)
  S = basis.stairs j.n (before_by cmp j.n) (generators m laws j.n j.polynomials)

  held : (i : ℕ) → i < stair_count t → get_or t.stairs.items i record_of.one ≡ flat j.n (stair_at m laws cmp j.n j.polynomials i)
  held i l =
      let within : i < length S = subst (λ (x : ℕ). i < x) H.size l in
      ap (λ (l : List Monomial). get_or l i record_of.one) H.stairs ∙ get_or-map (flat j.n) S i (one j.n) record_of.one within

  pub stair_held : (p : ℕ) → p ≢ 0 → cond (ltb (p - 1) (stair_count t)) (Some (get_or t.stairs.items (p - 1) record_of.one)) None ≡ stair_of m laws cmp j p closed
  stair_held p ne = go (dec_lt (p - 1) (stair_count t))
    where
      some : 1 ≤ p
      some = omega arith

      pick : (b : Bool) (x : Option Monomial) → leb p d ≡ b → cond (leb 1 p && leb p d) x None ≡ cond b x None
      pick b x e = ap₂ (λ (u v : Bool). cond (u && v) x None) (le-leb 1 p some) e

      go : Dec (p - 1 < stair_count t) → cond (ltb (p - 1) (stair_count t)) (Some (get_or t.stairs.items (p - 1) record_of.one)) None ≡ stair_of m laws cmp j p closed
      go (yes l) =
          let same : p - 1 ≡ pred p = sub-one p in
          let far : p ≤ d = omega (arith, H.size) in
          ap (λ (b : Bool). cond b (Some (get_or t.stairs.items (p - 1) record_of.one)) None) (lt-ltb (p - 1) (stair_count t) l)
          ∙ ap Some (held (p - 1) l ∙ ap (λ (i : ℕ). flat j.n (stair_at m laws cmp j.n j.polynomials i)) same)
          ∙ sym (pick true (Some (flat j.n (stair_at m laws cmp j.n j.polynomials (pred p)))) (le-leb p d far))
      go (no l) =
          let past : stair_count t ≤ p - 1 = omega arith in
          let far : d < p = omega (arith, H.size) in
          ap (λ (b : Bool). cond b (Some (get_or t.stairs.items (p - 1) record_of.one)) None) (le-ltb (p - 1) (stair_count t) past) ∙ sym (pick false (Some (flat j.n (stair_at m laws cmp j.n j.polynomials (pred p)))) (lt-leb p d far))
