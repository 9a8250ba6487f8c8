-- The leading monomials of polynomials, and the questions of Close about them.
--   lead_of p                      the monomial of the first term of p, 1 where there is none
--   leads_of ps                    those of the polynomials ps
--   lead_asks m laws n ps          13 to 15: is none 1, has each variable a power, does none divide another
--   inside_ask m laws cmp n ps     17: is each later term in the staircase
--   not_one_ask ls                 13 put to the leading monomials ls as the code has them
--   powers_ask n ls                14
--   Apart ls i t                   none of ls but the one at place i divides t
--   apart_ask ls                   15
--   Stands l t                     t is a member of the list l
--   RestStands l p                 each term of p but the first has its monomial in the list l
--   rests_ask l ps                 17 put to polynomials and a staircase as the code has them
-- Used by: the functions that put these questions.
use Rattle.std.specs.Prelude.{◌≡◌, ℕ, ◌<◌, ◌≤◌, true, false, ◌≢◌, List, [], ◌∷◌, map, length, slice_index_or}
use Rattle.field.specs.Meaning.{FieldMeaning, FieldLaws}
use Rattle.order.specs.declared.monomial.Monomial.{Monomial}
use Rattle.order.specs.Monomials.{one, divides, power_of}
use Rattle.order.specs.Laws.{Comparison}
use Rattle.algebra.specs.Lists.{any}
use Rattle.algebra.specs.Monomial as mono
use Rattle.runs.specs.Question.{Question, each}
use Rattle.runs.specs.Job.{Term, monomial_at}
use Rattle.runs.specs.Close.{lead, HasPower, Undivided, Inside}

abbrev pub lead_of : List Term → Monomial
lead_of [] = one
lead_of (t ∷ p) = t.1

abbrev pub leads_of : List (List Term) → List Monomial
leads_of ps = map lead_of ps

abbrev pub lead_asks : (m : FieldMeaning) → FieldLaws m → ℕ → List (List Term) → List Question
lead_asks m laws n ps =
    each 13 0 (length ps) (λ p. lead m laws n ps p ≢ mono.one n)
    ∷ each 14 0 n (HasPower m laws n ps)
    ∷ each 15 0 (length ps) (Undivided m laws n ps)
    ∷ []

abbrev pub inside_ask : (m : FieldMeaning) → FieldLaws m → Comparison → ℕ → List (List Term) → Question
inside_ask m laws cmp n ps = each 17 0 (length ps) (Inside m laws cmp n ps)

-- over the code's monomials

abbrev pub not_one_ask : List Monomial → Question
not_one_ask ls = each 13 0 (length ls) (λ i. slice_index_or ls i one ≢ one)

abbrev pub powers_ask : ℕ → List Monomial → Question
powers_ask n ls = each 14 0 n (λ k. any (power_of k) ls ≡ true)

abbrev pub Apart : List Monomial → ℕ → Monomial → Type 0
Apart ls i t = (q : ℕ) → q < length ls → q ≢ i → divides (slice_index_or ls q one) t ≡ false

abbrev pub apart_ask : List Monomial → Question
apart_ask ls = each 15 0 (length ls) (λ i. Apart ls i (slice_index_or ls i one))

abbrev pub Stands : List Monomial → Monomial → Type 0
Stands l t = (j : ℕ) × (j < length l) × (slice_index_or l j one ≡ t)

abbrev pub RestStands : List Monomial → List Term → Type 0
RestStands l p = (i : ℕ) → 1 ≤ i → i < length p → Stands l (monomial_at p i)

abbrev pub rests_ask : List Monomial → List (List Term) → Question
rests_ask l ps = each 17 0 (length ps) (λ p. RestStands l (slice_index_or ps p []))
