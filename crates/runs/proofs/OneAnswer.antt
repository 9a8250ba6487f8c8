-- Each call has one answer: its questions are settled one after the other, and what an accepted call answers exists and is one.
use Rattle.std.proofs.Common.{◌≡◌, ℕ, pred, ◌<◌, ◌≤◌, ◌⊎◌, List, [], ◌∷◌, length, drop, sym, refl, ap, ◌∙◌, ap₂, inl, inr}
use native.Mathlib.Decide.{ℕ_discrete, dec_le}
use Rattle.field.specs.Meaning.{FieldMeaning, FieldLaws}
use Rattle.order.specs.Laws.{Comparison, OrderLaws}
use Rattle.algebra.specs.Field.{Field}
use Rattle.algebra.specs.Elements.{Elem, field_of}
use Rattle.algebra.specs.Ideal.{SomeCombination}
use Rattle.algebra.specs.Monomial.{power, divides}
use Rattle.algebra.specs.Records.{before_by}
use Rattle.algebra.specs.Matrices.{Agreement}
use Rattle.algebra.proofs.Matrices.{agreement_holds}
use Rattle.runs.specs.Question.{AllYes}
use Rattle.runs.specs.Job.{Term, Job, closed, most_stairs}
use Rattle.runs.specs.Generators.{generators, D, stair_at}
use Rattle.runs.specs.Close.{lead, HasPower, Undivided, stairs_asks}
use Rattle.runs.specs.Convert.{shape_ask, table_ask, vector_asks}
use Rattle.runs.specs.Call.{Call, enter, fill, close, convert, reduce, Answer, refused, accepted, asks, Output, Answers}
use Rattle.runs.specs.Sound.{Sound, BasisAgrees}
use Rattle.runs.specs.Whole.{OneAnswer}
use Rattle.runs.proofs.Questions.{Settled, Chain, ◌▸◌, chain_append, decide, refused_once, refused_not, Decided, settled, settled_each, settled_least}
use Rattle.runs.proofs.Deciding.{below_known, both_known, not_known, if_known, some_known, test_known, true_known, opened_known, closed_known, all_known, monomial_known, power_known, among_known}
use Rattle.runs.proofs.Texts.{range_known, enter_chain, fill_chain}
use Rattle.runs.proofs.Entered.{agree_ask, order_of, basis_passed}
use Rattle.runs.proofs.Conversion as conversion
use Rattle.runs.proofs.Conversion.{convertible, from_zero}
use Rattle.runs.proofs.WholeRuns.{written_once}

module _ (m : FieldMeaning) (laws : FieldLaws m) (cmp : Comparison) (O : OrderLaws cmp) (j : Job) (S : Sound m laws cmp j) where
  abbrev F : Field (Elem m)
  F = field_of m laws

  abbrev n : ℕ
  n = j.n

  abbrev ps : List (List Term)
  ps = j.polynomials

  -- the questions of Close

  undivided_known : (p : ℕ) → Dec (Undivided m laws n ps p)
  undivided_known p = below_known _ (length ps) (λ q l. if_known (not_known (ℕ_discrete q p)) (not_known (true_known (divides n (lead m laws n ps q) (lead m laws n ps p)))))

  has_power_known : (k : ℕ) → k < n → Dec (HasPower m laws n ps k)
  has_power_known k l = some_known (λ p. (e : ℕ) × (lead m laws n ps p ≡ power n k e)) (length ps) (λ p q. power_known n k l (lead m laws n ps p))

  agree_known : AllYes (stairs_asks m laws cmp n ps) → Dec (BasisAgrees m laws cmp j)
  agree_known y = go agreement.decided
    where
      agreement : Agreement F n (before_by cmp n) (generators m laws n ps)
      agreement = agreement_holds F n (before_by cmp n) (order_of m laws cmp O j S) (generators m laws n ps) (basis_passed m laws cmp O j S y)

      go : BasisAgrees m laws cmp j ⊎ SomeCombination F n (generators m laws n ps) (D m laws cmp n ps) (stair_at m laws cmp n ps) → Dec (BasisAgrees m laws cmp j)
      go (inl h) = yes h
      go (inr x) = no (λ h. agreement.exactly.0 h x)

  stairs_chain : Chain (stairs_asks m laws cmp n ps)
  stairs_chain =
      settled_each 13 0 _ _ (λ p q. not_known (monomial_known n _ _))
      ▸ settled_each 14 0 _ _ has_power_known
      ▸ settled_each 15 0 _ _ (λ p q. undivided_known p)
      ▸ settled 16 0 (dec_le _ most_stairs)
      ▸ settled_each 17 0 _ _ (λ p q. all_known _ (λ t. among_known n t.1 _) _)
      ▸ tt

  -- those of Convert, to a closed job

  module _ (e : j.stage ≡ closed) (k : ℕ) (v : (1 ≤ k) × (k ≤ n)) (r : List ℕ) where
    shape_settled : Settled (shape_ask m laws cmp n ps k)
    shape_settled = settled_least 24 0 _ (conversion.shape_known m laws cmp O j S e (pred k) (from_zero n k v)) (conversion.least_some m laws cmp O j S e (pred k) (from_zero n k v))

    table_settled : (shape_ask m laws cmp n ps k).yes → Settled (table_ask m laws cmp n ps k r)
    table_settled shape = settled_least 25 0 _ (conversion.table_known m laws cmp O j S e (pred k) (from_zero n k v) shape r) (conversion.length_some m laws cmp O j S e (pred k) (from_zero n k v) r)

    rest_chain : (room : ℕ) → Chain (drop 1 (vector_asks m laws cmp n ps k r room))
    rest_chain room =
        settled 21 0 (ℕ_discrete (length r) _)
        ▸ settled_each 22 0 _ _ (λ i q. test_known _)
        ▸ settled 23 0 (dec_le _ room)
        ▸ (shape_settled, λ shape. table_settled shape ▸ tt)

  vector_chain : j.stage ≡ closed → (k : ℕ) (r : List ℕ) (room : ℕ) → Chain (vector_asks m laws cmp n ps k r room)
  vector_chain e k r room = (settled 20 0 (both_known (dec_le 1 k) (dec_le k n)), λ v. rest_chain e k v r room)

  pub chain : (c : Call) → Chain (asks m laws cmp j c)
  chain (enter p) = enter_chain m cmp j p
  chain (fill bytes) = fill_chain m cmp j bytes
  chain close = settled 5 0 (opened_known j.stage) ▸ chain_append (stairs_asks m laws cmp n ps) (agree_ask m laws cmp j ∷ []) stairs_chain (λ y. settled 18 0 (agree_known y) ▸ tt)
  chain (convert k r room) = (settled 19 0 (closed_known j.stage), λ e. vector_chain e k r room)
  chain (reduce p room) =
      settled 19 0 (closed_known j.stage)
      ▸ settled_each 9 0 _ _ (λ i q. test_known _)
      ▸ settled_each 10 0 _ _ (λ i q. range_known n _)
      ▸ settled 23 0 (dec_le _ room)
      ▸ tt

  -- what an accepted call answers exists

  pub output_some : (c : Call) → AllYes (asks m laws cmp j c) → (out : List ℕ) × Output m laws cmp j c out
  output_some (enter p) y = ([], refl)
  output_some (fill bytes) y = (_, refl)
  output_some close y = (_, refl)
  output_some (convert k r room) y =
      let x = convertible m laws cmp j k r room y in
      conversion.written_some m laws cmp O j S x.is_closed k (from_zero n k x.variable) r x.table
  output_some (reduce p room) y = conversion.reduced_some m laws cmp O j S y.0 p

  -- and is one

  pub output_once : (c : Call) → AllYes (asks m laws cmp j c) → (out out' : List ℕ) → Output m laws cmp j c out → Output m laws cmp j c out' → out ≡ out'
  output_once (enter p) y out out' x x' = x ∙ sym x'
  output_once (fill bytes) y out out' x x' = x ∙ sym x'
  output_once close y out out' x x' = x ∙ sym x'
  output_once (convert k r room) y out out' x x' = written_once m laws cmp O j S k room room r r out out' (y, x) (y, x')
  output_once (reduce p room) y out out' x x' = conversion.reduced_once m laws cmp O j S y.0 p out out' x x'

  some_answer : (c : Call) → (a : Answer) × Answers m laws cmp j c a
  some_answer c = go (decide (asks m laws cmp j c) (chain c))
    where
      go : Decided (asks m laws cmp j c) → (a : Answer) × Answers m laws cmp j c a
      go (inl y) = let x = output_some c y in (accepted x.0, (y, x.1))
      go (inr x) = (refused x.0 x.1 x.2, x.3)

  same_answer : (c : Call) (a b : Answer) → Answers m laws cmp j c a → Answers m laws cmp j c b → a ≡ b
  same_answer c (refused number line place) (refused number' line' place') x y =
      let z = refused_once (asks m laws cmp j c) (chain c) number line place number' line' place' x y in
      ap₂ (λ (u v : ℕ). refused u v place) z.0 z.1 ∙ ap (λ (u : ℕ). refused number' line' u) z.2
  same_answer c (refused number line place) (accepted out) x y = absurd (refused_not (asks m laws cmp j c) number line place y.0 x)
  same_answer c (accepted out) (refused number line place) x y = absurd (refused_not (asks m laws cmp j c) number line place x.0 y)
  same_answer c (accepted out) (accepted out') x y = ap (λ (u : List ℕ). accepted u) (output_once c x.0 out out' x.1 y.1)

pub one_answer : OneAnswer
one_answer m laws cmp O j S c = let x = some_answer m laws cmp O j S c in (x.0, x.1, λ b y. same_answer m laws cmp O j S c b x.0 y x.1)
