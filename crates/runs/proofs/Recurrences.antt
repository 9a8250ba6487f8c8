-- Every finite sequence has a least length of a recurrence: the loop of Berlekamp and Massey comes to its end.
use Rattle.std.proofs.Common.{◌≡◌, ℕ, zero, suc, ◌+◌, ◌<◌, arith}
use native.Mathlib.Decide.{dec_lt}
use Rattle.algebra.specs.Field.{Field}
use Rattle.algebra.specs.Vector.{Least}
use Rattle.linear.specs.Recurrence.{conv, Recurs}
use Rattle.linear.specs.Massey.{Loop}
use Rattle.linear.proofs.Massey as massey
use Rattle.linear.proofs.Lengths as lengths

module _ {K : Type 0} (F : Field K) (s : ℕ → K) where
  record Looped (N : ℕ) : Type 0 where
    pub C : ℕ → K
    pub l : ℕ
    pub B : ℕ → K
    pub h : ℕ
    pub k : ℕ
    pub b : K
    pub kept : Loop F s C l N B h k b

  looped : (N : ℕ) → Looped N
  looped zero = record { C = massey.one_poly F; l = 0; B = massey.one_poly F; h = 0; k = 1; b = F.one; kept = massey.start F s }
  looped (suc N) = turn (looped N)
    where
      turn : Looped N → Looped (suc N)
      turn x = go (F.same (conv F x.C s N) F.zer) (dec_lt N (x.l + x.l))
        where
          go : Dec (conv F x.C s N ≡ F.zer) → Dec (N < x.l + x.l) → Looped (suc N)
          go (yes e) d = record { C = _; l = _; B = _; h = _; k = _; b = _; kept = massey.step_same F s _ _ N _ _ _ _ x.kept e }
          go (no e) (yes d) = record { C = _; l = _; B = _; h = _; k = _; b = _; kept = massey.step_short F s _ _ N _ _ _ _ x.kept e d }
          go (no e) (no d) = record { C = _; l = _; B = _; h = _; k = _; b = _; kept = massey.step_long F s _ _ N _ _ _ _ x.kept e (omega arith) }

  pub least_length : (N : ℕ) → (l : ℕ) × Least (Recurs F s N) l
  least_length N = let x = looped N in (x.l, lengths.loop_least F s _ x.l N _ _ _ _ x.kept)
