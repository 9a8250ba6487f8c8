-- Worked examples: jobs over GF(7) and GF(23) with the order DRL, each with a call and its answer, and numbers of the byte field.
--   gf p                        the residue field modulo p, as the code's Residue has it
--   x a b c                     the monomial x_1^a x_2^b x_3^c
--   triple                      x_2^2 + 5 x_2 + 6 x_1 + 1, x_1 x_2 + 3 x_2 + 2 x_1 + 4, x_1^2 + 5 x_2 + x_1 + 2
--   two_points                  x_1^2 + 6, x_2 + 5: the points (1, 2) and (6, 2)
--   fat_point                   x_1^2, x_1 x_2, x_2^2
--   disagreeing                 x_1^2, x_1 x_2 + 6, x_2^2: their multiplication matrices do not commute
--   no_power                    x_1 x_2, x_2^2: no power of x_1 leads
--   outside                     x_2^2 + x_1^2, x_1^2: a later term that is not in the staircase
--   quadruple                   over GF(23): x_1^3 + 12 x_1^2 + 10 x_2 + x_1, x_2^2 + 4 x_1^2 + 9 x_2 + 14 x_1,
--                               x_1 x_2 + 15 x_1^2 + 16 x_2 + 18 x_1, x_3 + 2 x_2 + 2 x_1 + 22
--   opened_job, closed_job n ps a job of n variables that holds the polynomials ps, open and closed
--   Row                         a prime p, a job over GF(p), a call and its answer
--   examples                    the table
--   Holds e                     the job of the row e is sound, as calls leave jobs, and answers its call with its answer
--   WorkedExamples             every row of the table holds; the staircase of the triple is 1, x_1, x_2; a product and an inverse in the byte field
-- Used by: worked_examples_hold. Sound and Answers are those that the contracts of the calls cite.
use Rattle.std.specs.Prelude.{◌≡◌, ℕ, List, [], ◌∷◌, Some}
use Rattle.std.specs.List.{AllByRecursion}
use Rattle.field.specs.Meaning.{FieldMeaning, FieldLaws, total}
use Rattle.field.specs.Residues.{residues}
use Rattle.field.specs.Bytes.{bytes}
use Rattle.order.specs.declared.monomial.Monomial.{Monomial}
use Rattle.order.specs.Orders.{drl}
use Rattle.algebra.specs.Monomial.{one, var}
use Rattle.algebra.specs.Records.{before_by}
use Rattle.algebra.specs.Basis.{stairs}
use Rattle.runs.specs.Job.{Term, Job, new, holding, shut}
use Rattle.runs.specs.Generators.{generators}
use Rattle.runs.specs.Call.{Call, close, convert, reduce, Answer, refused, accepted, Answers}
use Rattle.runs.specs.Sound.{Sound}

abbrev pub gf : ℕ → FieldMeaning
gf p = total (residues p)

abbrev pub x : ℕ → ℕ → ℕ → Monomial
x a b c = record { x1 = a; x2 = b; x3 = c; x4 = 0 }

abbrev pub triple : List (List Term)
triple =
    ((1, x 0 2 0) ∷ (5, x 0 1 0) ∷ (6, x 1 0 0) ∷ (1, x 0 0 0) ∷ [])
    ∷ ((1, x 1 1 0) ∷ (3, x 0 1 0) ∷ (2, x 1 0 0) ∷ (4, x 0 0 0) ∷ [])
    ∷ ((1, x 2 0 0) ∷ (5, x 0 1 0) ∷ (1, x 1 0 0) ∷ (2, x 0 0 0) ∷ [])
    ∷ []

abbrev pub two_points : List (List Term)
two_points = ((1, x 2 0 0) ∷ (6, x 0 0 0) ∷ []) ∷ ((1, x 0 1 0) ∷ (5, x 0 0 0) ∷ []) ∷ []

abbrev pub fat_point : List (List Term)
fat_point = ((1, x 2 0 0) ∷ []) ∷ ((1, x 1 1 0) ∷ []) ∷ ((1, x 0 2 0) ∷ []) ∷ []

abbrev pub disagreeing : List (List Term)
disagreeing = ((1, x 2 0 0) ∷ []) ∷ ((1, x 1 1 0) ∷ (6, x 0 0 0) ∷ []) ∷ ((1, x 0 2 0) ∷ []) ∷ []

abbrev pub no_power : List (List Term)
no_power = ((1, x 1 1 0) ∷ []) ∷ ((1, x 0 2 0) ∷ []) ∷ []

abbrev pub outside : List (List Term)
outside = ((1, x 0 2 0) ∷ (1, x 2 0 0) ∷ []) ∷ ((1, x 2 0 0) ∷ []) ∷ []

abbrev pub quadruple : List (List Term)
quadruple =
    ((1, x 3 0 0) ∷ (12, x 2 0 0) ∷ (10, x 0 1 0) ∷ (1, x 1 0 0) ∷ [])
    ∷ ((1, x 0 2 0) ∷ (4, x 2 0 0) ∷ (9, x 0 1 0) ∷ (14, x 1 0 0) ∷ [])
    ∷ ((1, x 1 1 0) ∷ (15, x 2 0 0) ∷ (16, x 0 1 0) ∷ (18, x 1 0 0) ∷ [])
    ∷ ((1, x 0 0 1) ∷ (2, x 0 1 0) ∷ (2, x 1 0 0) ∷ (22, x 0 0 0) ∷ [])
    ∷ []

abbrev pub opened_job : ℕ → List (List Term) → Job
opened_job n ps = holding (new n) ps

abbrev pub closed_job : ℕ → List (List Term) → Job
closed_job n ps = shut (opened_job n ps)

pub record Row : Type 0 where
  pub p : ℕ
  pub job : Job
  pub call : Call
  pub answer : Answer

abbrev pub examples : List Row
examples =
    record { p = 7; job = opened_job 2 triple; call = close; answer = accepted (3 ∷ []) }
    ∷ record { p = 7; job = closed_job 2 triple; call = convert 1 (0 ∷ 0 ∷ 1 ∷ []) 6; answer = accepted (0 ∷ 2 ∷ 4 ∷ 1 ∷ 4 ∷ 4 ∷ []) }
    ∷ record { p = 7; job = closed_job 2 triple; call = convert 2 (0 ∷ 0 ∷ 1 ∷ []) 6; answer = accepted (1 ∷ 5 ∷ 1 ∷ 6 ∷ 0 ∷ 0 ∷ []) }
    ∷ record { p = 7; job = closed_job 2 triple; call = convert 1 (1 ∷ 0 ∷ 0 ∷ []) 6; answer = refused 25 0 2 }
    ∷ record { p = 7; job = closed_job 2 triple; call = reduce ((1, x 3 0 0) ∷ []) 3; answer = accepted (1 ∷ 2 ∷ 6 ∷ []) }
    ∷ record { p = 7; job = opened_job 2 two_points; call = close; answer = accepted (2 ∷ []) }
    ∷ record { p = 7; job = closed_job 2 two_points; call = convert 1 (0 ∷ 1 ∷ []) 4; answer = accepted (6 ∷ 0 ∷ 2 ∷ 0 ∷ []) }
    ∷ record { p = 7; job = closed_job 2 two_points; call = convert 2 (0 ∷ 1 ∷ []) 4; answer = refused 24 0 1 }
    ∷ record { p = 7; job = opened_job 2 fat_point; call = close; answer = accepted (3 ∷ []) }
    ∷ record { p = 7; job = closed_job 2 fat_point; call = convert 1 (0 ∷ 0 ∷ 1 ∷ []) 6; answer = refused 24 0 2 }
    ∷ record { p = 7; job = opened_job 2 disagreeing; call = close; answer = refused 18 0 0 }
    ∷ record { p = 7; job = opened_job 2 no_power; call = close; answer = refused 14 0 1 }
    ∷ record { p = 7; job = opened_job 2 outside; call = close; answer = refused 17 0 1 }
    ∷ record { p = 23; job = opened_job 3 quadruple; call = close; answer = accepted (4 ∷ []) }
    ∷ record {
      p = 23;
      job = closed_job 3 quadruple;
      call = convert 1 (16 ∷ 2 ∷ 18 ∷ 22 ∷ []) 12;
      answer = accepted (0 ∷ 20 ∷ 20 ∷ 5 ∷ 0 ∷ 16 ∷ 8 ∷ 16 ∷ 1 ∷ 12 ∷ 7 ∷ 14 ∷ []);
    }
    ∷ []

abbrev pub Holds : Row → Type 0
Holds e = (laws : FieldLaws (gf e.p)) → Sound (gf e.p) laws drl e.job × Answers (gf e.p) laws drl e.job e.call e.answer

pub record WorkedExamples : Type 0 where
  pub rows : AllByRecursion Holds examples
  pub staircase : (laws : FieldLaws (gf 7)) → stairs 2 (before_by drl 2) (generators (gf 7) laws 2 triple) ≡ one 2 ∷ var 2 0 ∷ var 2 1 ∷ []
  pub product : (total bytes).mul 87 131 ≡ 193
  pub inverse : (total bytes).inv 2 ≡ Some 141
