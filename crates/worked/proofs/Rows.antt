-- The rows of the table. For each job: the columns of its multiplication matrices, one list of columns for each variable. For each
-- conversion: its words, and then what its test asks for, which is
--   accepted       rows dual to those of the table
--   refused by 24  the coefficients that combine the Krylov vectors before the place of the refusal to the one at it, and rows dual to those before
--   refused by 25  the coefficients of the recurrence, rows dual to those of its table, and rows dual to the Krylov vectors
-- Every test is run here: it computes to true.
use Rattle.std.proofs.Common.{ℕ, List, [], ◌∷◌, refl}
use Rattle.std.specs.List.{AllByRecursion}
use Rattle.field.specs.Bytes.{power_254, byte_product, poly_product, poly_remainder}
use Rattle.order.specs.Monomials.{exponent, monomial, degree}
use Rattle.order.specs.Orders.{drl, lowest}
use Rattle.order.specs.OrderLaws.{drl_laws}
use Rattle.worked.specs.Examples.{gf, x, triple, two_points, fat_point, disagreeing, no_power, outside, quadruple, examples, Holds, WorkedExamples}
use Rattle.worked.proofs.Jobs.{Entering, Closing, close_refused, close_accepted}
use Rattle.worked.proofs.Conversions.{convert_accepted, convert_no_shape, convert_short}
use Rattle.worked.proofs.Reductions.{reduce_accepted}

abbrev Matrices : Type 0
Matrices = List (List (List ℕ))

abbrev triple_matrices : Matrices
triple_matrices =
    ((0 ∷ 1 ∷ 0 ∷ []) ∷ (5 ∷ 6 ∷ 2 ∷ []) ∷ (3 ∷ 5 ∷ 4 ∷ []) ∷ [])
    ∷ ((0 ∷ 0 ∷ 1 ∷ []) ∷ (3 ∷ 5 ∷ 4 ∷ []) ∷ (6 ∷ 1 ∷ 2 ∷ []) ∷ [])
    ∷ []

triple_closes : Closing (gf 7) drl 2 triple triple_matrices
unfolding drl lowest exponent monomial degree
triple_closes = record { enters = record { passes_enter = refl; has_matrices = λ laws. refl }; passes_close = λ laws. refl }

abbrev two_points_matrices : Matrices
two_points_matrices =
    ((0 ∷ 1 ∷ []) ∷ (1 ∷ 0 ∷ []) ∷ [])
    ∷ ((2 ∷ 0 ∷ []) ∷ (0 ∷ 2 ∷ []) ∷ [])
    ∷ []

two_points_closes : Closing (gf 7) drl 2 two_points two_points_matrices
unfolding drl lowest exponent monomial degree
two_points_closes = record { enters = record { passes_enter = refl; has_matrices = λ laws. refl }; passes_close = λ laws. refl }

abbrev fat_point_matrices : Matrices
fat_point_matrices =
    ((0 ∷ 1 ∷ 0 ∷ []) ∷ (0 ∷ 0 ∷ 0 ∷ []) ∷ (0 ∷ 0 ∷ 0 ∷ []) ∷ [])
    ∷ ((0 ∷ 0 ∷ 1 ∷ []) ∷ (0 ∷ 0 ∷ 0 ∷ []) ∷ (0 ∷ 0 ∷ 0 ∷ []) ∷ [])
    ∷ []

fat_point_closes : Closing (gf 7) drl 2 fat_point fat_point_matrices
unfolding drl lowest exponent monomial degree
fat_point_closes = record { enters = record { passes_enter = refl; has_matrices = λ laws. refl }; passes_close = λ laws. refl }

abbrev disagreeing_matrices : Matrices
disagreeing_matrices =
    ((0 ∷ 1 ∷ 0 ∷ []) ∷ (0 ∷ 0 ∷ 0 ∷ []) ∷ (1 ∷ 0 ∷ 0 ∷ []) ∷ [])
    ∷ ((0 ∷ 0 ∷ 1 ∷ []) ∷ (1 ∷ 0 ∷ 0 ∷ []) ∷ (0 ∷ 0 ∷ 0 ∷ []) ∷ [])
    ∷ []

disagreeing_enters : Entering (gf 7) drl 2 disagreeing disagreeing_matrices
unfolding drl lowest exponent monomial degree
disagreeing_enters = record { passes_enter = refl; has_matrices = λ laws. refl }

abbrev no_power_matrices : Matrices
no_power_matrices = [] ∷ [] ∷ []

no_power_enters : Entering (gf 7) drl 2 no_power no_power_matrices
unfolding drl lowest exponent monomial degree
no_power_enters = record { passes_enter = refl; has_matrices = λ laws. refl }

abbrev outside_matrices : Matrices
outside_matrices =
    ((0 ∷ 1 ∷ 0 ∷ 0 ∷ []) ∷ (0 ∷ 0 ∷ 0 ∷ 0 ∷ []) ∷ (0 ∷ 0 ∷ 0 ∷ 1 ∷ []) ∷ (0 ∷ 0 ∷ 0 ∷ 0 ∷ []) ∷ [])
    ∷ ((0 ∷ 0 ∷ 1 ∷ 0 ∷ []) ∷ (0 ∷ 0 ∷ 0 ∷ 1 ∷ []) ∷ (0 ∷ 0 ∷ 0 ∷ 0 ∷ []) ∷ (0 ∷ 0 ∷ 0 ∷ 0 ∷ []) ∷ [])
    ∷ []

outside_enters : Entering (gf 7) drl 2 outside outside_matrices
unfolding drl lowest exponent monomial degree
outside_enters = record { passes_enter = refl; has_matrices = λ laws. refl }

abbrev quadruple_matrices : Matrices
quadruple_matrices =
    ((0 ∷ 1 ∷ 0 ∷ 0 ∷ []) ∷ (0 ∷ 0 ∷ 0 ∷ 1 ∷ []) ∷ (0 ∷ 5 ∷ 7 ∷ 8 ∷ []) ∷ (0 ∷ 22 ∷ 13 ∷ 11 ∷ []) ∷ [])
    ∷ ((0 ∷ 0 ∷ 1 ∷ 0 ∷ []) ∷ (0 ∷ 5 ∷ 7 ∷ 8 ∷ []) ∷ (0 ∷ 9 ∷ 14 ∷ 19 ∷ []) ∷ (0 ∷ 4 ∷ 15 ∷ 11 ∷ []) ∷ [])
    ∷ ((1 ∷ 21 ∷ 21 ∷ 0 ∷ []) ∷ (0 ∷ 14 ∷ 9 ∷ 5 ∷ []) ∷ (0 ∷ 18 ∷ 5 ∷ 15 ∷ []) ∷ (0 ∷ 17 ∷ 13 ∷ 3 ∷ []) ∷ [])
    ∷ []

quadruple_closes : Closing (gf 23) drl 3 quadruple quadruple_matrices
unfolding drl lowest exponent monomial degree
quadruple_closes = record { enters = record { passes_enter = refl; has_matrices = λ laws. refl }; passes_close = λ laws. refl }

infixr 40 ◌▸◌
abbrev ◌▸◌ : {A B : Type 0} → A → B → A × B
◌▸◌ a b = (a, b)

rows : AllByRecursion Holds examples
unfolding drl lowest exponent monomial degree
rows =
    (λ laws. close_accepted (gf 7) drl 2 triple triple_matrices triple_closes laws)
    ▸ (λ laws. convert_accepted (gf 7) drl drl_laws 2 triple triple_matrices triple_closes laws 0 (0 ∷ 0 ∷ 1 ∷ []) 6 refl
    (0 ∷ 2 ∷ 4 ∷ 1 ∷ 4 ∷ 4 ∷ []) ((1 ∷ 2 ∷ 4 ∷ []) ∷ (2 ∷ 4 ∷ 0 ∷ []) ∷ (4 ∷ 0 ∷ 0 ∷ []) ∷ []) refl)
    ▸ (λ laws. convert_accepted (gf 7) drl drl_laws 2 triple triple_matrices triple_closes laws 1 (0 ∷ 0 ∷ 1 ∷ []) 6 refl
    (1 ∷ 5 ∷ 1 ∷ 6 ∷ 0 ∷ 0 ∷ []) ((6 ∷ 4 ∷ 2 ∷ []) ∷ (4 ∷ 2 ∷ 6 ∷ []) ∷ (2 ∷ 6 ∷ 4 ∷ []) ∷ []) refl)
    ▸ (λ laws. convert_short (gf 7) drl drl_laws 2 triple triple_matrices triple_closes laws 0 (1 ∷ 0 ∷ 0 ∷ []) 6 refl
    2 (5 ∷ 3 ∷ []) ((1 ∷ 0 ∷ []) ∷ (0 ∷ 3 ∷ []) ∷ []) ((1 ∷ 0 ∷ 1 ∷ []) ∷ (0 ∷ 1 ∷ 4 ∷ []) ∷ (0 ∷ 0 ∷ 4 ∷ []) ∷ []) refl)
    ▸ (λ laws. reduce_accepted (gf 7) drl drl_laws 2 triple triple_matrices triple_closes laws ((1, x 3 0 0) ∷ []) 3 refl (1 ∷ 2 ∷ 6 ∷ []) refl)
    ▸ (λ laws. close_accepted (gf 7) drl 2 two_points two_points_matrices two_points_closes laws)
    ▸ (λ laws. convert_accepted (gf 7) drl drl_laws 2 two_points two_points_matrices two_points_closes laws 0 (0 ∷ 1 ∷ []) 4 refl
    (6 ∷ 0 ∷ 2 ∷ 0 ∷ []) ((0 ∷ 1 ∷ []) ∷ (1 ∷ 0 ∷ []) ∷ []) refl)
    ▸ (λ laws. convert_no_shape (gf 7) drl drl_laws 2 two_points two_points_matrices two_points_closes laws 1 (0 ∷ 1 ∷ []) 4 refl
    1 (2 ∷ []) ((1 ∷ 0 ∷ []) ∷ []) refl)
    ▸ (λ laws. close_accepted (gf 7) drl 2 fat_point fat_point_matrices fat_point_closes laws)
    ▸ (λ laws. convert_no_shape (gf 7) drl drl_laws 2 fat_point fat_point_matrices fat_point_closes laws 0 (0 ∷ 0 ∷ 1 ∷ []) 6 refl
    2 (0 ∷ 0 ∷ []) ((1 ∷ 0 ∷ 0 ∷ []) ∷ (0 ∷ 1 ∷ 0 ∷ []) ∷ []) refl)
    ▸ (λ laws. close_refused (gf 7) drl 2 disagreeing disagreeing_matrices disagreeing_enters laws 18 0 0 refl)
    ▸ (λ laws. close_refused (gf 7) drl 2 no_power no_power_matrices no_power_enters laws 14 0 1 refl)
    ▸ (λ laws. close_refused (gf 7) drl 2 outside outside_matrices outside_enters laws 17 0 1 refl)
    ▸ (λ laws. close_accepted (gf 23) drl 3 quadruple quadruple_matrices quadruple_closes laws)
    ▸ (λ laws. convert_accepted (gf 23) drl drl_laws 3 quadruple quadruple_matrices quadruple_closes laws 0 (16 ∷ 2 ∷ 18 ∷ 22 ∷ []) 12 refl
    (0 ∷ 20 ∷ 20 ∷ 5 ∷ 0 ∷ 16 ∷ 8 ∷ 16 ∷ 1 ∷ 12 ∷ 7 ∷ 14 ∷ []) ((20 ∷ 20 ∷ 5 ∷ 1 ∷ []) ∷ (20 ∷ 20 ∷ 16 ∷ 5 ∷ []) ∷ (5 ∷ 16 ∷ 22 ∷ 10 ∷ []) ∷ (1 ∷ 5 ∷ 10 ∷ 12 ∷ []) ∷ []) refl)
    ▸ tt

pub worked_examples : WorkedExamples
unfolding drl lowest exponent monomial degree power_254 byte_product poly_product poly_remainder
worked_examples = record { rows = rows; staircase = λ laws. refl; product = refl; inverse = refl }
