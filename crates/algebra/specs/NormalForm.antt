-- Normal forms of border monomials by two rules, over arithmetic that need have no laws, so that they also run over words.
--   Arithmetic K                    zero, one, sum, product and opposite on K
--   arith_of F                      those of a field
--   total O n f                     f 0 + .. + f (n - 1)
--   coefficient O n p m             the coefficient of m in p
--   lead n p, rest n p              the first term's monomial, and the other terms
--   rest_of n L t                   the rest of the first polynomial of L that t leads
--   Table K n                       pairs of a border monomial and its normal form, the coefficients by place of the staircase
--   look n tab t                    what the table has for t
--   form O n S tab t                the normal form of t: a unit vector where t is in the staircase S, else what the table has
--   lowest n E t                    the lowest k for which t / x_k is in the border E
--   opposite O n S L t              the first rule: the opposite of the rest of the polynomial that t leads
--   replaced O n S tab k u          the second: every staircase monomial m of the form u replaced by the normal form of x_k m
--   column O n S E L tab t          the rule that t falls under
--   fill O n S E L ts tab           the table with the border monomials ts added, first to last
-- Used by: the normal forms of a basis, and the loops that make them over words.
use Rattle.std.specs.Prelude.{ℕ, zero, suc, cond, ◌&&◌, List, [], ◌∷◌, length, nat_le, slice_index_or}
use Rattle.algebra.specs.Field.{Field}
use Rattle.algebra.specs.Lists.{any, build, least}
use Rattle.algebra.specs.Monomial.{Mono, one, times, equal, var, exponent, lower}
use Rattle.algebra.specs.Polynomial.{Poly}

pub record Arithmetic (K : Type 0) : Type 0 where
  pub zer : K
  pub one : K
  pub add : K → K → K
  pub mul : K → K → K
  pub neg : K → K

abbrev pub arith_of : {K : Type 0} → Field K → Arithmetic K
arith_of F = record { zer = F.zer; one = F.one; add = F.◌⊕◌; mul = F.◌⊗◌; neg = F.neg }

abbrev pub Table : Type 0 → ℕ → Type 0
Table K n = List (Mono n × List K)

module _ {K : Type 0} (n : ℕ) where
  abbrev pub lead : Poly K n → Mono n
  lead [] = one n
  lead (t ∷ p) = t.1

  abbrev pub rest : Poly K n → Poly K n
  rest [] = []
  rest (t ∷ p) = p

  abbrev pub rest_of : List (Poly K n) → Mono n → Poly K n
  rest_of [] t = []
  rest_of (p ∷ L) t = cond (equal n (lead p) t) (rest p) (rest_of L t)

  abbrev pub look : Table K n → Mono n → List K
  look [] t = []
  look (e ∷ tab) t = cond (equal n e.0 t) e.1 (look tab t)

abbrev pub lowest : (n : ℕ) → List (Mono n) → Mono n → ℕ
lowest n E t = least n (λ k. nat_le 1 (exponent n t k) && any (equal n (lower n k t)) E)

module _ {K : Type 0} (O : Arithmetic K) where
  abbrev pub total : ℕ → (ℕ → K) → K
  total zero f = O.zer
  total (suc n) f = O.add (total n f) (f n)

  module _ (n : ℕ) where
    abbrev pub coefficient : Poly K n → Mono n → K
    coefficient [] m = O.zer
    coefficient (t ∷ p) m = O.add (O.mul t.0 (cond (equal n m t.1) O.one O.zer)) (coefficient p m)

    module _ (S : List (Mono n)) where
      abbrev pub form : Table K n → Mono n → List K
      form tab t = cond (any (equal n t) S) (build (length S) (λ j. cond (equal n (slice_index_or S j (one n)) t) O.one O.zer)) (look n tab t)

      abbrev pub opposite : List (Poly K n) → Mono n → List K
      opposite L t = build (length S) (λ j. O.neg (coefficient (rest_of n L t) (slice_index_or S j (one n))))

      abbrev pub replaced : Table K n → ℕ → List K → List K
      replaced tab k u = build (length S) (λ j. total (length S) (λ i. O.mul (slice_index_or (form tab (times n (var n k) (slice_index_or S i (one n)))) j O.zer) (slice_index_or u i O.zer)))

      module _ (E : List (Mono n)) (L : List (Poly K n)) where
        abbrev pub column : Table K n → Mono n → List K
        column tab t = cond (any (λ (p : Poly K n). equal n (lead n p) t) L) (opposite L t) (replaced tab (lowest n E t) (form tab (lower n (lowest n E t) t)))

        abbrev pub fill : List (Mono n) → Table K n → Table K n
        fill [] tab = tab
        fill (t ∷ ts) tab = fill ts ((t, column tab t) ∷ tab)
