-- The coefficients of a list of terms, one term at a time, and the words of the first rule.
use Rattle.std.proofs.Common.{◌≢◌, ◌≡◌, ℕ, zero, suc, ◌<◌, ◌≤◌, Bool, true, false, cond, T, List, [], ◌∷◌, map, length, get_or, take, Decides, sym, refl, ap, ◌∙◌, subst, ap₂, arith}
use mathlib.Core.Bool.{false≢true}
use Rattle.std.specs.List.{AllByRecursion}
use Rattle.std.proofs.lemmas.List.{ext_get_or, length-map, length-take-le, get_or-map, get_or-take}
use Rattle.field.specs.Meaning.{FieldMeaning, FieldLaws, FieldTotal}
use Rattle.order.specs.declared.monomial.Monomial.{Monomial}
use Rattle.order.specs.Monomials as record_of
use Rattle.order.specs.Monomials.{variables}
use Rattle.order.specs.Exponents as exponents
use Rattle.algebra.specs.Lists.{build}
use Rattle.algebra.specs.Monomial.{one, equal}
use Rattle.algebra.specs.Records.{nested, flat, Within}
use Rattle.algebra.specs.NormalForm.{coefficient, rest_of}
use Rattle.algebra.specs.Words.{words}
use Rattle.algebra.specs.Elements.{field_of, el}
use Rattle.algebra.proofs.Lists as tests
use Rattle.algebra.proofs.Monomials as monos
use Rattle.algebra.proofs.Records as records
use Rattle.linear.proofs.Reading as reading
use Rattle.linear.proofs.Columns as columns
use Rattle.staircase.specs.declared.rules.Term.{Term}
use Rattle.staircase.specs.Rules.{poly_of, opposite_words, OppositesRule}
use Rattle.staircase.proofs.Increasing as lists

-- every record has all variables
all_within : (m : Monomial) → Within variables m
all_within m k h = exponents.exponent_past m k h

-- the test of two records, over any number of variables that they have
pub test_of : (n : ℕ) → n ≤ variables → (a b : Monomial) → Within n a → Within n b → (r : Bool) → Decides r (a ≡ b) → equal n (nested n b) (nested n a) ≡ r
test_of n few a b v w true d = subst (λ (x : Monomial). equal n (nested n b) (nested n x) ≡ true) (sym (d.0 refl)) (monos.equal_refl n (nested n b))
test_of n few a b v w false d = monos.equal_not n (nested n b) (nested n a) (λ e. false≢true (d.1 (lists.nested_once n few a b v w (sym e))))

pub length_build : {A : Type 0} (n : ℕ) (f : ℕ → A) → length (build n f) ≡ n
length_build zero f = refl
length_build (suc n) f = ap suc (length_build n (λ i. f (suc i)))

pub build_same : {A : Type 0} (n : ℕ) (f g : ℕ → A) → ((i : ℕ) → i < n → f i ≡ g i) → build n f ≡ build n g
build_same zero f g h = refl
build_same {A} (suc n) f g h = ap₂ (λ (x : A) (y : List A). x ∷ y) (h 0 (omega arith)) (build_same n (λ i. f (suc i)) (λ i. g (suc i)) (λ i l. h (suc i) (omega arith)))

module _ (m : FieldMeaning) where
  abbrev pub coefficient_in : List Term → Monomial → ℕ
  coefficient_in terms x = coefficient (words m) variables (poly_of variables terms) (nested variables x)

  -- one term more, from the end on
  more : (t : Term) (done : List Term) (x : Monomial) (r : Bool) → Decides r (t.monomial ≡ x) → coefficient_in (t ∷ done) x ≡ m.add (m.mul t.coefficient (cond r m.one m.zero)) (coefficient_in done x)
  more t done x r e = ap (λ (b : Bool). m.add (m.mul t.coefficient (cond b m.one m.zero)) (coefficient_in done x)) (test_of variables (omega arith) t.monomial x (all_within t.monomial) (all_within x) r e)

  module _ (laws : FieldLaws m) (out : FieldTotal m) where
    mul_elem : (a b : ℕ) → T (m.elem (m.mul a b))
    mul_elem a b = subst (λ (w : ℕ). T (m.elem w)) (sym (reading.mul_el m laws out a b)) ((field_of m laws).◌⊗◌ (el m laws a) (el m laws b)).1

    pub term_counts : (t : Term) (done : List Term) (x : Monomial) (sum next : ℕ) → t.monomial ≡ x → sum ≡ coefficient_in done x → next ≡ m.add (m.mul t.coefficient m.one) sum → T (m.elem next) × (next ≡ coefficient_in (t ∷ done) x)
    term_counts t done x sum next e inv is = (subst (λ (w : ℕ). T (m.elem w)) (sym is) (columns.add_elem m laws out _ _), is ∙ ap (m.add (m.mul t.coefficient m.one)) inv ∙ sym (more t done x true (λ _. e, λ _. refl)))

    -- a term of another monomial adds nothing
    pub term_skipped : (t : Term) (done : List Term) (x : Monomial) (sum : ℕ) → t.monomial ≢ x → T (m.elem sum) → sum ≡ coefficient_in done x → sum ≡ coefficient_in (t ∷ done) x
    term_skipped t done x sum d s inv =
        columns.skipped m laws out sum t.coefficient m.zero s refl
        ∙ laws.add_comm sum (m.mul t.coefficient m.zero) s (mul_elem t.coefficient m.zero)
        ∙ ap (m.add (m.mul t.coefficient m.zero)) inv
        ∙ sym (more t done x false (λ e. absurd (false≢true e), λ e. absurd (d e)))

  pub opposites_written : (rest : List Term) (stairs : List Monomial) (out : List ℕ) → length stairs ≤ length out → ((j : ℕ) → j < length stairs → get_or out j 0 ≡ m.neg (coefficient_in rest (get_or stairs j record_of.one))) → take (length stairs) out ≡ opposite_words m rest stairs
  opposites_written rest stairs out h each =
      let f : ℕ → ℕ = λ j. m.neg (coefficient_in rest (get_or stairs j record_of.one)) in
      let long = length-take-le (length stairs) out h in
      ext_get_or 0 (take (length stairs) out) (build (length stairs) f) (long ∙ sym (length_build (length stairs) f)) (λ j l. let q : j < length stairs = omega (arith, long) in get_or-take (length stairs) out j 0 q ∙ each j q ∙ sym (tests.get_or_build (length stairs) f 0 j q))

-- over n variables
module _ (m : FieldMeaning) (n : ℕ) (few : n ≤ variables) where
  tests_agree : (a b : Monomial) → Within n a → Within n b → equal variables (nested variables a) (nested variables b) ≡ equal n (nested n a) (nested n b)
  tests_agree a b v w = go (equal variables (nested variables a) (nested variables b)) refl
    where
      go : (r : Bool) → equal variables (nested variables a) (nested variables b) ≡ r → r ≡ equal n (nested n a) (nested n b)
      go true e = sym (subst (λ (x : Monomial). equal n (nested n a) (nested n x) ≡ true) (lists.nested_once variables (omega arith) a b (all_within a) (all_within b) (monos.equal_eq variables _ _ e)) (monos.equal_refl n (nested n a)))
      go false e = sym (monos.equal_not n _ _ (λ q. false≢true (sym e ∙ subst (λ (x : Monomial). equal variables (nested variables a) (nested variables x) ≡ true) (lists.nested_once n few a b v w q) (monos.equal_refl variables (nested variables a)))))

  coefficients_agree : (x : Monomial) → Within n x → (p : List Term) → AllByRecursion (λ t. Within n t.monomial) p → coefficient (words m) variables (poly_of variables p) (nested variables x) ≡ coefficient (words m) n (poly_of n p) (nested n x)
  coefficients_agree x w [] h = refl
  coefficients_agree x w (t ∷ p) h = ap₂ (λ (b : Bool) (r : ℕ). m.add (m.mul t.coefficient (cond b m.one m.zero)) r) (tests_agree x t.monomial w h.0) (coefficients_agree x w p h.1)

pub opposites_rule : OppositesRule
opposites_rule m n few S L t rest h is =
    ap (λ (d : ℕ). build d (λ j. m.neg (coefficient (words m) variables (poly_of variables rest) (nested variables (get_or (map (flat n) S) j record_of.one))))) (length-map S (flat n))
    ∙ build_same (length S) _ _ (λ j l. ap m.neg (one_of j l))
  where
    one_of : (j : ℕ) → j < length S → coefficient (words m) variables (poly_of variables rest) (nested variables (get_or (map (flat n) S) j record_of.one)) ≡ coefficient (words m) n (rest_of n L t) (get_or S j (one n))
    one_of j l =
        let s = get_or S j (one n) in
        ap (λ (x : Monomial). coefficient (words m) variables (poly_of variables rest) (nested variables x)) (get_or-map (flat n) S j (one n) record_of.one l)
        ∙ coefficients_agree m n few (flat n s) ((records.nested_keeps n few).within s) rest h
        ∙ ap₂ (coefficient (words m) n) (sym is) (records.back n few s)
