-- A map that keeps the operations carries polynomials, tables and matrices along; taking an element's word is one.
use Rattle.std.proofs.Common.{◌≡◌, ℕ, zero, suc, Bool, true, false, cond, T, List, [], ◌∷◌, map, length, get_or, sym, refl, ap, ◌∙◌, ap₂}
use mathlib.Core.Path.{fun_ext}
use Rattle.std.specs.List.{AllByRecursion}
use Rattle.field.specs.Meaning.{FieldMeaning, FieldLaws}
use Rattle.algebra.specs.Elements.{Elem, field_of, el}
use Rattle.algebra.specs.Lists.{any, build}
use Rattle.algebra.specs.Monomial.{Mono, one, times, equal, var, lower}
use Rattle.algebra.specs.Polynomial.{Poly}
use Rattle.algebra.specs.Staircase.{staircase}
use Rattle.algebra.specs.Border.{border}
use Rattle.algebra.specs.NormalForm.{Arithmetic, arith_of, Table, total, coefficient, lead, rest, rest_of, look, form, lowest, opposite, replaced, column, fill}
use Rattle.algebra.specs.Basis.{leads, table}
use Rattle.algebra.specs.Matrices.{multiplication}
use Rattle.algebra.specs.Words.{words, ElementTerms, elements, WordsAgree}
use Rattle.algebra.proofs.Elements.{el_word}

cond_map : {A B : Type 0} (h : A → B) (b : Bool) (x y : A) → h (cond b x y) ≡ cond b (h x) (h y)
cond_map h true x y = refl
cond_map h false x y = refl

-- a map that keeps the operations
pub record Homomorphism {K K' : Type 0} (O : Arithmetic K) (O' : Arithmetic K') (h : K → K') : Type 0 where
  pub zer : h O.zer ≡ O'.zer
  pub one : h O.one ≡ O'.one
  pub add : (a b : K) → h (O.add a b) ≡ O'.add (h a) (h b)
  pub mul : (a b : K) → h (O.mul a b) ≡ O'.mul (h a) (h b)
  pub neg : (a : K) → h (O.neg a) ≡ O'.neg (h a)

module _ {K K' : Type 0} (O : Arithmetic K) (O' : Arithmetic K') (h : K → K') (H : Homomorphism O O' h) where
  pub total_hom : (m : ℕ) (f : ℕ → K) → h (total O m f) ≡ total O' m (λ i. h (f i))
  total_hom zero f = H.zer
  total_hom (suc m) f = H.add _ _ ∙ ap (λ x. O'.add x (h (f m))) (total_hom m f)

  build_hom : (m : ℕ) (f : ℕ → K) → map h (build m f) ≡ build m (λ i. h (f i))
  build_hom zero f = refl
  build_hom (suc m) f = ap (λ (x : List K'). h (f 0) ∷ x) (build_hom m (λ i. f (suc i)))

  get_hom : (l : List K) (i : ℕ) → get_or (map h l) i O'.zer ≡ h (get_or l i O.zer)
  get_hom [] i = sym H.zer
  get_hom (x ∷ l) zero = refl
  get_hom (x ∷ l) (suc i) = get_hom l i

  module _ (n : ℕ) where
    abbrev pub terms : Poly K n → Poly K' n
    terms p = map (λ (t : K × Mono n). (h t.0, t.1)) p

    coef_hom : (p : Poly K n) (m : Mono n) → coefficient O' n (terms p) m ≡ h (coefficient O n p m)
    coef_hom [] m = sym H.zer
    coef_hom (t ∷ p) m =
        ap₂ O'.add (ap (O'.mul (h t.0)) (ap₂ (λ (x y : K'). cond (equal n m t.1) x y) (sym H.one) (sym H.zer) ∙ sym (cond_map h (equal n m t.1) O.one O.zer)) ∙ sym (H.mul _ _)) (coef_hom p m)
        ∙ sym (H.add _ _)

    lead_hom : (p : Poly K n) → lead n (terms p) ≡ lead n p
    lead_hom [] = refl
    lead_hom (t ∷ p) = refl

    rest_hom : (p : Poly K n) → rest n (terms p) ≡ terms (rest n p)
    rest_hom [] = refl
    rest_hom (t ∷ p) = refl

    pub leads_hom : (L : List (Poly K n)) → map (lead n) (map terms L) ≡ map (lead n) L
    leads_hom [] = refl
    leads_hom (p ∷ L) = ap₂ (λ (x : Mono n) (y : List (Mono n)). x ∷ y) (lead_hom p) (leads_hom L)

    rest_of_hom : (L : List (Poly K n)) (t : Mono n) → rest_of n (map terms L) t ≡ terms (rest_of n L t)
    rest_of_hom [] t = refl
    rest_of_hom (p ∷ L) t =
        ap (λ (m : Mono n). cond (equal n m t) (rest n (terms p)) (rest_of n (map terms L) t)) (lead_hom p)
        ∙ ap₂ (λ (x y : Poly K' n). cond (equal n (lead n p) t) x y) (rest_hom p) (rest_of_hom L t)
        ∙ sym (cond_map terms (equal n (lead n p) t) _ _)

    is_lead_hom : (L : List (Poly K n)) (t : Mono n) → any (λ p. equal n (lead n p) t) (map terms L) ≡ any (λ p. equal n (lead n p) t) L
    is_lead_hom [] t = refl
    is_lead_hom (p ∷ L) t = ap₂ (λ (m : Mono n) (b : Bool). cond (equal n m t) true b) (lead_hom p) (is_lead_hom L t)

    abbrev pub carried : Table K n → Table K' n
    carried tab = map (λ (e : Mono n × List K). (e.0, map h e.1)) tab

    module _ (S E : List (Mono n)) (L : List (Poly K n)) where
      abbrev L' : List (Poly K' n)
      L' = map terms L

      look-hom : (tab : Table K n) (t : Mono n) → look n (carried tab) t ≡ map h (look n tab t)
      look-hom [] t = refl
      look-hom (e ∷ tab) t = ap (λ (x : List K'). cond (equal n e.0 t) (map h e.1) x) (look-hom tab t) ∙ sym (cond_map (map h) (equal n e.0 t) _ _)

      form-hom : (tab : Table K n) (t : Mono n) → form O' n S (carried tab) t ≡ map h (form O n S tab t)
      form-hom tab t =
          ap₂ (λ (x y : List K'). cond (any (equal n t) S) x y)
          (ap (build (length S)) (fun_ext (λ j. ap₂ (λ (x y : K'). cond (equal n (get_or S j (one n)) t) x y) (sym H.one) (sym H.zer) ∙ sym (cond_map h (equal n (get_or S j (one n)) t) O.one O.zer))) ∙ sym (build_hom (length S) _))
          (look-hom tab t)
          ∙ sym (cond_map (map h) (any (equal n t) S) _ _)

      pub entry-hom : (tab : Table K n) (t : Mono n) (j : ℕ) → get_or (form O' n S (carried tab) t) j O'.zer ≡ h (get_or (form O n S tab t) j O.zer)
      entry-hom tab t j = ap (λ (x : List K'). get_or x j O'.zer) (form-hom tab t) ∙ get_hom (form O n S tab t) j

      replaced-hom : (tab : Table K n) (k : ℕ) (u : Mono n) → replaced O' n S (carried tab) k (form O' n S (carried tab) u) ≡ map h (replaced O n S tab k (form O n S tab u))
      replaced-hom tab k u =
          ap (build (length S)) (fun_ext (λ j.
          ap (total O' (length S)) (fun_ext (λ i. ap₂ O'.mul (entry-hom tab (times n (var n k) (get_or S i (one n))) j) (entry-hom tab u i) ∙ sym (H.mul _ _)))
          ∙ sym (total_hom (length S) _)))
          ∙ sym (build_hom (length S) _)

      opposite-hom : (t : Mono n) → opposite O' n S L' t ≡ map h (opposite O n S L t)
      opposite-hom t =
          ap (build (length S)) (fun_ext (λ j. ap O'.neg (ap (λ (p : Poly K' n). coefficient O' n p (get_or S j (one n))) (rest_of_hom L t) ∙ coef_hom (rest_of n L t) (get_or S j (one n))) ∙ sym (H.neg _)))
          ∙ sym (build_hom (length S) _)

      column-hom : (tab : Table K n) (t : Mono n) → column O' n S E L' (carried tab) t ≡ map h (column O n S E L tab t)
      column-hom tab t =
          ap (λ (b : Bool). cond b (opposite O' n S L' t) (replaced O' n S (carried tab) (lowest n E t) (form O' n S (carried tab) (lower n (lowest n E t) t)))) (is_lead_hom L t)
          ∙ ap₂ (λ (x y : List K'). cond (any (λ p. equal n (lead n p) t) L) x y) (opposite-hom t) (replaced-hom tab (lowest n E t) (lower n (lowest n E t) t))
          ∙ sym (cond_map (map h) (any (λ p. equal n (lead n p) t) L) _ _)

      fill-hom : (ts : List (Mono n)) (tab : Table K n) → fill O' n S E L' ts (carried tab) ≡ carried (fill O n S E L ts tab)
      fill-hom [] tab = refl
      fill-hom (t ∷ ts) tab = ap (λ (c : List K'). fill O' n S E L' ts ((t, c) ∷ carried tab)) (column-hom tab t) ∙ fill-hom ts ((t, column O n S E L tab t) ∷ tab)

    module _ (before : Mono n → Mono n → Bool) (L : List (Poly K n)) where
      -- the table and a matrix of some leading monomials
      abbrev table-by : List (Mono n) → Table K' n
      table-by ls = fill O' n (staircase n before ls) (border n before (staircase n before ls)) (map terms L) (border n before (staircase n before ls)) []

      pub table-hom : table O' n before (map terms L) ≡ carried (table O n before L)
      table-hom = ap table-by (leads_hom L) ∙ fill-hom (staircase n before (leads n L)) (border n before (staircase n before (leads n L))) L (border n before (staircase n before (leads n L))) []

      pub multiplication-hom : (k j i : ℕ) → multiplication O' n before (map terms L) k j i ≡ h (multiplication O n before L k j i)
      multiplication-hom k j i =
          ap₂ (λ (ls : List (Mono n)) (tab : Table K' n). get_or (form O' n (staircase n before ls) tab (times n (var n k) (get_or (staircase n before ls) i (one n)))) j O'.zer) (leads_hom L) table-hom
          ∙ entry-hom (staircase n before (leads n L)) (border n before (staircase n before (leads n L))) L (table O n before L) (times n (var n k) (get_or (staircase n before (leads n L)) i (one n))) j

module _ (m : FieldMeaning) (laws : FieldLaws m) (n : ℕ) where
  abbrev word : Elem m → ℕ
  word x = x.0

  is_hom : Homomorphism (arith_of (field_of m laws)) (words m) word
  is_hom = record { zer = refl; one = refl; add = λ a b. refl; mul = λ a b. refl; neg = λ a. refl }

  abbrev to_words : Poly (Elem m) n → Poly ℕ n
  to_words = terms (arith_of (field_of m laws)) (words m) word is_hom n

  terms_back : (p : Poly ℕ n) → AllByRecursion (λ t. T (m.elem t.0)) p → to_words (map (λ (t : ℕ × Mono n). (el m laws t.0, t.1)) p) ≡ p
  terms_back [] h = refl
  terms_back (t ∷ p) h = ap₂ (λ (x : ℕ) (y : Poly ℕ n). (x, t.1) ∷ y) (el_word m laws t.0 h.0) (terms_back p h.1)

  words_back : (W : List (Poly ℕ n)) → ElementTerms m n W → map to_words (elements m laws n W) ≡ W
  words_back [] h = refl
  words_back (p ∷ W) h = ap₂ (λ (x : Poly ℕ n) (y : List (Poly ℕ n)). x ∷ y) (terms_back p h.0) (words_back W h.1)

  pub words_agree : (before : Mono n → Mono n → Bool) (W : List (Poly ℕ n)) → ElementTerms m n W → WordsAgree m laws n before W
  words_agree before W h =
      let O = arith_of (field_of m laws) in
      let same = words_back W h in
      record {
        same_leads = ap (leads n) (sym same) ∙ leads_hom O (words m) word is_hom n (elements m laws n W);
        same_table = ap (table (words m) n before) (sym same) ∙ table-hom O (words m) word is_hom n before (elements m laws n W);
        same_matrices = λ k j i. ap (λ (V : List (Poly ℕ n)). multiplication (words m) n before V k j i) (sym same) ∙ multiplication-hom O (words m) word is_hom n before (elements m laws n W) k j i;
      }
