-- The questions of Close, one group after the other.
use Rattle.std.proofs.Common.{◌≡◌, ℕ, ◌-◌, ◌<◌, ◌≤◌, List, [], ◌∷◌, ◌++◌, length, take, IsErrAnd, Result, sym, refl, ap, ◌∙◌, subst, inl, arith}
use Rattle.field.specs.Meaning.{FieldMeaning, FieldLaws}
use Rattle.order.specs.declared.monomial.Monomial.{Monomial}
use Rattle.order.specs.Monomials.{variables}
use Rattle.order.specs.Laws.{Comparison, OrderLaws}
use Rattle.algebra.specs.Elements.{field_of}
use Rattle.algebra.specs.Records.{before_by}
use Rattle.algebra.specs.Basis as basis
use Rattle.algebra.specs.Matrices.{Agree}
use Rattle.staircase.specs.Stairs.{Leading, stairs_of}
use Rattle.runs.specs.Question.{Question, single, AllYes, Refused}
use Rattle.runs.specs.Job.{Term, new, most_stairs}
use Rattle.runs.specs.Enter.{Enters}
use Rattle.runs.specs.Generators.{generators, D}
use Rattle.runs.specs.Close.{stairs_asks, basis_asks}
use Rattle.runs.proofs.Questions.{yes_append, yes_first, refused_not}
use Rattle.runs.proofs.Entered as entered
use Rattle.polynomials.specs.declared.fault.JobFault.{JobFault}
use Rattle.polynomials.specs.Faults.{number_of, place_of}
use Rattle.polynomials.specs.Asked.{Asked}
use Rattle.polynomials.specs.Leads.{leads_of, lead_asks, inside_ask}
use Rattle.polynomials.proofs.Answering.{refused_first, refused_after, asked_after, asked_break}
use Rattle.polynomials.proofs.LeadMonomials.{stairs_same, leading}
use Rattle.tables.specs.Filling.{Closable}

-- a list cut at its front
pub cut_front : {X : Type 0} (k : ℕ) (xs ys : List X) → take k xs ≡ ys → take (k - 0) xs ≡ ys
cut_front k xs ys e = let w : k - 0 ≡ k = omega arith in ap (λ (i : ℕ). take i xs) w ∙ e

module _ (m : FieldMeaning) (laws : FieldLaws m) (cmp : Comparison) (O : OrderLaws cmp) (n : ℕ) (ps : List (List Term)) (few : n ≤ variables) (en : Enters m cmp (new n) ps) where
  abbrev size_ask : Question
  size_ask = single 16 0 (D m laws cmp n ps ≤ most_stairs)

  abbrev agree_ask : Question
  agree_ask = single 18 0 (Agree (field_of m laws) n (before_by cmp n) (generators m laws n ps))

  -- ---- 13 to 15

  pub leads_refused : {A : Type 0} (r : Result A JobFault) (f : JobFault) → IsErrAnd r (λ e. e ≡ f) → Refused (lead_asks m laws n ps) (number_of f) 0 (place_of f) → Asked 0 (stairs_asks m laws cmp n ps) r
  leads_refused r f b x = asked_break 0 [] (lead_asks m laws n ps) (size_ask ∷ inside_ask m laws cmp n ps ∷ []) r f b tt x

  pub leads_refused_not : (f : JobFault) → Refused (lead_asks m laws n ps) (number_of f) 0 (place_of f) → AllYes (stairs_asks m laws cmp n ps) → ⊥
  leads_refused_not f x y = refused_not (lead_asks m laws n ps) (number_of f) 0 (place_of f) (yes_first (lead_asks m laws n ps) (size_ask ∷ inside_ask m laws cmp n ps ∷ []) y) x

  module _ (leads : List Monomial) (are : leads ≡ leads_of ps) (yes : AllYes (lead_asks m laws n ps)) where
    pub leads_lead : Leading n leads
    leads_lead = subst (Leading n) (sym are) (leading m laws cmp O n few ps en yes.1.0)

    pub stairs_are : stairs_of cmp n leads ≡ basis.stairs n (before_by cmp n) (generators m laws n ps)
    stairs_are = ap (stairs_of cmp n) are ∙ stairs_same m laws cmp n few ps

    -- ---- 16

    pub size_refused : most_stairs < length (stairs_of cmp n leads) → Refused (stairs_asks m laws cmp n ps) 16 0 0
    size_refused h = refused_after (lead_asks m laws n ps) (size_ask ∷ inside_ask m laws cmp n ps ∷ []) 16 0 0 yes (inl ((λ l. omega (arith, h, l, ap length stairs_are)), refl, refl, refl))

    pub size_refused_not : most_stairs < length (stairs_of cmp n leads) → AllYes (stairs_asks m laws cmp n ps) → ⊥
    size_refused_not h y = omega (arith, h, y.1.1.1.0, ap length stairs_are)

    -- ---- 17

    pub inside_asked : {A : Type 0} (r : Result A JobFault) → length (stairs_of cmp n leads) ≤ most_stairs → Asked 0 (inside_ask m laws cmp n ps ∷ []) r → Asked 0 (stairs_asks m laws cmp n ps) r
    inside_asked r h x = asked_after 0 (lead_asks m laws n ps ++ (size_ask ∷ [])) (inside_ask m laws cmp n ps ∷ []) r (yes_append (lead_asks m laws n ps) (size_ask ∷ []) yes (omega (arith, h, ap length stairs_are), tt)) x

  -- ---- 18

  pub closable : AllYes (stairs_asks m laws cmp n ps) → Closable m laws cmp n ps
  closable y = record { few = few; entered = en; passed = entered.passed m laws cmp O n few ps (entered.fine_all m cmp (new n) ps en) y; short = y.1.1.1.0 }

  pub agree_refused : AllYes (stairs_asks m laws cmp n ps) → (Agree (field_of m laws) n (before_by cmp n) (generators m laws n ps) → ⊥) → Refused (basis_asks m laws cmp n ps) 18 0 0
  agree_refused y f = refused_after (stairs_asks m laws cmp n ps) (agree_ask ∷ []) 18 0 0 y (inl (f, refl, refl, refl))

  pub agree_yes : AllYes (stairs_asks m laws cmp n ps) → Agree (field_of m laws) n (before_by cmp n) (generators m laws n ps) → AllYes (basis_asks m laws cmp n ps)
  agree_yes y a = yes_append (stairs_asks m laws cmp n ps) (agree_ask ∷ []) y (a, tt)

  pub stairs_refused : (f : JobFault) → Refused (stairs_asks m laws cmp n ps) (number_of f) 0 (place_of f) → Refused (basis_asks m laws cmp n ps) (number_of f) 0 (place_of f)
  stairs_refused f x = refused_first (stairs_asks m laws cmp n ps) (agree_ask ∷ []) (number_of f) 0 (place_of f) x
