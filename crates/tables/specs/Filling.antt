-- Border, places and columns of a staircase: the multiplication matrices.
--   Closable m laws cmp n ps                      the polynomials ps were entered, got a yes to the questions before the last, and tables have room for them
--   MatricesIn m laws cmp n ps d places columns  places and columns hold the multiplication matrices of ps, of d rows and columns
--   Fills m cmp n ps stairs r                     where stairs is the staircase of such polynomials, r is their tables
-- Used by: the making of the tables.
use Rattle.std.specs.Prelude.{◌≡◌, ℕ, ◌<◌, ◌≤◌, List, map, length, Result, IsOkAnd}
use Rattle.field.specs.Meaning.{FieldMeaning, FieldLaws}
use Rattle.order.specs.declared.monomial.Monomial.{Monomial}
use Rattle.order.specs.Monomials.{variables}
use Rattle.order.specs.Laws.{Comparison}
use Rattle.algebra.specs.Elements.{field_of}
use Rattle.algebra.specs.Records.{flat, before_by}
use Rattle.algebra.specs.Basis as basis
use Rattle.tables.specs.declared.products.Products.{Products}
use Rattle.linear.specs.Step.{Fits, matrix}
use Rattle.runs.specs.Job.{Term, new, most_stairs}
use Rattle.runs.specs.Enter.{Enters}
use Rattle.runs.specs.Generators.{generators, D, Tk}
use Rattle.tables.specs.declared.tables.Tables.{Tables}
use Rattle.tables.specs.Holds.{Holds}
use Rattle.tables.specs.Products.{places_at}

pub record Closable (m : FieldMeaning) (laws : FieldLaws m) (cmp : Comparison) (n : ℕ) (ps : List (List Term)) : Type 0 where
  pub few : n ≤ variables
  pub entered : Enters m cmp (new n) ps
  pub passed : basis.Passed (field_of m laws) n (before_by cmp n) (generators m laws n ps)
  pub short : D m laws cmp n ps ≤ most_stairs

pub record MatricesIn (m : FieldMeaning) (laws : FieldLaws m) (cmp : Comparison) (n : ℕ) (ps : List (List Term)) (d : ℕ) (places : List Products) (columns : List ℕ) : Type 0 where
  pub ready : (k : ℕ) → k < n → Fits d (places_at places k) (length columns) 48 d d
  pub entries : (k j i : ℕ) → k < n → j < d → i < d → matrix m laws (places_at places k) columns 48 j i ≡ Tk m laws cmp n ps k j i

abbrev pub Fills : {E : Type 0} → FieldMeaning → Comparison → ℕ → List (List Term) → List Monomial → Result Tables E → Type 0
Fills m cmp n ps stairs r = (laws : FieldLaws m) → Closable m laws cmp n ps → stairs ≡ map (flat n) (basis.stairs n (before_by cmp n) (generators m laws n ps)) → IsOkAnd r (Holds m laws cmp n ps)
