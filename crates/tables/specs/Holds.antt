-- What it means that the tables of a job are those of its polynomials.
--   stair_count t                 how many staircase monomials the tables hold
--   places_of t k                 the places of the products of x_k and the staircase monomials
--   entry_of m laws t k j i       the element in row j and column i of the matrix of x_k that the tables hold
--   Ready t n                     the steps of the first n variables fit
--   Holds m laws cmp n ps t       the tables t hold the staircase of the polynomials ps, and the multiplication matrices T_k
--   Steps m t k v room out r      what a step answers and writes
-- Used by: Close, which makes the tables, and the calls to a closed job, which read them.
use Rattle.std.specs.Prelude.{◌≡◌, ℕ, ◌<◌, ◌≤◌, List, map, length, take, Result, IsOk, OnOk}
use Rattle.arrayvec.specs.ArrayVec.{array_vec_len}
use Rattle.field.specs.Meaning.{FieldMeaning, FieldLaws}
use Rattle.order.specs.Monomials.{variables}
use Rattle.order.specs.Laws.{Comparison}
use Rattle.algebra.specs.Vector.{apply}
use Rattle.algebra.specs.Elements.{Elem, Elems, field_of, read}
use Rattle.algebra.specs.Records.{flat, before_by}
use Rattle.algebra.specs.Basis as basis
use Rattle.linear.specs.declared.step.Place.{Place}
use Rattle.linear.specs.Step.{Fits, matrix}
use Rattle.runs.specs.Job.{Term}
use Rattle.runs.specs.Generators.{generators, D, Tk}
use Rattle.tables.specs.declared.tables.Tables.{Tables}
use Rattle.tables.specs.Products.{places_at}

abbrev pub stair_count : Tables → ℕ
stair_count t = array_vec_len t.stairs

abbrev pub places_of : Tables → ℕ → List Place
places_of t k = places_at t.products k

abbrev pub entry_of : (m : FieldMeaning) → FieldLaws m → Tables → ℕ → ℕ → ℕ → Elem m
entry_of m laws t k = matrix m laws (places_of t k) t.columns 48

abbrev pub Ready : Tables → ℕ → Type 0
Ready t n = (k : ℕ) → k < n → Fits (stair_count t) (places_of t k) (length t.columns) 48 (stair_count t) (stair_count t)

pub record Holds (m : FieldMeaning) (laws : FieldLaws m) (cmp : Comparison) (n : ℕ) (ps : List (List Term)) (t : Tables) : Type 0 where
  pub size : stair_count t ≡ D m laws cmp n ps
  pub stairs : t.stairs.items ≡ map (flat n) (basis.stairs n (before_by cmp n) (generators m laws n ps))
  pub ready : Ready t n
  pub entries : (k j i : ℕ) → k < n → j < stair_count t → i < stair_count t → entry_of m laws t k j i ≡ Tk m laws cmp n ps k j i

pub record Stepped (m : FieldMeaning) (t : Tables) (k : ℕ) (v out : List ℕ) : Type 0 where
  pub elements : Elems m (take (stair_count t) out)
  pub applied : (laws : FieldLaws m) (j : ℕ) → j < stair_count t → read m laws out j ≡ apply (field_of m laws) (stair_count t) (entry_of m laws t k) (read m laws v) j

pub record Steps {A E : Type 0} (m : FieldMeaning) (t : Tables) (k : ℕ) (v : List ℕ) (room : ℕ) (out : List ℕ) (r : Result A E) : Type 0 where
  pub answers : (n : ℕ) → n ≤ variables → k < n → Ready t n → stair_count t ≤ length v → stair_count t ≤ room → IsOk r
  pub product : OnOk r (Elems m (take (stair_count t) v) → Stepped m t k v out)
