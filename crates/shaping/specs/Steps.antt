-- What the private functions of the crate answer, one after the other. Inner: no public contract cites it.
--   RefusedBy qs f              the fault f is the first of the questions qs that gets a no, by number, line and place
--   Asked qs r                  r is the answer to the questions qs: accepted if all get a yes, else the first that gets a no
--   Reverses below n r          r is the order below with the variables 1 to n reversed
--   WordsRead k p ws r          the answer of reading k lines of one word each into ws: the reader after them, or the question that got a no
--   Closed                      the job u answered Close by r from the job t, and is again a job as calls leave it
--   JobLoaded                   a new job, filled and closed, and all questions of both got a yes
--   AtRequest                   such a job is loaded, and the reader is behind the basis text
--   Loaded                      the answer of Open, Fill and Close to a new job: it is loaded, or the question that got a no
--   first_asks l n d qs         the questions of the first line of a request
--   FirstRead                   the answer of reading it: the variable and the reader after it, or the question that got a no
--   RequestRead                 the answer of reading a whole request: the variable, the words standing in ws, or the question that got a no
--   BasisGiven                  over a field and an order, all questions got a yes and b is the basis that Convert writes
--   Given                       such a basis, or the question that got a no
--   Passed qs P r               where each of the questions qs gets a yes, P r; otherwise r is the fault of the first that gets a no
--   Ordered                     over a field: the answer for an order code and a number of variables
--   Headed                      the answer to an input, before it is printed
use Rattle.std.specs.Prelude.{◌≡◌, ℕ, suc, ◌*◌, ◌≤◌, ◌⊎◌, List, [], ◌∷◌, ◌++◌, take, Some, Ok, Err, Result, ◌==◌}
use Rattle.std.specs.List.{count_by}
use Rattle.field.specs.Meaning.{FieldMeaning, FieldLaws}
use Rattle.order.specs.declared.rearrangement.Rearrangement.{Rearrangement}
use Rattle.order.specs.declared.renumbered.Renumbered.{Renumbered}
use Rattle.order.specs.Laws.{Comparison}
use Rattle.order.specs.Rearrangements.{reversal}
use Rattle.order.specs.Renumberings.{renumbered}
use Rattle.column.specs.declared.reader.Reader.{Reader}
use Rattle.column.specs.Walk.{left}
use Rattle.runs.specs.Question.{Question, single, AllYes, Refused}
use Rattle.runs.specs.Job.{Job, new, shut}
use Rattle.runs.specs.Text.{line_asks, lines_asks, fill_asks, text_polynomials, text_length, header_n}
use Rattle.runs.specs.Writing.{field_code, order_code}
use Rattle.runs.specs.Generators.{D}
use Rattle.runs.specs.Close.{close_asks}
use Rattle.runs.specs.Convert.{Written}
use Rattle.runs.specs.Call.{close, Answered}
use Rattle.job.specs.declared.table.Table.{Table}
use Rattle.job.specs.State.{state, Kept}
use Rattle.text.specs.declared.fault.TextFault.{TextFault}
use Rattle.text.specs.Asked.{Faulted}
use Rattle.text.specs.Filled.{answer_of}
use Rattle.text.specs.Steps.{LinePassed, LinesPassed}
use Rattle.shaping.specs.declared.fault.ShapeFault.{ShapeFault}
use Rattle.shaping.specs.declared.rows.Basis.{Basis}
use Rattle.shaping.specs.Faults.{number_of, line_of, place_of}
use Rattle.shaping.specs.Questions.{field_by, order_by, code_asks, header_asks, job_of, request, variable, count, column, vector, request_asks, basis_asks}

abbrev pub RefusedBy : List Question → ShapeFault → Type 0
RefusedBy qs f = Refused qs (number_of f) (line_of f) (place_of f)

abbrev pub Asked : {A : Type 0} → List Question → Result A ShapeFault → Type 0
Asked qs (Ok a) = AllYes qs
Asked qs (Err f) = RefusedBy qs f

abbrev pub Reverses : {O : Type 0} → O → ℕ → Renumbered O → Type 0
Reverses below n r = (s : Rearrangement) × (reversal n ≡ Some s) × (renumbered below s ≡ Ok r)

abbrev pub WordsRead : ℕ → Reader → List ℕ → Result Reader TextFault → Type 0
WordsRead k p ws (Ok q) = LinesPassed 1 k p q × (ws ≡ column k (left p))
WordsRead k p ws (Err f) = Faulted (lines_asks p.place.line 1 k (left p)) f

pub record Closed (m : FieldMeaning) (laws : FieldLaws m) (cmp : Comparison) (t u : Table) (r : Result ℕ TextFault) : Type 0 where
  pub answered : Answered m laws cmp (state t) close (answer_of r) (state u)
  pub kept : Kept m laws cmp u

abbrev pub first_asks : ℕ → ℕ → ℕ → List ℕ → List Question
first_asks l n d qs = line_asks l 2 qs ++ (single 20 l ((1 ≤ variable qs) × (variable qs ≤ n)) ∷ single 21 l (count qs ≡ d) ∷ [])

abbrev pub FirstRead : ℕ → ℕ → Reader → Result (ℕ × Reader) TextFault → Type 0
FirstRead n d p (Ok a) = AllYes (first_asks p.place.line n d (left p)) × (a.0 ≡ variable (left p)) × LinePassed 2 p a.1
FirstRead n d p (Err f) = Faulted (first_asks p.place.line n d (left p)) f

abbrev pub RequestRead : ℕ → ℕ → Reader → List ℕ → Result ℕ ShapeFault → Type 0
RequestRead n d p ws (Ok k) = AllYes (request_asks p.place.line n d (left p)) × (k ≡ variable (left p)) × (ws ≡ vector (left p))
RequestRead n d p ws (Err f) = RefusedBy (request_asks p.place.line n d (left p)) f

module _ (m : FieldMeaning) (laws : FieldLaws m) (cmp : Comparison) (n : ℕ) (bs : List ℕ) where
  pub record JobLoaded (j : Job) (end size : ℕ) : Type 0 where
    pub asked : AllYes (fill_asks m cmp (new n) bs ++ close_asks m laws cmp (job_of n bs))
    pub end_is : end ≡ text_length n bs
    pub size_is : size ≡ D m laws cmp n (text_polynomials n bs)
    pub few : size ≤ 48
    pub holds : j ≡ shut (job_of n bs)

  pub record AtRequest (t : Table) (size : ℕ) (p : Reader) : Type 0 where
    pub loaded : JobLoaded (state t) p.place.at size
    pub kept : Kept m laws cmp t
    pub text : p.text.now ≡ bs
    pub line : p.place.line ≡ suc (count_by (λ b. b == 10) (take p.place.at bs))

  abbrev pub Loaded : Table → Result (Reader × ℕ) ShapeFault → Type 0
  Loaded t (Ok a) = AtRequest t a.1 a.0
  Loaded t (Err f) = RefusedBy (fill_asks m cmp (new n) bs ++ close_asks m laws cmp (job_of n bs)) f

  pub record BasisGiven (b : Basis) : Type 0 where
    pub asked : AllYes (basis_asks m laws cmp n bs)
    pub n_is : b.n ≡ n
    pub size_is : b.size ≡ D m laws cmp n (text_polynomials n bs)
    pub k_is : b.k ≡ variable (request n bs)
    pub written : Written m laws cmp n (text_polynomials n bs) (variable (request n bs)) (vector (request n bs)) (take (b.n * b.size) b.words)

  abbrev pub Given : Result Basis ShapeFault → Type 0
  Given (Ok b) = BasisGiven b
  Given (Err f) = RefusedBy (basis_asks m laws cmp n bs) f

abbrev pub Passed : List Question → (Result Basis ShapeFault → Type 0) → Result Basis ShapeFault → Type 0
Passed qs P (Ok b) = AllYes qs × P (Ok b)
Passed qs P (Err f) = RefusedBy qs f ⊎ (AllYes qs × P (Err f))

abbrev pub Ordered : FieldMeaning → ℕ → ℕ → List ℕ → Result Basis ShapeFault → Type 0
Ordered m o n bs = Passed (code_asks o n) (λ r. (laws : FieldLaws m) → Given m laws (order_by o n) n bs r)

abbrev pub Headed : List ℕ → Result Basis ShapeFault → Type 0
Headed bs = Passed (header_asks bs) (λ r. (laws : FieldLaws (field_by (field_code bs))) → Given (field_by (field_code bs)) laws (order_by (order_code bs) (header_n bs)) (header_n bs) bs r)
