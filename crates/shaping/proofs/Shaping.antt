-- A job filled and closed, a request read and the job's Convert: together the questions of a basis text and its request, and the basis that all yeses give.
use Rattle.std.proofs.Common.{◌≡◌, ℕ, suc, ◌*◌, List, [], ◌∷◌, ◌++◌, length, take, drop, Ok, Err, Result, ◌==◌, sym, refl, ap, ◌∙◌, ap₂, subst, inl, inr, length-take}
use Rattle.std.specs.List.{count_by}
use Rattle.std.proofs.lemmas.List.{append_assoc, take_min}
use Rattle.field.specs.Meaning.{FieldMeaning, FieldLaws}
use Rattle.order.specs.Laws.{Comparison}
use Rattle.column.specs.declared.reader.Reader.{Reader}
use Rattle.column.specs.Walk.{left}
use Rattle.runs.specs.Question.{Question, AllYes, Refused}
use Rattle.runs.specs.Job.{Job, new, shut}
use Rattle.runs.specs.Text.{fill_asks, text_polynomials}
use Rattle.runs.specs.Generators.{D}
use Rattle.runs.specs.Close.{close_asks}
use Rattle.runs.specs.Convert.{Written}
use Rattle.runs.specs.Call.{convert, Answered}
use Rattle.runs.proofs.Questions.{yes_append}
use Rattle.polynomials.specs.declared.fault.JobFault.{JobFault}
use Rattle.polynomials.proofs.Answering.{refused_first, refused_after}
use Rattle.job.specs.declared.table.Table.{Table}
use Rattle.job.specs.State.{stairs_held, state}
use Rattle.job.specs.Promise.{answer_of, Promised}
use Rattle.text.specs.declared.fault.TextFault.TheVariants as fault
use Rattle.shaping.specs.declared.fault.ShapeFault.{ShapeFault}
use Rattle.shaping.specs.declared.fault.ShapeFault.TheVariants.{Text}
use Rattle.shaping.specs.declared.rows.Basis.{Basis}
use Rattle.shaping.specs.Questions.{most_words, in_line, job_of, request, request_line, variable, vector, request_asks, basis_asks}
use Rattle.shaping.specs.Steps.{RefusedBy, JobLoaded, AtRequest, BasisGiven}
use Rattle.shaping.proofs.Questions.{shape_asks, after_close}

-- questions about another line

refused_in_line : (l : ℕ) (qs : List Question) (number line place : ℕ) → Refused qs number line place → Refused (in_line l qs) number l place
refused_in_line l [] number line place r = absurd r
refused_in_line l (q ∷ qs) number line place (inl r) = inl (r.0, r.1, refl, r.3)
refused_in_line l (q ∷ qs) number line place (inr r) = inr (r.0, refused_in_line l qs number line place r.1)

yes_about_line : (l : ℕ) (qs : List Question) → AllYes qs → AllYes (in_line l qs)
yes_about_line l [] y = tt
yes_about_line l (q ∷ qs) y = (y.0, yes_about_line l qs y.1)

-- words at the front, known by how many they are
take_size : (c e : ℕ) (xs : List ℕ) → length (take c xs) ≡ e → take c xs ≡ take e xs
take_size c e xs h = sym (take_min c xs) ∙ ap (λ (k : ℕ). take k xs) (sym (length-take c xs) ∙ h)

module _ (m : FieldMeaning) (laws : FieldLaws m) (cmp : Comparison) (n : ℕ) (bs : List ℕ) where
  abbrev fills : List Question
  fills = fill_asks m cmp (new n) bs

  abbrev closes : List Question
  closes = close_asks m laws cmp (job_of n bs)

  abbrev after : List Question
  after = after_close m laws cmp n bs

  in_two : (fills ++ closes) ++ after ≡ basis_asks m laws cmp n bs
  in_two = append_assoc fills closes after

  pub load_refused : (f : ShapeFault) → RefusedBy (fills ++ closes) f → RefusedBy (basis_asks m laws cmp n bs) f
  load_refused f r = subst (λ (qs : List Question). RefusedBy qs f) in_two (refused_first (fills ++ closes) after _ _ _ r)

  -- the job is loaded, and p is at the request
  module _ (t : Table) (size : ℕ) (p : Reader) (here : AtRequest m laws cmp n bs t size p) where
    abbrev L : JobLoaded m laws cmp n bs (state t) p.place.at size
    L = here.loaded

    abbrev d : ℕ
    d = D m laws cmp n (text_polynomials n bs)

    abbrev shapes : List Question
    shapes = in_line (request_line n bs) (shape_asks m laws cmp n bs)

    left_is : left p ≡ request n bs
    left_is = ap₂ (λ (k : ℕ) (xs : List ℕ). drop k xs) L.end_is here.text

    line_is : p.place.line ≡ request_line n bs
    line_is = here.line ∙ ap (λ (k : ℕ). suc (count_by (λ b. b == 10) (take k bs))) L.end_is

    requests_are : request_asks p.place.line n size (left p) ≡ request_asks (request_line n bs) n d (request n bs)
    requests_are = ap₂ (λ (l k : ℕ). request_asks l n k (left p)) line_is L.size_is ∙ ap (request_asks (request_line n bs) n d) left_is

    rest_refused : (f : ShapeFault) → RefusedBy after f → RefusedBy (basis_asks m laws cmp n bs) f
    rest_refused f r = subst (λ (qs : List Question). RefusedBy qs f) in_two (refused_after (fills ++ closes) after _ _ _ L.asked r)

    pub request_refused : (f : ShapeFault) → RefusedBy (request_asks p.place.line n size (left p)) f → RefusedBy (basis_asks m laws cmp n bs) f
    request_refused f r = rest_refused f (refused_first (request_asks (request_line n bs) n d (request n bs)) shapes _ _ _ (subst (λ (qs : List Question). RefusedBy qs f) requests_are r))

    -- the request is read, and Convert answered
    module _ (k : ℕ) (ws : List ℕ) (asked : AllYes (request_asks p.place.line n size (left p))) (k_is : k ≡ variable (left p)) (ws_are : ws ≡ vector (left p))
        (out : List ℕ) (r : Result Unit JobFault) (promised : Promised m cmp t (convert k ws most_words) (answer_of (λ _. take (t.n * stairs_held t.tables) out) r) t) where
      request_yes : AllYes (request_asks (request_line n bs) n d (request n bs))
      request_yes = subst AllYes requests_are asked

      variable_is : k ≡ variable (request n bs)
      variable_is = k_is ∙ ap variable left_is

      vector_are : ws ≡ vector (request n bs)
      vector_are = ws_are ∙ ap vector left_is

      answered : (s : Result Unit JobFault) → r ≡ s → Answered m laws cmp (shut (job_of n bs)) (convert (variable (request n bs)) (vector (request n bs)) most_words) (answer_of (λ _. take (t.n * stairs_held t.tables) out) s) (state t)
      answered s e =
          let a = subst (λ (x : Result Unit JobFault). Answered m laws cmp (state t) (convert k ws most_words) (answer_of (λ _. take (t.n * stairs_held t.tables) out) x) (state t)) e (promised.answered laws here.kept) in
          let b = subst (λ (x : ℕ). Answered m laws cmp (state t) (convert x ws most_words) (answer_of (λ _. take (t.n * stairs_held t.tables) out) s) (state t)) variable_is a in
          let c = subst (λ (x : List ℕ). Answered m laws cmp (state t) (convert (variable (request n bs)) x most_words) (answer_of (λ _. take (t.n * stairs_held t.tables) out) s) (state t)) vector_are b in
          subst (λ (j : Job). Answered m laws cmp j (convert (variable (request n bs)) (vector (request n bs)) most_words) (answer_of (λ _. take (t.n * stairs_held t.tables) out) s) (state t)) L.holds c

      pub shape_refused : (e : JobFault) → r ≡ Err e → RefusedBy (basis_asks m laws cmp n bs) (Text (fault.Job e p.place.line))
      shape_refused e is =
          let no = refused_in_line p.place.line (shape_asks m laws cmp n bs) _ _ _ (answered (Err e) is).answers in
          let here = subst (λ (l : ℕ). RefusedBy (in_line l (shape_asks m laws cmp n bs)) (Text (fault.Job e p.place.line))) line_is no in
          rest_refused (Text (fault.Job e p.place.line)) (refused_after (request_asks (request_line n bs) n d (request n bs)) shapes _ _ _ request_yes here)

      pub shape_given : r ≡ Ok tt → (b : Basis) → b.n ≡ n → b.size ≡ size → b.k ≡ k → b.words ≡ out → BasisGiven m laws cmp n bs b
      shape_given is b n_is size_is k_is words_are =
          let a = (answered (Ok tt) is).answers in
          let sized : b.size ≡ d = size_is ∙ L.size_is in
          let whole : n * d ≡ b.n * b.size = ap₂ (λ (x y : ℕ). x * y) (sym n_is) (sym sized) in
          let front = take_size (t.n * stairs_held t.tables) (b.n * b.size) out (a.1.size ∙ whole) ∙ ap (take (b.n * b.size)) (sym words_are) in
          record {
            asked = subst AllYes in_two (yes_append (fills ++ closes) after L.asked (yes_append (request_asks (request_line n bs) n d (request n bs)) shapes request_yes (yes_about_line (request_line n bs) (shape_asks m laws cmp n bs) a.0)));
            n_is = n_is;
            size_is = sized;
            k_is = k_is ∙ variable_is;
            written = subst (Written m laws cmp n (text_polynomials n bs) (variable (request n bs)) (vector (request n bs))) front a.1;
          }
