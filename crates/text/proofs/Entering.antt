-- The polynomials of a text, entered one after the other: from what is read and what Enter answers to the questions of Fill.
use Rattle.std.proofs.Common.{◌≡◌, ℕ, suc, ◌+◌, ◌-◌, ◌<◌, ◌≢◌, List, [], ◌∷◌, ◌++◌, length, get_or, Ok, Err, Result, sym, refl, ap, ◌∙◌, subst, ap₂, inl, inr, append_assoc, arith, length-drop}
use Rattle.std.specs.Result.{result_unwrap_or, result_map_both}
use Rattle.column.specs.Line.{reading_line}
use Rattle.column.specs.declared.line.LineFault.{LineFault}
use Rattle.field.specs.Meaning.{FieldMeaning}
use Rattle.order.specs.Laws.{Comparison}
use Rattle.polynomials.proofs.Answering.{refused_first, refused_after}
use Rattle.runs.specs.Question.{Question, AllYes, Refused}
use Rattle.runs.specs.Job as job
use Rattle.runs.specs.Job.{Stage, Job, opened, holding}
use Rattle.runs.specs.Enter.{room_asks, terms_asks, enter_asks}
use Rattle.runs.specs.Text.{words, next, terms, past_terms, term_count, polynomial, past, polynomials, past_all, header_n, header_count, text_length, line_asks, lines_asks, polynomial_asks, polynomials_asks, fill_asks}
use Rattle.runs.specs.Writing.{field_code, order_code}
use Rattle.runs.proofs.Questions.{yes_append, yes_rest}
use Rattle.runs.proofs.Texts.{length_terms, body_asks, later_asks, header_asks}
use Rattle.column.specs.declared.reader.Reader.{Reader}
use Rattle.column.specs.Walk.{left}
use Rattle.text.specs.declared.fault.TextFault.TheVariants.{Line, NotEmpty, OtherVariables}
use Rattle.text.specs.Asked.{Faulted, header_of}
use Rattle.text.specs.Clamped.{clamped_terms}
use Rattle.text.specs.Steps.{LinePassed, LinesPassed}
use Rattle.text.specs.Filling.{PolynomialPassed, PolynomialsWalked, PolynomialsPassed}
use Rattle.text.proofs.Clamping.{length_clamped, clamped_accepted, clamped_refused}
use Rattle.text.proofs.Walking.{one_less}

-- questions after those that got a yes
refused_rest : (xs ys : List Question) (number line place : ℕ) → AllYes xs → Refused (xs ++ ys) number line place → Refused ys number line place
refused_rest [] ys number line place y r = r
refused_rest (q ∷ xs) ys number line place y (inl r) = absurd (r.0 y.0)
refused_rest (q ∷ xs) ys number line place y (inr r) = refused_rest xs ys number line place y.1 r.1

-- ---- the line that a no carries

-- the room for c terms, asked in one line or another
pub room_in_line : (l k : ℕ) (j : Job) (c number line place : ℕ) → Refused (room_asks l j c) number line place → Refused (room_asks k j c) number k place
room_in_line l k j c number line place (inl x) = inl (x.0, x.1, refl, x.3)
room_in_line l k j c number line place (inr (y, inl x)) = inr (y, inl (x.0, x.1, refl, x.3))
room_in_line l k j c number line place (inr (y, inr (z, inl x))) = inr (y, inr (z, inl (x.0, x.1, refl, x.3)))
room_in_line l k j c number line place (inr (y, inr (z, inr (w, r)))) = absurd r

module _ (m : FieldMeaning) (cmp : Comparison) where
  pub terms_in_line : (n l k : ℕ) (ts : List job.Term) (number line place : ℕ) → Refused (terms_asks m cmp n l ts) number line place → Refused (terms_asks m cmp n k ts) number k place
  terms_in_line n l k ts number line place (inl x) = inl (x.0, x.1, refl, x.3)
  terms_in_line n l k ts number line place (inr (y, inl x)) = inr (y, inl (x.0, x.1, refl, x.3))
  terms_in_line n l k ts number line place (inr (y, inr (z, inl x))) = inr (y, inr (z, inl (x.0, x.1, refl, x.3)))
  terms_in_line n l k ts number line place (inr (y, inr (z, inr (w, inl x)))) = inr (y, inr (z, inr (w, inl (x.0, x.1, refl, x.3))))
  terms_in_line n l k ts number line place (inr (y, inr (z, inr (w, inr (v, r))))) = absurd r

  -- an open job with room asks only the terms
  pub enter_terms : (j : Job) (ts : List job.Term) → j.stage ≡ opened → AllYes (room_asks 0 j (length ts)) → (number line place : ℕ) → Refused (enter_asks m cmp j ts) number line place → Refused (terms_asks m cmp j.n 0 ts) number line place
  enter_terms j ts o y number line place (inl x) = absurd (x.0 o)
  enter_terms j ts o y number line place (inr x) = refused_rest (room_asks 0 j (length ts)) (terms_asks m cmp j.n 0 ts) number line place y x.1

  -- ---- one polynomial

  module _ (j : Job) (p : Reader) where
    abbrev from : List ℕ
    from = left p

    abbrev Refusal : ℕ → ℕ → ℕ → Type 0
    Refusal number line place = Refused (polynomial_asks m cmp p.place.line j (left p)) number line place

    module _ (count : ℕ) (first : Reader) (is : count ≡ term_count from) (l : LinePassed 1 p first) where
      after-count : (number line place : ℕ) → Refused (room_asks p.place.line j (term_count from) ++ body_asks m cmp p.place.line j from) number line place → Refusal number line place
      after-count number line place r = refused_after (line_asks p.place.line 1 from) (room_asks p.place.line j (term_count from) ++ body_asks m cmp p.place.line j from) number line place l.asked r

      -- there is no room for so many terms
      pub room-refused : (number line place : ℕ) → Refused (room_asks 0 j count) number line place → Refusal number p.place.line place
      room-refused number line place r =
          let k = subst (λ (c : ℕ). Refused (room_asks p.place.line j c) number p.place.line place) is (room_in_line 0 p.place.line j count number line place r) in
          after-count number p.place.line place (refused_first (room_asks p.place.line j (term_count from)) (body_asks m cmp p.place.line j from) number p.place.line place k)

      module _ (room : AllYes (room_asks 0 j count)) where
        after-room : (number line place : ℕ) → Refused (body_asks m cmp p.place.line j from) number line place → Refusal number line place
        after-room number line place r =
            let y = subst (λ (c : ℕ). AllYes (room_asks 0 j c)) is room in
            after-count number line place (refused_after (room_asks p.place.line j (term_count from)) (body_asks m cmp p.place.line j from) number line place y r)

        -- the term lines, from the place where they stand
        lines-there : (number line place : ℕ) → Refused (lines_asks first.place.line (suc j.n) count (left first)) number line place → Refused (lines_asks (suc p.place.line) (suc j.n) (term_count from) (next 1 from)) number line place
        lines-there number line place r =
            let a = subst (λ (x : ℕ). Refused (lines_asks x (suc j.n) count (left first)) number line place) l.line r in
            let b = subst (λ (x : List ℕ). Refused (lines_asks (suc p.place.line) (suc j.n) count x) number line place) l.rest a in
            subst (λ (c : ℕ). Refused (lines_asks (suc p.place.line) (suc j.n) c (next 1 from)) number line place) is b

        lines-passed : AllYes (lines_asks first.place.line (suc j.n) count (left first)) → AllYes (lines_asks (suc p.place.line) (suc j.n) (term_count from) (next 1 from))
        lines-passed y =
            let a = subst (λ (x : ℕ). AllYes (lines_asks x (suc j.n) count (left first))) l.line y in
            let b = subst (λ (x : List ℕ). AllYes (lines_asks (suc p.place.line) (suc j.n) count x)) l.rest a in
            subst (λ (c : ℕ). AllYes (lines_asks (suc p.place.line) (suc j.n) c (next 1 from))) is b

        -- a term line does not read
        pub lines-refused : (number line place : ℕ) → Refused (lines_asks first.place.line (suc j.n) count (left first)) number line place → Refusal number line place
        lines-refused number line place r =
            after-room number line place (refused_first (lines_asks (suc p.place.line) (suc j.n) (term_count from) (next 1 from)) (terms_asks m cmp j.n p.place.line (polynomial j.n from)) number line place (lines-there number line place r))

        module _ (end : Reader) (ls : LinesPassed (suc j.n) count first end) (ts : List job.Term) (e : ts ≡ clamped_terms (terms (suc j.n) count (left first))) (open' : j.stage ≡ opened) where
          terms-are : ts ≡ clamped_terms (polynomial j.n from)
          terms-are = e ∙ ap₂ (λ (c : ℕ) (bs : List ℕ). clamped_terms (terms (suc j.n) c bs)) is l.rest

          as_many : length ts ≡ count
          as_many = ap length e ∙ length_clamped (terms (suc j.n) count (left first)) ∙ length_terms m cmp (suc j.n) count (left first)

          -- Enter refuses the terms
          pub terms-refused : (number line place : ℕ) → Refused (enter_asks m cmp j ts) number line place → Refusal number p.place.line place
          terms-refused number line place r =
              let y = subst (λ (c : ℕ). AllYes (room_asks 0 j c)) (sym as_many) room in
              let a = terms_in_line j.n 0 p.place.line ts number line place (enter_terms j ts open' y number line place r) in
              let b = clamped_refused m cmp j.n p.place.line (polynomial j.n from) number p.place.line place (subst (λ (us : List job.Term). Refused (terms_asks m cmp j.n p.place.line us) number p.place.line place) terms-are a) in
              after-room number p.place.line place (refused_after (lines_asks (suc p.place.line) (suc j.n) (term_count from) (next 1 from)) (terms_asks m cmp j.n p.place.line (polynomial j.n from)) number p.place.line place (lines-passed ls.asked) b)

          module _ (y : AllYes (enter_asks m cmp j ts)) where
            terms-yes : AllYes (terms_asks m cmp j.n p.place.line (clamped_terms (polynomial j.n from)))
            terms-yes = subst (λ (us : List job.Term). AllYes (terms_asks m cmp j.n p.place.line us)) terms-are (yes_rest (room_asks 0 j (length ts)) (terms_asks m cmp j.n 0 ts) y.1)

            -- Enter takes them: they are those of the text
            pub entered-terms : ts ≡ polynomial j.n from
            entered-terms = terms-are ∙ clamped_accepted m cmp j.n p.place.line (polynomial j.n from) terms-yes

            pub polynomial-passed : PolynomialPassed m cmp j p end
            polynomial-passed = record {
              asked =
                  yes_append (line_asks p.place.line 1 from) (room_asks p.place.line j (term_count from) ++ body_asks m cmp p.place.line j from) l.asked
                  (yes_append (room_asks p.place.line j (term_count from)) (body_asks m cmp p.place.line j from) (subst (λ (c : ℕ). AllYes (room_asks 0 j c)) is room)
                  (yes_append (lines_asks (suc p.place.line) (suc j.n) (term_count from) (next 1 from)) (terms_asks m cmp j.n p.place.line (polynomial j.n from)) (lines-passed ls.asked)
                  (subst (λ (us : List job.Term). AllYes (terms_asks m cmp j.n p.place.line us)) (clamped_accepted m cmp j.n p.place.line (polynomial j.n from) terms-yes) terms-yes)));
              rest = ls.rest ∙ ap₂ (λ (c : ℕ) (bs : List ℕ). past_terms (suc j.n) c bs) is l.rest;
              line = omega (arith, ls.line, l.line, is);
              same_text = ls.same_text ∙ l.same_text;
            }

  -- ---- all polynomials

  module _ (k : ℕ) (j : Job) (p : Reader) where
    pub polynomials_none : PolynomialsWalked m cmp k 0 j p j p
    polynomials_none =
        let e : k - 0 ≡ k = omega arith in
        record {
          refuses = λ number line place r. subst (λ (x : ℕ). Refused (polynomials_asks m cmp p.place.line j x (left p)) number line place) e r;
          accepts = λ y. subst (λ (x : ℕ). AllYes (polynomials_asks m cmp p.place.line j x (left p))) e y;
          rest = ap (λ (x : ℕ). past_all j.n x (left p)) e;
          enters = ap (λ (x : ℕ). holding j (polynomials j.n x (left p))) e;
          same_n = refl;
          same_stage = refl;
          same_text = refl;
        }

    module _ (i : ℕ) (j' : Job) (q : Reader) (h : i < k) (w : PolynomialsWalked m cmp k i j p j' q) where
      abbrev there : List ℕ
      there = left q

      -- the polynomial at q is refused
      pub polynomials-broken : (number line place : ℕ) → Refused (polynomial_asks m cmp q.place.line j' there) number line place → Refused (polynomials_asks m cmp p.place.line j k (left p)) number line place
      polynomials-broken number line place r =
          w.refuses number line place
          (subst (λ (x : ℕ). Refused (polynomials_asks m cmp q.place.line j' x there) number line place) (sym (one_less k i h))
          (refused_first (polynomial_asks m cmp q.place.line j' there) (later_asks m cmp q.place.line j' (k - (i + 1)) there) number line place r))

      -- it is entered
      module _ (s : Reader) (j'' : Job) (l : PolynomialPassed m cmp j' q s) (e : j'' ≡ holding j' (polynomial j'.n there ∷ [])) where
        refused-there : (number line place : ℕ) → Refused (polynomials_asks m cmp s.place.line j'' (k - (i + 1)) (left s)) number line place → Refused (polynomials_asks m cmp q.place.line j' (k - i) there) number line place
        refused-there number line place r =
            let a = subst (λ (x : ℕ). Refused (polynomials_asks m cmp x j'' (k - (i + 1)) (left s)) number line place) l.line r in
            let b = subst (λ (x : List ℕ). Refused (polynomials_asks m cmp (q.place.line + (1 + term_count there)) j'' (k - (i + 1)) x) number line place) l.rest a in
            let d = subst (λ (x : Job). Refused (polynomials_asks m cmp (q.place.line + (1 + term_count there)) x (k - (i + 1)) (past j'.n there)) number line place) e b in
            subst (λ (x : ℕ). Refused (polynomials_asks m cmp q.place.line j' x there) number line place) (sym (one_less k i h))
            (refused_after (polynomial_asks m cmp q.place.line j' there) (later_asks m cmp q.place.line j' (k - (i + 1)) there) number line place l.asked d)

        yes-there : AllYes (polynomials_asks m cmp s.place.line j'' (k - (i + 1)) (left s)) → AllYes (polynomials_asks m cmp q.place.line j' (k - i) there)
        yes-there y =
            let a = subst (λ (x : ℕ). AllYes (polynomials_asks m cmp x j'' (k - (i + 1)) (left s))) l.line y in
            let b = subst (λ (x : List ℕ). AllYes (polynomials_asks m cmp (q.place.line + (1 + term_count there)) j'' (k - (i + 1)) x)) l.rest a in
            let d = subst (λ (x : Job). AllYes (polynomials_asks m cmp (q.place.line + (1 + term_count there)) x (k - (i + 1)) (past j'.n there))) e b in
            subst (λ (x : ℕ). AllYes (polynomials_asks m cmp q.place.line j' x there)) (sym (one_less k i h))
            (yes_append (polynomial_asks m cmp q.place.line j' there) (later_asks m cmp q.place.line j' (k - (i + 1)) there) l.asked d)

        -- what follows, and what is entered, in the variables of the job
        rest_is : left s ≡ past j.n there
        rest_is = l.rest ∙ ap (λ (n : ℕ). past n there) w.same_n

        held-is : j'' ≡ holding j' (polynomial j.n there ∷ [])
        held-is = e ∙ ap (λ (n : ℕ). holding j' (polynomial n there ∷ [])) w.same_n

        pub polynomials_more : PolynomialsWalked m cmp k (i + 1) j p j'' s
        polynomials_more = record {
          refuses = λ number line place x. w.refuses number line place (refused-there number line place x);
          accepts = λ y. w.accepts (yes-there y);
          rest = ap (past_all j.n (k - (i + 1))) rest_is ∙ sym (ap (λ (x : ℕ). past_all j.n x there) (one_less k i h)) ∙ w.rest;
          enters =
              ap₂ (λ (x : Job) (bs : List ℕ). holding x (polynomials j.n (k - (i + 1)) bs)) held-is rest_is
              ∙ ap (λ (ps : List (List job.Term)). record { n = j'.n; polynomials = ps; stage = j'.stage }) (append_assoc j'.polynomials (polynomial j.n there ∷ []) (polynomials j.n (k - (i + 1)) (past j.n there)))
              ∙ sym (ap (λ (x : ℕ). holding j' (polynomials j.n x there)) (one_less k i h))
              ∙ w.enters;
          same_n = ap (λ (x : Job). x.n) e ∙ w.same_n;
          same_stage = ap (λ (x : Job). x.stage) e ∙ w.same_stage;
          same_text = l.same_text ∙ w.same_text;
        }

  -- ---- the whole text

  module _ (bytes : List ℕ) (j : Job) where
    -- 28
    pub fill_not_empty : ((j.stage ≡ opened) × (j.polynomials ≡ []) → ⊥) → Faulted (fill_asks m cmp j bytes) NotEmpty
    fill_not_empty d = inl (d, refl, refl, refl)

    module _ (empty : (j.stage ≡ opened) × (j.polynomials ≡ [])) where
      -- 26 and 27 of the header
      pub fill-unread : (number line place : ℕ) → Refused (line_asks 1 4 bytes) number line place → Refused (fill_asks m cmp j bytes) number line place
      fill-unread number line place r = inr (empty, refused_first (line_asks 1 4 bytes) (header_asks m cmp j bytes) number line place r)

      module _ (y : AllYes (line_asks 1 4 bytes)) where
        -- 29
        pub fill-other : header_n bytes ≢ j.n → Faulted (fill_asks m cmp j bytes) OtherVariables
        fill-other d = inr (empty, refused_after (line_asks 1 4 bytes) (header_asks m cmp j bytes) 29 1 0 y (inl (d, refl, refl, refl)))

        -- the polynomials
        pub fill-refused : header_n bytes ≡ j.n → (number line place : ℕ) → Refused (polynomials_asks m cmp 2 j (header_count bytes) (next 4 bytes)) number line place → Refused (fill_asks m cmp j bytes) number line place
        fill-refused e number line place r = inr (empty, refused_after (line_asks 1 4 bytes) (header_asks m cmp j bytes) number line place y (inr (e, r)))

        pub fill-accepted : header_n bytes ≡ j.n → AllYes (polynomials_asks m cmp 2 j (header_count bytes) (next 4 bytes)) → AllYes (fill_asks m cmp j bytes)
        fill-accepted e z = (empty, yes_append (line_asks 1 4 bytes) (header_asks m cmp j bytes) y (e, z))

  -- the place after the last polynomial is the length of the text
  -- the count as the header has it
  pub recounted : (j j' : Job) (p q : Reader) {k l : ℕ} → k ≡ l → PolynomialsPassed m cmp k j p j' q → PolynomialsPassed m cmp l j p j' q
  recounted j j' p q e w = subst (λ (x : ℕ). PolynomialsPassed m cmp x j p j' q) e w

  pub fill_length : (bytes : List ℕ) (j j' : Job) (p q : Reader) → p.text.now ≡ bytes → left p ≡ next 4 bytes → PolynomialsPassed m cmp (header_count bytes) j p j' q → q.place.at ≡ text_length j.n bytes
  fill_length bytes j j' p q text from w =
      let rest : left q ≡ past_all j.n (header_count bytes) (next 4 bytes) = w.rest ∙ ap (past_all j.n (header_count bytes)) from in
      omega (arith, ap length rest, length-drop q.place.at q.text.now, ap length (w.same_text ∙ text), q.inside)

-- a job without polynomials, cleared after a refusal, is as it was
pub cleared_same : (j : Job) (n : ℕ) (stage : Stage) → j.polynomials ≡ [] → n ≡ j.n → stage ≡ j.stage → ◌≡◌ {A = Job} (record { n = n; polynomials = []; stage = stage }) j
cleared_same j n stage none e f = ap₂ (λ (x : ℕ) (y : Stage). record { n = x; polynomials = []; stage = y }) e f ∙ sym (ap (λ (ps : List (List job.Term)). record { n = j.n; polynomials = ps; stage = j.stage }) none)

-- ---- the numbers of the header

module _ (bytes : List ℕ) (h : ℕ × ℕ × ℕ × ℕ) (e : Ok h ≡ header_of bytes) where
  header_words : (r : Result (List ℕ) LineFault) → reading_line 4 bytes ≡ r → Ok h ≡ result_map_both (λ (ws : List ℕ). (get_or ws 0 0, get_or ws 1 0, get_or ws 2 0, get_or ws 3 0)) (λ (f : LineFault). Line f 1) r
      → h ≡ (get_or (words 4 bytes) 0 0, get_or (words 4 bytes) 1 0, get_or (words 4 bytes) 2 0, get_or (words 4 bytes) 3 0)
  unfolding words
  header_words (Ok ws) is x =
      let same : words 4 bytes ≡ ws = ap (λ (r : Result (List ℕ) LineFault). result_unwrap_or r (0 ∷ 0 ∷ 0 ∷ 0 ∷ [])) is in
      let z : h ≡ (get_or ws 0 0, get_or ws 1 0, get_or ws 2 0, get_or ws 3 0) = cc in
      z ∙ ap (λ (vs : List ℕ). (get_or vs 0 0, get_or vs 1 0, get_or vs 2 0, get_or vs 3 0)) (sym same)
  header_words (Err f) is x = absurd (let z : ◌≡◌ {A = ℕ} 0 1 = cc in omega arith)

  pub header_numbers : (h.2 ≡ header_n bytes) × (h.3 ≡ header_count bytes)
  header_numbers = let x = header_words (reading_line 4 bytes) refl e in (ap (λ (a : ℕ × ℕ × ℕ × ℕ). a.2) x, ap (λ (a : ℕ × ℕ × ℕ × ℕ). a.3) x)

  pub header_codes : (h.0 ≡ field_code bytes) × (h.1 ≡ order_code bytes)
  header_codes = let x = header_words (reading_line 4 bytes) refl e in (ap (λ (a : ℕ × ℕ × ℕ × ℕ). a.0) x, ap (λ (a : ℕ × ℕ × ℕ × ℕ). a.1) x)
