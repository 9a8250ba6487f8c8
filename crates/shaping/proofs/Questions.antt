-- The questions of a text and a request, settled one after the other: so each is answered, and in one way.
use Rattle.std.proofs.Common.{◌≡◌, ℕ, suc, ◌≤◌, Bool, true, false, cond, List, [], ◌∷◌, ◌++◌, ◌==◌, sym, refl, ap, ◌∙◌, ap₂, inl, inr}
use native.Mathlib.Decide.{ℕ_discrete, dec_le}
use Rattle.field.specs.Meaning.{FieldMeaning, FieldLaws}
use Rattle.order.specs.Laws.{Comparison, OrderLaws}
use Rattle.runs.specs.Question.{Question, single, AllYes}
use Rattle.runs.specs.Job.{new, shut}
use Rattle.runs.specs.Text.{text_polynomials, text_length, header_n, next, past_terms, line_asks, lines_asks, fill_asks}
use Rattle.runs.specs.Writing.{field_code, order_code}
use Rattle.runs.specs.Generators.{D}
use Rattle.runs.specs.Close.{close_asks}
use Rattle.runs.specs.Convert.{convert_asks}
use Rattle.runs.specs.Call.{fill, close, convert, accepted}
use Rattle.runs.specs.Run.{open_asks}
use Rattle.runs.specs.Sound.{Sound}
use Rattle.runs.proofs.Questions.{yes_first, yes_rest, Chain, ◌▸◌, chain_append, refused_once, refused_not, Decided, decide, settled}
use Rattle.runs.proofs.Deciding.{both_known, test_known, nil_known}
use Rattle.runs.proofs.Texts.{line_chain, lines_chain, fill_chain}
use Rattle.runs.proofs.Runs.{sound_kept, sound_after}
use Rattle.runs.proofs.OneAnswer.{chain}
use Rattle.shaping.specs.Faults.{refusal}
use Rattle.shaping.specs.Questions.{most_bytes, most_words, in_line, residue_asks, field_asks, code_asks, header_asks, job_of, request, request_line, variable, count, vector, request_asks, basis_asks}
use Rattle.shaping.specs.Answer.{Told}

-- questions about another line

pub chain_in_line : (l : ℕ) (qs : List Question) → Chain qs → Chain (in_line l qs)
chain_in_line l [] c = tt
chain_in_line l (q ∷ qs) c = (record { known = c.0.known; once = c.0.once }, λ y. chain_in_line l qs (c.1 y))

pub yes_in_line : (l : ℕ) (qs : List Question) → AllYes (in_line l qs) → AllYes qs
yes_in_line l [] y = tt
yes_in_line l (q ∷ qs) y = (y.0, yes_in_line l qs y.1)

-- the first question that gets a no is told, or what all yeses give

pub told_once : (qs : List Question) → Chain qs → (P : List ℕ → Type 0) → ((a b : List ℕ) → AllYes qs → P a → P b → a ≡ b) → (a b : List ℕ) → Told qs P a → Told qs P b → a ≡ b
told_once qs c P h a b (inl x) (inl y) =
    let z = refused_once qs c x.0 x.1 x.2 y.0 y.1 y.2 x.3 y.3 in
    x.4 ∙ ap₂ (λ (n l : ℕ). refusal n l x.2) z.0 z.1 ∙ ap (refusal y.0 y.1) z.2 ∙ sym y.4
told_once qs c P h a b (inl x) (inr y) = absurd (refused_not qs x.0 x.1 x.2 y.0 x.3)
told_once qs c P h a b (inr x) (inl y) = absurd (refused_not qs y.0 y.1 y.2 x.0 y.3)
told_once qs c P h a b (inr x) (inr y) = h a b x.0 x.1 y.1

pub told_some : (qs : List Question) → Chain qs → (P : List ℕ → Type 0) → (AllYes qs → (out : List ℕ) × P out) → (out : List ℕ) × Told qs P out
told_some qs c P h = go (decide qs c)
  where
    go : Decided qs → (out : List ℕ) × Told qs P out
    go (inl y) = let x = h y in (x.0, inr (y, x.1))
    go (inr x) = (refusal x.0 x.1 x.2, inl (x.0, x.1, x.2, x.3, refl))

-- before the basis

field_chain : (c : ℕ) → Chain (field_asks c)
field_chain c = go (c == 0)
  where
    go : (b : Bool) → Chain (cond b [] (residue_asks c))
    go true = tt
    go false = settled 1 1 (both_known (dec_le _ _) (dec_le _ _)) ▸ settled 2 1 (test_known _) ▸ tt

pub header_chain : (bs : List ℕ) → Chain (header_asks bs)
header_chain bs =
    settled 32 0 (dec_le _ most_bytes)
    ▸ chain_append (line_asks 1 4 bs) (field_asks (field_code bs) ++ code_asks (order_code bs) (header_n bs)) (line_chain 1 4 bs) (λ y.
    chain_append (field_asks (field_code bs)) (code_asks (order_code bs) (header_n bs)) (field_chain (field_code bs)) (λ z.
    settled 31 1 (both_known (dec_le _ _) (dec_le _ _))
    ▸ chain_in_line 1 (open_asks (header_n bs)) (settled 4 0 (both_known (dec_le _ _) (dec_le _ _)) ▸ tt)))

pub field_yes : (bs : List ℕ) → AllYes (header_asks bs) → AllYes (field_asks (field_code bs))
field_yes bs y = yes_first (field_asks (field_code bs)) (code_asks (order_code bs) (header_n bs)) y.1.1.1

pub open_yes : (bs : List ℕ) → AllYes (header_asks bs) → AllYes (open_asks (header_n bs))
open_yes bs y = (yes_rest (field_asks (field_code bs)) (code_asks (order_code bs) (header_n bs)) y.1.1.1).1

-- the request

-- what follows the questions of its first line
abbrev pub word_asks : ℕ → List ℕ → List Question
word_asks l qs = lines_asks (suc l) 1 (count qs) (next 2 qs) ++ (single 30 0 (past_terms 1 (count qs) (next 2 qs) ≡ []) ∷ [])

request_chain : (l n d : ℕ) (qs : List ℕ) → Chain (request_asks l n d qs)
request_chain l n d qs =
    chain_append (line_asks l 2 qs) (single 20 l ((1 ≤ variable qs) × (variable qs ≤ n)) ∷ single 21 l (count qs ≡ d) ∷ word_asks l qs) (line_chain l 2 qs) (λ y.
    settled 20 l (both_known (dec_le _ _) (dec_le _ _))
    ▸ settled 21 l (ℕ_discrete _ _)
    ▸ chain_append (lines_asks (suc l) 1 (count qs) (next 2 qs)) (single 30 0 (past_terms 1 (count qs) (next 2 qs) ≡ []) ∷ []) (lines_chain _ 1 (count qs) (next 2 qs)) (λ z. settled 30 0 (nil_known _) ▸ tt))

-- the basis and the request

module _ (m : FieldMeaning) (laws : FieldLaws m) (cmp : Comparison) (n : ℕ) (bs : List ℕ) where
  abbrev pub d : ℕ
  d = D m laws cmp n (text_polynomials n bs)

  abbrev pub l : ℕ
  l = request_line n bs

  abbrev pub qs : List ℕ
  qs = request n bs

  -- the questions of Convert
  abbrev pub shape_asks : List Question
  shape_asks = convert_asks m laws cmp (shut (job_of n bs)) (variable qs) (vector qs) most_words

  -- what follows each part
  abbrev pub after_close : List Question
  after_close = request_asks l n d qs ++ in_line l shape_asks

  abbrev pub after_fill : List Question
  after_fill = close_asks m laws cmp (job_of n bs) ++ after_close

  pub fill_yes : AllYes (basis_asks m laws cmp n bs) → AllYes (fill_asks m cmp (new n) bs)
  fill_yes = yes_first (fill_asks m cmp (new n) bs) after_fill

  pub close_yes : AllYes (basis_asks m laws cmp n bs) → AllYes (close_asks m laws cmp (job_of n bs))
  close_yes y = yes_first (close_asks m laws cmp (job_of n bs)) after_close (yes_rest (fill_asks m cmp (new n) bs) after_fill y)

  pub convert_yes : AllYes (basis_asks m laws cmp n bs) → AllYes shape_asks
  convert_yes y =
      yes_in_line l shape_asks (yes_rest (request_asks l n d qs) (in_line l shape_asks) (yes_rest (close_asks m laws cmp (job_of n bs)) after_close (yes_rest (fill_asks m cmp (new n) bs) after_fill y)))

  module _ (O : OrderLaws cmp) (opens : AllYes (open_asks n)) where
    -- the job that Fill leaves is sound, and the one that Close leaves
    pub filled_sound : AllYes (fill_asks m cmp (new n) bs) → Sound m laws cmp (job_of n bs)
    filled_sound f = sound_after m laws cmp (new n) (fill bs) (accepted (text_length n bs ∷ [])) (f, refl) (sound_kept.at_first m laws cmp n opens)

    pub shut_sound : AllYes (fill_asks m cmp (new n) bs) → AllYes (close_asks m laws cmp (job_of n bs)) → Sound m laws cmp (shut (job_of n bs))
    shut_sound f y = sound_after m laws cmp (job_of n bs) close (accepted _) (y, refl) (filled_sound f)

    pub basis_chain : Chain (basis_asks m laws cmp n bs)
    basis_chain =
        chain_append (fill_asks m cmp (new n) bs) after_fill (fill_chain m cmp (new n) bs) (λ f.
        chain_append (close_asks m laws cmp (job_of n bs)) after_close (chain m laws cmp O (job_of n bs) (filled_sound f) close) (λ c.
        chain_append (request_asks l n d qs) (in_line l shape_asks) (request_chain l n d qs) (λ r.
        chain_in_line l shape_asks (chain m laws cmp O (shut (job_of n bs)) (shut_sound f c) (convert (variable qs) (vector qs) most_words)))))
