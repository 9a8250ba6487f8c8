-- Runs: a run in parts, that a sound job stays sound, and that a closed job stays as it is.
use Rattle.std.proofs.Common.{◌≡◌, ℕ, List, [], ◌∷◌, ◌++◌, sym, refl, ap, ◌∙◌, subst, ap₂, append_assoc, append-nil}
use Rattle.field.specs.Meaning.{FieldMeaning, FieldLaws}
use Rattle.order.specs.Laws.{Comparison}
use Rattle.runs.specs.Question.{AllYes}
use Rattle.runs.specs.Job.{Term, Stage, Job, opened, closed, new, holding}
use Rattle.runs.specs.Enter.{Enters}
use Rattle.runs.specs.Text.{text_polynomials}
use Rattle.runs.specs.Call.{Call, enter, fill, close, convert, reduce, Answer, refused, accepted, Answers, after}
use Rattle.runs.specs.Run.{Event, open_asks, ends, Follows, Run, enters, entered}
use Rattle.runs.specs.Sound.{Sound, SoundKept}
use Rattle.runs.proofs.Deciding.{not_both_stages}
use Rattle.runs.proofs.Texts.{text_enters}

-- the job by what was entered

after_is : (j : Job) (c : Call) (a : Answer) → after j c a ≡ record { n = j.n; polynomials = j.polynomials ++ enters j.n c a; stage = (after j c a).stage }
after_is j c (refused number line place) = ap (λ (ps : List (List Term)). record { n = j.n; polynomials = ps; stage = j.stage }) (sym (append-nil j.polynomials))
after_is j (enter p) (accepted out) = refl
after_is j (fill bytes) (accepted out) = refl
after_is j close (accepted out) = ap (λ (ps : List (List Term)). record { n = j.n; polynomials = ps; stage = closed }) (sym (append-nil j.polynomials))
after_is j (convert k r room) (accepted out) = ap (λ (ps : List (List Term)). record { n = j.n; polynomials = ps; stage = j.stage }) (sym (append-nil j.polynomials))
after_is j (reduce p room) (accepted out) = ap (λ (ps : List (List Term)). record { n = j.n; polynomials = ps; stage = j.stage }) (sym (append-nil j.polynomials))

pub ends_is : (j : Job) (es : List Event) → ends j es ≡ record { n = j.n; polynomials = j.polynomials ++ entered j.n es; stage = (ends j es).stage }
ends_is j [] = ap (λ (ps : List (List Term)). record { n = j.n; polynomials = ps; stage = j.stage }) (sym (append-nil j.polynomials))
ends_is j (e ∷ es) =
    let is = after_is j e.call e.answer in
    ap (λ (x : Job). ends x es) is
    ∙ ends_is (record { n = j.n; polynomials = j.polynomials ++ enters j.n e.call e.answer; stage = (after j e.call e.answer).stage }) es
    ∙ ap₂ (λ (ps : List (List Term)) (s : Stage). record { n = j.n; polynomials = ps; stage = s }) (append_assoc j.polynomials (enters j.n e.call e.answer) (entered j.n es)) (ap (λ (x : Job). (ends x es).stage) (sym is))

pub entered_append : (n : ℕ) (a b : List Event) → entered n (a ++ b) ≡ entered n a ++ entered n b
entered_append n [] b = refl
entered_append n (e ∷ a) b = ap (λ (x : List (List Term)). enters n e.call e.answer ++ x) (entered_append n a b) ∙ sym (append_assoc (enters n e.call e.answer) (entered n a) (entered n b))

-- polynomials that enter one after the other, in two parts

enters_append : (m : FieldMeaning) (cmp : Comparison) (j : Job) (ps qs : List (List Term)) → Enters m cmp j ps → Enters m cmp (holding j ps) qs → Enters m cmp j (ps ++ qs)
enters_append m cmp j [] qs h g = subst (λ (ps : List (List Term)). Enters m cmp (record { n = j.n; polynomials = ps; stage = j.stage }) qs) (append-nil j.polynomials) g
enters_append m cmp j (p ∷ ps) qs h g =
    (h.0, enters_append m cmp (holding j (p ∷ [])) ps qs h.1 (subst (λ (ps : List (List Term)). Enters m cmp (record { n = j.n; polynomials = ps; stage = j.stage }) qs) (sym (append_assoc j.polynomials (p ∷ []) ps)) g))

module _ (m : FieldMeaning) (laws : FieldLaws m) (cmp : Comparison) where
  -- a run in two parts

  pub follows_first : (j : Job) (a b : List Event) → Follows m laws cmp j (a ++ b) → Follows m laws cmp j a
  follows_first j [] b f = tt
  follows_first j (e ∷ a) b f = (f.0, follows_first (after j e.call e.answer) a b f.1)

  pub follows_rest : (j : Job) (a b : List Event) → Follows m laws cmp j (a ++ b) → Follows m laws cmp (ends j a) b
  follows_rest j [] b f = f
  follows_rest j (e ∷ a) b f = follows_rest (after j e.call e.answer) a b f.1

  pub follows_append : (j : Job) (a b : List Event) → Follows m laws cmp j a → Follows m laws cmp (ends j a) b → Follows m laws cmp j (a ++ b)
  follows_append j [] b f g = g
  follows_append j (e ∷ a) b f g = (f.0, follows_append (after j e.call e.answer) a b f.1 g)

  -- a sound job stays sound

  sound_first : (n : ℕ) → AllYes (open_asks n) → Sound m laws cmp (new n)
  sound_first n y = record { opens = y; entered = tt; closes = λ e. absurd (not_both_stages opened refl e) }

  -- what enters an open sound job
  sound_more : (j : Job) (ps : List (List Term)) → j.stage ≡ opened → Enters m cmp j ps → Sound m laws cmp j → Sound m laws cmp (holding j ps)
  sound_more j ps o h S = record {
    opens = S.opens;
    entered = enters_append m cmp (new j.n) j.polynomials ps S.entered (subst (λ (s : Stage). Enters m cmp (record { n = j.n; polynomials = j.polynomials; stage = s }) ps) o h);
    closes = λ e. absurd (not_both_stages j.stage o e);
  }

  pub sound_after : (j : Job) (c : Call) (a : Answer) → Answers m laws cmp j c a → Sound m laws cmp j → Sound m laws cmp (after j c a)
  sound_after j c (refused number line place) h S = S
  sound_after j (enter p) (accepted out) h S = sound_more j (p ∷ []) h.0.0 (h.0, tt) S
  sound_after j (fill bytes) (accepted out) h S = sound_more j (text_polynomials j.n bytes) h.0.0.0 (text_enters m cmp j bytes h.0) S
  sound_after j close (accepted out) h S = record { opens = S.opens; entered = S.entered; closes = λ e. h.0.1 }
  sound_after j (convert k r room) (accepted out) h S = S
  sound_after j (reduce p room) (accepted out) h S = S

  sound_ends : (j : Job) (es : List Event) → Follows m laws cmp j es → Sound m laws cmp j → Sound m laws cmp (ends j es)
  sound_ends j [] f S = S
  sound_ends j (e ∷ es) f S = sound_ends (after j e.call e.answer) es f.1 (sound_after j e.call e.answer f.0 S)

  pub sound_run : (n : ℕ) (es : List Event) → Run m laws cmp n es → Sound m laws cmp (ends (new n) es)
  sound_run n es run = sound_ends (new n) es run.1 (sound_first n run.0)

  -- a closed job stays as it is, and nothing enters it

  still : (j : Job) (c : Call) (a : Answer) → Answers m laws cmp j c a → j.stage ≡ closed → (after j c a ≡ j) × (enters j.n c a ≡ [])
  still j c (refused number line place) h e = (refl, refl)
  still j (enter p) (accepted out) h e = absurd (not_both_stages j.stage h.0.0 e)
  still j (fill bytes) (accepted out) h e = absurd (not_both_stages j.stage h.0.0.0 e)
  still j close (accepted out) h e = absurd (not_both_stages j.stage h.0.0 e)
  still j (convert k r room) (accepted out) h e = (refl, refl)
  still j (reduce p room) (accepted out) h e = (refl, refl)

  pub quiet : (j : Job) (es : List Event) → Follows m laws cmp j es → j.stage ≡ closed → entered j.n es ≡ []
  quiet j [] f e = refl
  quiet j (x ∷ es) f e =
      let s = still j x.call x.answer f.0 e in
      ap₂ (λ (a b : List (List Term)). a ++ b) s.1 (quiet j es (subst (λ (i : Job). Follows m laws cmp i es) s.0 f.1) e)

pub sound_kept : SoundKept
sound_kept = record { at_first = sound_first; at_each_answer = λ m laws cmp j c a j' h S. subst (Sound m laws cmp) (sym h.leaves) (sound_after m laws cmp j c a h.answers S); at_the_end = sound_run }
