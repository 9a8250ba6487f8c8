-- A text that was written reads back.
use Rattle.std.proofs.Common.{◌≡◌, ℕ, List, [], ◌∷◌, ◌++◌, take, drop, Ok, sym, ap, ◌∙◌, subst}
use Rattle.std.proofs.lemmas.List.{take_at}
use Rattle.column.specs.Column.{Word}
use Rattle.field.specs.Meaning.{FieldMeaning, FieldLaws}
use Rattle.order.specs.Laws.{Comparison}
use Rattle.runs.specs.Job.{Job, new}
use Rattle.runs.specs.Sound.{Sound}
use Rattle.runs.specs.Text.{text_polynomials}
use Rattle.runs.specs.Call.{fill, accepted, Answers}
use Rattle.runs.specs.Writing.{basis_text}
use Rattle.runs.proofs.ReadBack.{texts_read_back}
use Rattle.text.specs.Written.{Wrote, ReadsBack, AllWords}

pub reads_back : {E : Type 0} (short : E) (m : FieldMeaning) (laws : FieldLaws m) (cmp : Comparison) (j : Job) → Sound m laws cmp j → AllWords j.polynomials → (f o : ℕ) → Word f → Word o
    → (old now : List ℕ) (size : ℕ) → Wrote short (basis_text f o j.n j.polynomials) old now (Ok size) → ReadsBack m laws cmp j (take size now) size
reads_back short m laws cmp j S h f o hf ho old now size w =
    let text : List ℕ = basis_text f o j.n j.polynomials in
    let same : take size now ≡ text = ap (take size) w.1 ∙ take_at text (drop size old) size (sym w.0) in
    record {
      answers = λ rest.
          subst (λ (bs : List ℕ). Answers m laws cmp (new j.n) (fill (bs ++ rest)) (accepted (size ∷ []))) (sym same)
          (subst (λ (k : ℕ). Answers m laws cmp (new j.n) (fill (text ++ rest)) (accepted (k ∷ []))) (sym w.0) (texts_read_back m laws cmp j S h f o hf ho rest).answers);
      enters = λ rest. ap (λ (bs : List ℕ). text_polynomials j.n (bs ++ rest)) same ∙ (texts_read_back m laws cmp j S h f o hf ho rest).enters;
    }
