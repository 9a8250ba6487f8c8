-- To each input there is one answer: its questions are settled, and the basis that all yeses give exists and is one.
use Rattle.std.proofs.Common.{◌≡◌, ℕ, List, sym, refl, ap, ◌∙◌, subst}
use Rattle.field.specs.Meaning.{FieldMeaning, FieldLaws}
use Rattle.order.specs.Laws.{Comparison, OrderLaws}
use Rattle.runs.specs.Question.{AllYes}
use Rattle.runs.specs.Job.{Job, shut}
use Rattle.runs.specs.Text.{text_polynomials, header_n}
use Rattle.runs.specs.Writing.{field_code, order_code}
use Rattle.runs.specs.Generators.{D}
use Rattle.runs.specs.Call.{convert}
use Rattle.runs.specs.Run.{open_asks}
use Rattle.runs.specs.Sound.{Sound}
use Rattle.runs.proofs.OneAnswer.{output_some, output_once}
use Rattle.shaping.specs.Questions.{most_words, field_by, order_by, header_asks, job_of, request, variable, vector, basis_asks}
use Rattle.shaping.specs.Answer.{basis_lines, Shaped, Shapes, ShapesAny, Answer, OneAnswer}
use Rattle.shaping.proofs.Laws.{laws_once, field_laws, order_laws}
use Rattle.shaping.proofs.Questions.{told_once, told_some, header_chain, field_yes, open_yes, fill_yes, close_yes, convert_yes, shut_sound, basis_chain}

module _ (m : FieldMeaning) (laws : FieldLaws m) (cmp : Comparison) (n : ℕ) (bs : List ℕ) (O : OrderLaws cmp) (opens : AllYes (open_asks n)) where
  abbrev j : Job
  j = shut (job_of n bs)

  abbrev k : ℕ
  k = variable (request n bs)

  abbrev r : List ℕ
  r = vector (request n bs)

  sound : AllYes (basis_asks m laws cmp n bs) → Sound m laws cmp j
  sound y = shut_sound m laws cmp n bs O opens (fill_yes m laws cmp n bs y) (close_yes m laws cmp n bs y)

  shaped_some : AllYes (basis_asks m laws cmp n bs) → (out : List ℕ) × Shaped m laws cmp n bs out
  shaped_some y =
      let w = output_some m laws cmp O j (sound y) (convert k r most_words) (convert_yes m laws cmp n bs y) in
      (_, record { words = w.0; written = w.1; lines = refl })

  shaped_once : (a b : List ℕ) → AllYes (basis_asks m laws cmp n bs) → Shaped m laws cmp n bs a → Shaped m laws cmp n bs b → a ≡ b
  shaped_once a b y A B =
      A.lines
      ∙ ap (basis_lines n (D m laws cmp n (text_polynomials n bs)) k) (output_once m laws cmp O j (sound y) (convert k r most_words) (convert_yes m laws cmp n bs y) A.words B.words A.written B.written)
      ∙ sym B.lines

  shapes_some : (out : List ℕ) × Shapes m laws cmp n bs out
  shapes_some = told_some (basis_asks m laws cmp n bs) (basis_chain m laws cmp n bs O opens) (Shaped m laws cmp n bs) shaped_some

  shapes_once : (a b : List ℕ) → Shapes m laws cmp n bs a → Shapes m laws cmp n bs b → a ≡ b
  shapes_once = told_once (basis_asks m laws cmp n bs) (basis_chain m laws cmp n bs O opens) (Shaped m laws cmp n bs) shaped_once

module _ (bs : List ℕ) where
  abbrev n : ℕ
  n = header_n bs

  abbrev m : FieldMeaning
  m = field_by (field_code bs)

  abbrev cmp : Comparison
  cmp = order_by (order_code bs) n

  O : OrderLaws cmp
  O = order_laws (order_code bs) n

  any_some : AllYes (header_asks bs) → (out : List ℕ) × ShapesAny bs out
  any_some y =
      let laws = field_laws (field_code bs) (field_yes bs y) in
      let x = shapes_some m laws cmp n bs O (open_yes bs y) in
      (x.0, λ other. subst (λ (L : FieldLaws m). Shapes m L cmp n bs x.0) (laws_once m laws other) x.1)

  any_once : (a b : List ℕ) → AllYes (header_asks bs) → ShapesAny bs a → ShapesAny bs b → a ≡ b
  any_once a b y A B = let laws = field_laws (field_code bs) (field_yes bs y) in shapes_once m laws cmp n bs O (open_yes bs y) a b (A laws) (B laws)

  answer_some : (out : List ℕ) × Answer bs out
  answer_some = told_some (header_asks bs) (header_chain bs) (ShapesAny bs) any_some

  answer_once : (a b : List ℕ) → Answer bs a → Answer bs b → a ≡ b
  answer_once = told_once (header_asks bs) (header_chain bs) (ShapesAny bs) any_once

pub one_answer : OneAnswer
one_answer bs = let x = answer_some bs in (x.0, x.1, λ other y. answer_once bs other x.0 y x.1)
