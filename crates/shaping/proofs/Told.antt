-- What is printed: the lines of the basis or of the refusal, which are the answer to the text.
use Rattle.std.proofs.Common.{◌≡◌, ℕ, zero, suc, ◌+◌, ◌*◌, ◌≤◌, List, [], ◌∷◌, ◌++◌, length, take, drop, Some, Ok, Err, Option, sym, refl, ap, ◌∙◌, ap₂, inl, inr, arith, take-append-drop}
use Rattle.std.proofs.lemmas.List.{append_assoc, drop-append-le, length-take-le, drop-take}
use Rattle.column.specs.Line.{line, line_length}
use Rattle.column.specs.Place.{put, placed, after}
use Rattle.column.proofs.Places.{with_room}
use Rattle.runs.specs.Text.{header_n}
use Rattle.runs.specs.Writing.{field_code, order_code}
use Rattle.shaping.specs.declared.fault.ShapeFault.{ShapeFault}
use Rattle.shaping.specs.declared.rows.Basis.{Basis}
use Rattle.shaping.specs.Faults.{number_of, layer_at, line_of, place_of, refusal}
use Rattle.shaping.specs.Questions.{field_by, order_by, header_asks, basis_asks}
use Rattle.shaping.specs.Answer.{rows, basis_lines, Answer}
use Rattle.shaping.specs.Steps.{Headed}
use Rattle.shaping.proofs.Laws.{field_laws, order_laws}
use Rattle.shaping.proofs.Questions.{field_yes, open_yes}
use Rattle.shaping.proofs.Bounds.{refused_within}
use Rattle.shaping.proofs.BasisBounds.{header_within, basis_within}

take_front : (d k : ℕ) → d ≤ k → (w : List ℕ) → take d (take k w) ≡ take d w
take_front zero k h w = refl
take_front (suc d) zero h w = absurd (omega arith)
take_front (suc d) (suc k) h [] = refl
take_front (suc d) (suc k) h (x ∷ w) = ap (λ (xs : List ℕ). x ∷ xs) (take_front d k (omega arith) w)

-- n rows of d words are those of the first n times d words
rows_front : (d n : ℕ) (w : List ℕ) → rows d n w ≡ rows d n (take (n * d) w)
rows_front d zero w = refl
rows_front d (suc n) w =
    let e : suc n * d ≡ d + n * d = omega arith in
    let front = take_front d (suc n * d) (omega arith) w in
    let rest = ap (λ (k : ℕ). drop d (take k w)) e ∙ drop-take d (n * d) w in
    ap₂ (λ (x y : List ℕ). line x ++ y) (sym front) (rows_front d n (drop d w) ∙ ap (rows d n) (sym rest))

pub basis_told : (bs : List ℕ) (b : Basis) → Headed bs (Ok b) → Answer bs (basis_lines b.n b.size b.k b.words)
basis_told bs b h = inr (
  h.0,
  λ laws.
      let p = h.1 laws in
      inr (
        p.asked,
        record {
          words = take (b.n * b.size) b.words;
          written = p.written;
          lines = ap (λ (r : List ℕ). line (0 ∷ b.n ∷ b.size ∷ b.k ∷ []) ++ r) (rows_front b.size b.n b.words)
              ∙ ap (λ (n : ℕ). basis_lines n b.size b.k (take (b.n * b.size) b.words)) p.n_is
              ∙ ap₂ (λ (d k : ℕ). basis_lines (header_n bs) d k (take (b.n * b.size) b.words)) p.size_is p.k_is;
        },
      ),
)

pub fault_told : (bs : List ℕ) (f : ShapeFault) → Headed bs (Err f) → Answer bs (refusal (number_of f) (line_of f) (place_of f))
fault_told bs f (inl x) = inl (number_of f, line_of f, place_of f, x, refl)
fault_told bs f (inr x) = inr (x.0, λ laws. inl (number_of f, line_of f, place_of f, x.1 laws, refl))

-- a refusal has a line and a place that fit the words of its report
pub fault_small : (bs : List ℕ) (f : ShapeFault) → Headed bs (Err f) → (line_of f ≤ 9000) × (place_of f ≤ 9000)
fault_small bs f (inl x) = refused_within 9000 (header_asks bs) (header_within bs) _ _ _ x
fault_small bs f (inr x) =
    let n = header_n bs in
    let cmp = order_by (order_code bs) n in
    let laws = field_laws (field_code bs) (field_yes bs x.0) in
    let opens = open_yes bs x.0 in
    refused_within 9000 (basis_asks (field_by (field_code bs)) laws cmp n bs) (basis_within (field_by (field_code bs)) laws cmp (order_laws (order_code bs) n) n opens.0.0 opens.0.1 bs x.0.0) _ _ _ (x.1 laws)

-- the line of a report, written at the front
pub fault_printed : (front new : List ℕ) (f : ShapeFault) (report : List ℕ) (end : Option ℕ) → 2161 ≤ length front → report ≡ number_of f ∷ layer_at (number_of f) ∷ line_of f ∷ place_of f ∷ [] → length (line report) ≡ line_length (length report)
    → end ≡ after front 0 (line report) → new ≡ placed front 0 (line report)
    → (end ≡ Some (length (refusal (number_of f) (line_of f) (place_of f)))) × (new ≡ put front 0 (refusal (number_of f) (line_of f) (place_of f))) × (length (refusal (number_of f) (line_of f) (place_of f)) ≤ 2161)
fault_printed front new f report end room is long e n =
    let size : length (line report) ≡ 45 = long ∙ ap (λ (ws : List ℕ). line_length (length ws)) is in
    let p = with_room front (line report) 0 45 size (omega (arith, room)) in
    let whole : 0 + 45 ≡ length (refusal (number_of f) (line_of f) (place_of f)) = sym size ∙ ap (λ (ws : List ℕ). length (line ws)) is in
    (e ∙ sym p.0 ∙ ap Some whole, n ∙ sym p.1 ∙ ap (λ (ws : List ℕ). put front 0 (line ws)) is, omega (arith, whole))
