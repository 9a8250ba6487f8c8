-- What stands before the basis: the field, the codes and the order that they name, and then the basis that is given over them.
use Rattle.std.proofs.Common.{◌≡◌, ℕ, zero, suc, ◌≤◌, Bool, true, false, cond, T, List, [], ◌++◌, length, Some, None, Option, IsSome, Ok, Err, Result, IsOk, sym, refl, ap, ◌∙◌, ap₂, subst, inl, inr, arith}
use Rattle.std.proofs.lemmas.Bool.{ne_eqb}
use Rattle.std.proofs.lemmas.Bool.Decides.{nat_tests}
use Rattle.field.specs.declared.fault.FieldFault.{FieldFault}
use Rattle.field.specs.declared.fault.FieldFault.TheVariants.{OutOfRange, NotListed}
use Rattle.field.specs.Meaning.{FieldMeaning, FieldLaws, total}
use Rattle.field.specs.Bytes.{bytes}
use Rattle.field.specs.Residues.{residues}
use Rattle.field.specs.Primes.{listed}
use Rattle.field.specs.Faults as field
use Rattle.field.specs.Faults.{in_range, residue_of}
use Rattle.order.specs.declared.rearrangement.Rearrangement.{Rearrangement}
use Rattle.order.specs.declared.renumbered.Renumbered.{Renumbered}
use Rattle.order.specs.declared.fault.OrderFault.{OrderFault}
use Rattle.order.specs.Laws.{Comparison}
use Rattle.order.specs.Rearrangements.{reversal}
use Rattle.order.specs.Renumberings.{renumbers, renumbered}
use Rattle.order.specs.Moves.{renumbered_made, renumbered_parts, reverses}
use Rattle.runs.specs.Question.{Question, AllYes, Refused}
use Rattle.runs.specs.Text.{line_asks, header_n}
use Rattle.runs.specs.Writing.{field_code, order_code}
use Rattle.runs.proofs.Questions.{yes_append}
use Rattle.polynomials.proofs.Answering.{refused_after, refused_first}
use Rattle.shaping.specs.declared.fault.ShapeFault.{ShapeFault}
use Rattle.shaping.specs.declared.fault.ShapeFault.TheVariants.{Field}
use Rattle.shaping.specs.declared.rows.Basis.{Basis}
use Rattle.shaping.specs.Questions.{most_bytes, field_by, reversed, order_by, residue_asks, field_asks, code_asks, header_asks}
use Rattle.shaping.specs.Steps.{RefusedBy, Reverses, Given, Passed, Ordered, Headed}

-- an order with its variables reversed

pub reversal_some : (n : ℕ) → 1 ≤ n → n ≤ 4 → IsSome (reversal n)
unfolding reversal
reversal_some zero l u = absurd (omega (arith, l))
reversal_some (suc zero) l u = refl
reversal_some (suc (suc zero)) l u = refl
reversal_some (suc (suc (suc zero))) l u = refl
reversal_some (suc (suc (suc (suc zero)))) l u = refl
reversal_some (suc (suc (suc (suc (suc n))))) l u = absurd (omega (arith, u))

pub renumbered_ok : {O : Type 0} (below : O) (n : ℕ) (s : Rearrangement) → reversal n ≡ Some s → IsOk (renumbered below s)
renumbered_ok {O} below n s e = subst (λ (r : Result (Renumbered O) OrderFault). IsOk r) (renumbered_made below s (subst T (sym (reverses n s e)) tt)) refl

pub reversed_is : {O : Type 0} (meaning : O → Comparison) (below : O) (n : ℕ) (r : Renumbered O) → Reverses below n r → renumbers (meaning r.below) r.rearrangement ≡ reversed (meaning below) n
reversed_is {O} meaning below n r h =
    let parts = renumbered_parts below h.0 r h.2 in
    ap₂ (λ (b : O) (s : Rearrangement). renumbers (meaning b) s) parts.0 parts.1 ∙ sym (ap (λ (o : Option Rearrangement). elim o [ Some s ↦ renumbers (meaning below) s | None ↦ meaning below ]) h.1)

-- what all yeses give

passed_yes : (qs : List Question) (P : Result Basis ShapeFault → Type 0) (r : Result Basis ShapeFault) → AllYes qs → P r → Passed qs P r
passed_yes qs P (Ok b) y p = (y, p)
passed_yes qs P (Err f) y p = inr (y, p)

pub ordered : (m : FieldMeaning) (cmp : Comparison) (o n : ℕ) (bs : List ℕ) (r : Result Basis ShapeFault) → AllYes (code_asks o n) → cmp ≡ order_by o n → ((laws : FieldLaws m) → Given m laws cmp n bs r) → Ordered m o n bs r
ordered m cmp o n bs r y e h = passed_yes (code_asks o n) (λ (r : Result Basis ShapeFault). (laws : FieldLaws m) → Given m laws (order_by o n) n bs r) r y (λ laws. subst (λ (c : Comparison). Given m laws c n bs r) e (h laws))

-- the field that a code names

field_other : (c : ℕ) → (c ≡ 0 → ⊥) → (field_by c ≡ total (residues c)) × (field_asks c ≡ residue_asks c)
field_other c h = let no = ne_eqb c 0 h in (ap (λ (b : Bool). cond b (total bytes) (total (residues c))) no, ap (λ (b : Bool). cond b [] (residue_asks c)) no)

in_range_known : (c : ℕ) (b : Bool) → in_range c ≡ b → cond b ((2 ≤ c) × (c ≤ 2147483647)) ((2 ≤ c) × (c ≤ 2147483647) → ⊥)
in_range_known c true e = (grind (arith, nat_tests), grind (arith, nat_tests))
in_range_known c false e = λ h. let l = h.0 in let u = h.1 in grind (arith, nat_tests)

Made : ℕ → Result ℕ FieldFault → Type 0
Made c (Ok p) = (p ≡ c) × AllYes (residue_asks c)
Made c (Err e) = Refused (residue_asks c) (field.number_of e) 1 (field.place_of e)

residue_asked : (c : ℕ) → Made c (residue_of c)
unfolding Made
residue_asked c = go (in_range c) (listed c) (in_range_known c (in_range c) refl) refl
  where
    go : (a b : Bool) → cond a ((2 ≤ c) × (c ≤ 2147483647)) ((2 ≤ c) × (c ≤ 2147483647) → ⊥) → listed c ≡ b → Made c (cond a (cond b (Ok c) (Err NotListed)) (Err OutOfRange))
    go true true r l = (refl, (r, (subst T (sym l) tt, tt)))
    go true false r l = inr (r, inl ((λ t. subst T l t), refl, refl, refl))
    go false b r l = inl (r, refl, refl, refl)

module _ (bs : List ℕ) (few : length bs ≤ most_bytes) (first : AllYes (line_asks 1 4 bs)) where
  abbrev fields : List Question
  fields = field_asks (field_code bs)

  abbrev codes : List Question
  codes = code_asks (order_code bs) (header_n bs)

  after_fields : AllYes fields → (f : ShapeFault) → RefusedBy codes f → RefusedBy (header_asks bs) f
  after_fields y f x = inr (few, refused_after (line_asks 1 4 bs) (fields ++ codes) _ _ _ first (refused_after fields codes _ _ _ y x))

  pub field_refused : (c : ℕ) → c ≡ field_code bs → (c ≡ 0 → ⊥) → (e : FieldFault) → residue_of c ≡ Err e → RefusedBy (header_asks bs) (Field e)
  unfolding Made
  field_refused c is h e made =
      let no = subst (Made c) made (residue_asked c) in
      let asks = sym (field_other c h).1 ∙ ap field_asks is in
      inr (few, refused_after (line_asks 1 4 bs) (fields ++ codes) _ _ _ first (refused_first fields codes _ _ _ (subst (λ (qs : List Question). Refused qs (field.number_of e) 1 (field.place_of e)) asks no)))

  module _ (o n : ℕ) (o_is : o ≡ order_code bs) (n_is : n ≡ header_n bs) (r : Result Basis ShapeFault) where
    over : (m : FieldMeaning) → m ≡ field_by (field_code bs) → AllYes fields → Ordered m o n bs r → Headed bs r
    over m m_is y h = go r (subst (λ (x : ℕ). Ordered (field_by (field_code bs)) (order_code bs) x bs r) n_is (subst (λ (x : ℕ). Ordered (field_by (field_code bs)) x n bs r) o_is (subst (λ (x : FieldMeaning). Ordered x o n bs r) m_is h)))
      where
        go : (r : Result Basis ShapeFault) → Ordered (field_by (field_code bs)) (order_code bs) (header_n bs) bs r → Headed bs r
        go (Ok b) x = ((few, yes_append (line_asks 1 4 bs) (fields ++ codes) first (yes_append fields codes y x.0)), x.1)
        go (Err f) (inl x) = inl (after_fields y f x)
        go (Err f) (inr x) = inr ((few, yes_append (line_asks 1 4 bs) (fields ++ codes) first (yes_append fields codes y x.0)), x.1)

    pub over_bytes : (c : ℕ) → c ≡ field_code bs → c ≡ 0 → Ordered (total bytes) o n bs r → Headed bs r
    over_bytes c is z h =
        let zero_is : 0 ≡ field_code bs = sym z ∙ is in
        over (total bytes) (ap field_by zero_is) (subst (λ (x : ℕ). AllYes (field_asks x)) zero_is tt) h

    pub over_residues : (c p : ℕ) → c ≡ field_code bs → (c ≡ 0 → ⊥) → residue_of c ≡ Ok p → Ordered (total (residues p)) o n bs r → Headed bs r
    unfolding Made
    over_residues c p is h made x =
        let yes = subst (Made c) made (residue_asked c) in
        let named = field_other c h in
        over (total (residues p)) (ap (λ (q : ℕ). total (residues q)) yes.0 ∙ sym named.0 ∙ ap field_by is) (subst AllYes (sym named.1 ∙ ap field_asks is) yes.1) x
