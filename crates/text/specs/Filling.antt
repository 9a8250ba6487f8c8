-- What entering the polynomials of a text, one after the other, keeps. Inner: the loop over the polynomials of a text cites it, and no public contract.
--   PolynomialPassed      the questions of the polynomial that the reader p is at, put to the job j, got a yes, and the reader q of the same text follows it
--   PolynomialEntered     the answer to the polynomial that a reader is at: it is passed and the job holds it too; or the question that got a no, and
--                          the job is as it was
--   PolynomialsWalked     i of k polynomials are entered: what is asked, what follows and what is entered is as from the start
--   PolynomialsPassed     the questions of k polynomials got a yes, the reader q follows them, and the job j' holds them too
--   PolynomialsEntered    the answer to k polynomials from a reader's line on: they are passed; or the question that got a no, the job being left with
--                          the polynomials before it
use Rattle.std.specs.Prelude.{◌≡◌, ℕ, ◌+◌, ◌-◌, [], ◌∷◌, Ok, Err, Result}
use Rattle.field.specs.Meaning.{FieldMeaning}
use Rattle.order.specs.Laws.{Comparison}
use Rattle.runs.specs.Question.{AllYes, Refused}
use Rattle.runs.specs.Job.{Job, holding}
use Rattle.runs.specs.Text.{term_count, polynomial, past, polynomials, past_all, polynomial_asks, polynomials_asks}
use Rattle.text.specs.declared.fault.TextFault.{TextFault}
use Rattle.column.specs.declared.reader.Reader.{Reader}
use Rattle.column.specs.Walk.{left}
use Rattle.text.specs.Asked.{Faulted}

pub record PolynomialPassed (m : FieldMeaning) (cmp : Comparison) (j : Job) (p q : Reader) : Type 0 where
  pub asked : AllYes (polynomial_asks m cmp p.place.line j (left p))
  pub rest : left q ≡ past j.n (left p)
  pub line : q.place.line ≡ p.place.line + (1 + term_count (left p))
  pub same_text : q.text.now ≡ p.text.now

abbrev pub PolynomialEntered : FieldMeaning → Comparison → Job → Reader → Job → Result Reader TextFault → Type 0
PolynomialEntered m cmp j p j' (Ok q) = PolynomialPassed m cmp j p q × (j' ≡ holding j (polynomial j.n (left p) ∷ []))
PolynomialEntered m cmp j p j' (Err f) = Faulted (polynomial_asks m cmp p.place.line j (left p)) f × (j' ≡ j)

pub record PolynomialsWalked (m : FieldMeaning) (cmp : Comparison) (k i : ℕ) (j : Job) (p : Reader) (j' : Job) (q : Reader) : Type 0 where
  pub refuses : (number line place : ℕ) → Refused (polynomials_asks m cmp q.place.line j' (k - i) (left q)) number line place → Refused (polynomials_asks m cmp p.place.line j k (left p)) number line place
  pub accepts : AllYes (polynomials_asks m cmp q.place.line j' (k - i) (left q)) → AllYes (polynomials_asks m cmp p.place.line j k (left p))
  pub rest : past_all j.n (k - i) (left q) ≡ past_all j.n k (left p)
  pub enters : holding j' (polynomials j.n (k - i) (left q)) ≡ holding j (polynomials j.n k (left p))
  pub same_n : j'.n ≡ j.n
  pub same_stage : j'.stage ≡ j.stage
  pub same_text : q.text.now ≡ p.text.now

pub record PolynomialsPassed (m : FieldMeaning) (cmp : Comparison) (k : ℕ) (j : Job) (p : Reader) (j' : Job) (q : Reader) : Type 0 where
  pub asked : AllYes (polynomials_asks m cmp p.place.line j k (left p))
  pub rest : left q ≡ past_all j.n k (left p)
  pub enters : j' ≡ holding j (polynomials j.n k (left p))
  pub same_text : q.text.now ≡ p.text.now

abbrev pub PolynomialsEntered : FieldMeaning → Comparison → ℕ → Job → Reader → Job → Result Reader TextFault → Type 0
PolynomialsEntered m cmp k j p j' (Ok q) = PolynomialsPassed m cmp k j p j' q
PolynomialsEntered m cmp k j p j' (Err f) = Faulted (polynomials_asks m cmp p.place.line j k (left p)) f × (j'.n ≡ j.n) × (j'.stage ≡ j.stage)
